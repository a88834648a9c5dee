use Rattle.std.proofs.Common.{◌≡◌, ◌-◌}
use Rattle.planfile.specs.File.{done, runs_from}
use Rattle.planfile.proofs.body.Body.check_weights.Given as goal

-- what is left to check gives the answer
abbrev pub invariant-loop-k : goal.invariant-loop-k
invariant-loop-k g l =
    done (runs_from g.K.Kind.weighed l.self.bytes.now l.self.runs l.self.runs 0)
    ≡ done (runs_from g.K.Kind.weighed l.self.bytes.now l.self.runs (l.self.runs - l.k) l.k)
