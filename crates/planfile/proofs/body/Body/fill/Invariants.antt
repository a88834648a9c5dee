use Rattle.std.proofs.Common.{◌≡◌, ◌-◌, true, ◌++◌, take, drop, is_ok}
use Rattle.planfile.specs.File.{filled, runs_from}
use Rattle.planfile.proofs.body.Body.fill.Given as goal

-- the runs that are left are good, and fill the rest of the places
abbrev pub invariant-loop-k : goal.invariant-loop-k
invariant-loop-k g l =
    (is_ok (runs_from g.K.Kind.weighed l.self.bytes.now l.self.runs (l.self.runs - l.k) l.k) ≡ true)
    × (filled (runs_from g.K.Kind.weighed l.self.bytes.now l.self.runs l.self.runs 0) l.initial.place-items
    ≡ take l.k l.place-items ++ filled (runs_from g.K.Kind.weighed l.self.bytes.now l.self.runs (l.self.runs - l.k) l.k) (drop l.k l.place-items))
