use Rattle.std.proofs.Common.{◌≡◌, drop}
use Rattle.plan.specs.Make.{runs_answer}
use Rattle.plan.proofs.plans.make.check_runs.Given as goal

-- what is left to check gives the answer
abbrev pub invariant-loop-k : goal.invariant-loop-k
invariant-loop-k g l = runs_answer l.points 0 0 l.runs ≡ runs_answer l.points l.last l.k (drop l.k l.runs)
