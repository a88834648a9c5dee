-- Making a plan: the refusals in their order.
use Rattle.std.specs.Prelude.{ℕ, ◌+◌, cond, ◌||◌, List, [], ◌∷◌, length, Ok, Err, Result, nat_le, nat_lt}
use Rattle.fault.specs.declared.plan.PlanFault.{PlanFault}
use Rattle.fault.specs.declared.plan.PlanFault.TheVariants.{Points, Runs, End, Order}
use Rattle.plan.specs.declared.runs.Run.{Run}
use Rattle.plan.specs.declared.plans.Plan.{Plan}

-- the runs from number k on, where the tail before them is `last`: the first end that is no point or tail below the one before
abbrev pub runs_answer : {W : Type 0} → ℕ → ℕ → ℕ → List (Run W) → Result Unit PlanFault
runs_answer points last k [] = Ok tt
runs_answer points last k (r ∷ rs) =
    cond (nat_le points r.tail || nat_le points r.head) (Err (End k))
    (cond (nat_lt r.tail last) (Err (Order k))
    (runs_answer points r.tail (k + 1) rs))

-- the counts, then the runs one by one
abbrev pub check_answer : {W : Type 0} → ℕ → List (Run W) → Result Unit PlanFault
check_answer points runs =
    cond (nat_lt points 1 || nat_lt 256 points) (Err (Points points))
    (cond (nat_lt 1024 (length runs)) (Err (Runs (length runs)))
    (runs_answer points 0 0 runs))

-- a plan is its number of points and its run table
pub record Drawn (W : Type 0) : Type 0 where
  pub points : ℕ
  pub runs : List (Run W)

abbrev pub drawn_once : {W : Type 0} → ℕ → List (Run W) → Result Unit PlanFault → Result (Drawn W) PlanFault
drawn_once points runs (Ok _) = Ok (record { points = points; runs = runs })
drawn_once points runs (Err e) = Err e

-- what making a plan answers
unfoldable pub plan_answer : {W : Type 0} → ℕ → List (Run W) → Result (Drawn W) PlanFault
plan_answer points runs = drawn_once points runs (check_answer points runs)

-- an answer with what its plan holds
abbrev pub told : {W : Type 0} → Result (Plan W) PlanFault → Result (Drawn W) PlanFault
told (Ok p) = Ok (record { points = p.points; runs = p.runs.now })
told (Err e) = Err e
