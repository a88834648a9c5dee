-- The runs that leave a point: one part of the run table.
use Rattle.std.specs.Prelude.{◌≡◌, ℕ, suc, ◌+◌, ◌-◌, ◌<◌, ◌≤◌, cond, List, [], ◌∷◌, take, drop, Some, Ok, Err, Result, nat_lt}
use Rattle.std.specs.Borrow.{Bor}
use Rattle.std.specs.List.{slice_get, range_with_len, flat_map}
use Rattle.fault.specs.declared.plan.PlanFault.{PlanFault}
use Rattle.fault.specs.declared.plan.PlanFault.TheVariants.{Point}
use Rattle.plan.specs.declared.runs.Run.{Run}

-- the number of the first run whose tail is not below the point, or the number of runs
abbrev pub first_from : {W : Type 0} → ℕ → List (Run W) → ℕ
first_from point [] = 0
first_from point (r ∷ rs) = cond (nat_lt r.tail point) (suc (first_from point rs)) 0

-- the part of the table from the first tail not below the point up to the first above it
abbrev pub leaving_part : {W : Type 0} → ℕ → List (Run W) → List (Run W)
leaving_part point runs = take (first_from (point + 1) runs - first_from point runs) (drop (first_from point runs) runs)

abbrev pub leaving_answer : {W : Type 0} → ℕ → List (Run W) → ℕ → Result (List (Run W)) PlanFault
leaving_answer points runs point = cond (nat_lt point points) (Ok (leaving_part point runs)) (Err (Point point))

-- an answer with what its part holds
abbrev pub part : {W : Type 0} → Result (Bor (List (Run W))) PlanFault → Result (List (Run W)) PlanFault
part (Ok runs) = Ok runs.now
part (Err e) = Err e

-- the runs that leave the point are the `count` runs from number `first` on, and no others
abbrev pub Leave : {W : Type 0} → List (Run W) → ℕ → ℕ → ℕ → Type 0
Leave {W} runs point first count = (k : ℕ) (r : Run W) → slice_get runs k ≡ Some r →
    (r.tail ≡ point → (first ≤ k) × (k < first + count)) × (first ≤ k → k < first + count → r.tail ≡ point)

-- the parts that leave the points, one after the other
abbrev pub parts : {W : Type 0} → ℕ → List (Run W) → List (Run W)
parts points runs = flat_map (λ point. leaving_part point runs) (range_with_len 0 points)
