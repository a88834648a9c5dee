-- The lines of a listing.
use Rattle.std.specs.Prelude.{ℕ, zero, suc, ◌+◌, List, [], ◌∷◌, ◌++◌, length, codes, decimal, slice_index}
use Rattle.fault.specs.declared.row.Fault.{Fault}
use Rattle.plan.specs.declared.runs.Run.{Run}
use Rattle.plan.specs.Leave.{first_from, leaving_part}

-- refused LINE LAYER NUMBER PLACE
abbrev pub refused_text : ℕ → Fault → List ℕ
refused_text line fault =
    codes "refused " ++ (decimal line ++ (codes " " ++ (decimal fault.layer ++ (codes " " ++ (decimal fault.number ++ (codes " " ++ (decimal fault.place ++ codes "\n")))))))

-- RUN HEAD W0 W1 W2, where `numbers` gives the three numbers of a weight
abbrev pub run_text : {W : Type 0} → (W → List ℕ) → ℕ → Run W → List ℕ
run_text numbers number run =
    decimal number ++ (codes " " ++ (decimal run.head ++ (codes " " ++ (decimal (slice_index (numbers run.weight) 0) ++ (codes " " ++ (decimal (slice_index (numbers run.weight) 1) ++ (codes " " ++ (decimal (slice_index (numbers run.weight) 2) ++ codes "\n"))))))))

-- runs one after the other, numbered from `first` on
abbrev pub runs_text : {W : Type 0} → (W → List ℕ) → ℕ → List (Run W) → List ℕ
runs_text numbers first [] = []
runs_text numbers first (run ∷ runs) = run_text numbers first run ++ runs_text numbers (first + 1) runs

-- point P COUNT
abbrev pub point_line : ℕ → ℕ → List ℕ
point_line point count = codes "point " ++ (decimal point ++ (codes " " ++ (decimal count ++ codes "\n")))

-- a point, then a line for each run that leaves it
abbrev pub point_text : {W : Type 0} → (W → List ℕ) → List (Run W) → ℕ → List ℕ
point_text numbers runs point =
    point_line point (length (leaving_part point runs)) ++ runs_text numbers (first_from point runs) (leaving_part point runs)

-- n points in order, from `point` on
abbrev pub points_text : {W : Type 0} → (W → List ℕ) → List (Run W) → ℕ → ℕ → List ℕ
points_text numbers runs zero point = []
points_text numbers runs (suc n) point = point_text numbers runs point ++ points_text numbers runs n (point + 1)

-- plan KIND POINTS RUNS
abbrev pub plan_line : List ℕ → ℕ → ℕ → List ℕ
plan_line word points runs = codes "plan " ++ (word ++ (codes " " ++ (decimal points ++ (codes " " ++ (decimal runs ++ codes "\n")))))

-- the plan, then its points in order
abbrev pub plan_text : {W : Type 0} → (W → List ℕ) → List ℕ → ℕ → List (Run W) → List ℕ
plan_text numbers word points runs = plan_line word points (length runs) ++ points_text numbers runs points 0
