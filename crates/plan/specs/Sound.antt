-- What every plan that stands keeps.
use Rattle.std.specs.Prelude.{◌≡◌, ℕ, ◌<◌, ◌≤◌, List, [], ◌∷◌, length, Some, slice_index}
use Rattle.std.specs.List.{slice_get}
use Rattle.plan.specs.declared.runs.Run.{Run}

-- 1 to 256 points and at most 1,024 runs
abbrev pub Few : ℕ → ℕ → Type 0
Few points runs = (1 ≤ points) × (points ≤ 256) × (runs ≤ 1024)

-- every run leads from a point to a point
abbrev pub Ends : {W : Type 0} → ℕ → List (Run W) → Type 0
Ends {W} points runs = (k : ℕ) (r : Run W) → slice_get runs k ≡ Some r → (r.tail < points) × (r.head < points)

-- the tails of the runs
abbrev pub tails : {W : Type 0} → List (Run W) → List ℕ
tails [] = []
tails (r ∷ rs) = r.tail ∷ tails rs

-- runs stand in order of tail
abbrev pub Ordered : {W : Type 0} → List (Run W) → Type 0
Ordered runs = (j k : ℕ) → j ≤ k → k < length runs → slice_index (tails runs) j ≤ slice_index (tails runs) k

-- few points and runs, each run between points, in order of tail
abbrev pub Sound : {W : Type 0} → ℕ → List (Run W) → Type 0
Sound points runs = Few points (length runs) × Ends points runs × Ordered runs
