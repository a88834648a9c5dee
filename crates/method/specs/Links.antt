-- Labels: their costs at a point, and the walks that their links spell.
use Rattle.std.specs.Prelude.{◌≡◌, ℕ, cond, List, [], ◌∷◌, ◌++◌, take, Some, None, ◌==◌}
use Rattle.std.specs.List.{slice_get}
use Rattle.queue.specs.declared.entries.Entry.{Entry}
use Rattle.method.specs.declared.label.Label.{Label}
use Rattle.method.specs.Tasks.{Task}
use Rattle.method.specs.Sequences.{Distinct}
use Rattle.method.specs.Walks.{Route, meets}

-- a list has at most 4,096 labels, numbered from 0; what stands past them is not read
abbrev pub counted : {C : Type 0} → List (Label C) → List (Label C)
counted ls = take 4096 ls

-- a label without its point
abbrev pub entry_of : {C : Type 0} → Label C → Entry C
entry_of l = record { cost = l.cost; from = l.from; run = l.run }

-- the costs listed at v, in label order
abbrev pub costs_at : {C : Type 0} → List (Label C) → ℕ → List C
costs_at [] v = []
costs_at (l ∷ ls) v = cond (l.point == v) (l.cost ∷ costs_at ls v) (costs_at ls v)

-- the links of label i, followed back to a label with none, spell the runs ks, in travel order
pub data Spells {C : Type 0} (ls : List (Label C)) : ℕ → List ℕ → Type 0 where
  start : {i : ℕ} (l : Label C) → slice_get ls i ≡ Some l → l.from ≡ None → l.run ≡ None → Spells ls i []
  link : {i : ℕ} {ks : List ℕ} (j k : ℕ) (l : Label C) → slice_get ls i ≡ Some l → l.from ≡ Some j → l.run ≡ Some k → Spells ls j ks → Spells ls i (ks ++ k ∷ [])

-- the links of label i, which is l, spell a walk from the source to its point that is within the limits, has its cost and meets no point twice
pub record Spelled {C W : Type 0} (t : Task C W) (ls : List (Label C)) (i : ℕ) (l : Label C) : Type 0 where
  pub runs : List ℕ
  pub spells : Spells ls i runs
  pub route : Route t runs l.point l.cost
  pub no_point_twice : Distinct (meets t.runs t.source runs)
