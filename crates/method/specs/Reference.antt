-- The reference method: which label it lists next.
use Rattle.std.specs.Prelude.{◌≡◌, List, [], ◌∷◌, ◌++◌, Some, None, Option}
use Rattle.queue.specs.declared.entries.Held.{Held}
use Rattle.queue.specs.Order.{look}
use Rattle.method.specs.declared.label.Label.{Label}
use Rattle.method.specs.Tasks.{Task}
use Rattle.method.specs.Waiting.{waiting}

-- an entry with its point, as a label
abbrev pub labelled : {C : Type 0} → Option (Held C) → Option (Label C)
labelled None = None
labelled (Some h) = Some (record { point = h.point; cost = h.entry.cost; from = h.entry.from; run = h.entry.run })

-- the label that is listed after ls: of the waiting entries of all points, the one that look would answer
abbrev pub next : {C W : Type 0} → Task C W → List (Label C) → Option (Label C)
next t ls = labelled (look t.rules.before (waiting t ls) t.points)

-- the method begins with no labels and lists one at a time; ls are what it has listed at some moment
pub data Listed {C W : Type 0} (t : Task C W) : List (Label C) → Type 0 where
  none : Listed t []
  one_more : {ls : List (Label C)} (l : Label C) → Listed t ls → next t ls ≡ Some l → Listed t (ls ++ l ∷ [])
