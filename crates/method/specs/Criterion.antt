-- When a list of labels lists exactly the fronts, whatever made it.
use Rattle.std.specs.Prelude.{◌≡◌, ℕ, ◌<◌, Bool, T, ◌↔◌, List, take, Some, ◌≢◌}
use Rattle.std.specs.List.{slice_get}
use Rattle.queue.specs.declared.entries.Entry.{Entry}
use Rattle.method.specs.declared.label.Label.{Label}
use Rattle.method.specs.Tasks.{Task}
use Rattle.method.specs.Sequences.{In, Ascends}
use Rattle.method.specs.Fronts.{Front}
use Rattle.method.specs.Links.{entry_of, costs_at}
use Rattle.method.specs.Candidates.{Candidate, Covered}

-- sound: each label is a candidate of the labels before it, so it is the start with no links,
-- or extends the earlier label that its from names along its run
abbrev pub Sound : {C W : Type 0} → Task C W → List (Label C) → Type 0
Sound {C} t ls = (i : ℕ) (l : Label C) → slice_get ls i ≡ Some l → Candidate t (take i ls) l.point (entry_of l)

-- in order: at each point each cost comes before the later ones, and none is no worse than another
pub record InOrder {C : Type 0} (no_worse before : C → C → Bool) (ls : List (Label C)) : Type 0 where
  pub ascending : (i j : ℕ) (l m : Label C) → i < j → slice_get ls i ≡ Some l → slice_get ls j ≡ Some m → l.point ≡ m.point → T (before l.cost m.cost)
  pub unbeaten : (i j : ℕ) (l m : Label C) → (i ≢ j) → slice_get ls i ≡ Some l → slice_get ls j ≡ Some m → l.point ≡ m.point → T (no_worse l.cost m.cost) → ⊥

-- closed: every candidate, so the start and every label gone along every run, has a label no worse at its point
abbrev pub Closed : {C W : Type 0} → Task C W → List (Label C) → Type 0
Closed {C} t ls = (v : ℕ) (e : Entry C) → Candidate t ls v e → Covered t.rules.no_worse ls v e.cost

-- the costs listed at each point are its front, in listing order, so each once
pub record ListsFronts {C W : Type 0} (t : Task C W) (ls : List (Label C)) : Type 0 where
  pub exact : (v : ℕ) (c : C) → In c (costs_at ls v) ↔ Front t v c
  pub in_order : (v : ℕ) → Ascends t.rules.before (costs_at ls v)

-- labels that are sound, in order and closed list exactly the fronts
abbrev pub Criterion : {C W : Type 0} → Task C W → Type 0
Criterion {C} t = (ls : List (Label C)) → Sound t ls → InOrder t.rules.no_worse t.rules.before ls → Closed t ls → ListsFronts t ls
