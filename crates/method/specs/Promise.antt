-- What may be trusted of the labels that the method has listed, and that it ends.
use Rattle.std.specs.Prelude.{◌≡◌, ℕ, zero, suc, ◌+◌, ◌*◌, ◌<◌, ◌≤◌, false, T, ◌↔◌, List, [], ◌∷◌, ◌++◌, length, Some, None, ◌≢◌}
use Rattle.std.specs.List.{slice_get}
use Rattle.method.specs.declared.label.Label.{Label}
use Rattle.method.specs.Tasks.{Task}
use Rattle.method.specs.Sequences.{In, Ascends}
use Rattle.method.specs.Fronts.{Front, FrontsHold}
use Rattle.method.specs.Links.{Spelled, costs_at}
use Rattle.method.specs.Reference.{Listed, next}
use Rattle.method.specs.Criterion.{Closed, InOrder, Sound}

-- at each point the costs listed, in label order, are the first of its front in listing order, each once
pub record FirstOfFronts {C W : Type 0} (t : Task C W) (ls : List (Label C)) : Type 0 where
  pub in_order : (v : ℕ) → Ascends t.rules.before (costs_at ls v)
  pub in_front : (v : ℕ) (c : C) → In c (costs_at ls v) → Front t v c
  pub none_skipped : (v : ℕ) (c d : C) → In c (costs_at ls v) → Front t v d → T (t.rules.before d c) → In d (costs_at ls v)
  -- no cost of any front that is unlisted at its point comes before the cost of the latest label
  pub none_behind : (v : ℕ) (d : C) (l : Label C) (earlier : List (Label C)) → ls ≡ earlier ++ l ∷ [] → Front t v d → (In d (costs_at ls v) → ⊥) → T (t.rules.before d l.cost) → ⊥
  -- across all points, no cost comes before that of an earlier label
  pub none_before : (i j : ℕ) (l m : Label C) → i < j → slice_get ls i ≡ Some l → slice_get ls j ≡ Some m → t.rules.before m.cost l.cost ≡ false

-- what holds of the labels ls that the method has listed
pub record Trusted {C W : Type 0} (t : Task C W) (ls : List (Label C)) : Type 0 where
  pub costs : FirstOfFronts t ls
  pub walks : (i : ℕ) (l : Label C) → slice_get ls i ≡ Some l → Spelled t ls i l
  -- it goes on exactly while the labels are fewer than all fronts hold together, and when it ends they are as many
  pub goes_on : (n : ℕ) → FrontsHold t n → (next t ls ≢ None) ↔ (length ls < n)
  pub ends : (n : ℕ) → FrontsHold t n → (next t ls ≡ None) ↔ (length ls ≡ n)
  -- the labels meet the criterion: at every moment they are sound and in order, and when it ends closed
  pub sound : Sound t ls
  pub ordered : InOrder t.rules.no_worse t.rules.before ls
  pub closed : next t ls ≡ None → Closed t ls

-- how many lists of at most n numbers there are, where each number is below m
abbrev pub lists : ℕ → ℕ → ℕ
lists m zero = 1
lists m (suc n) = 1 + m * lists m n

-- the method ends: a walk that meets no point twice has fewer runs than there are points, so it never lists more labels than there are such lists of runs
pub record Ends {C W : Type 0} (t : Task C W) : Type 0 where
  pub never_passes : (ls : List (Label C)) → Listed t ls → length ls ≤ lists (length t.runs) t.points
  -- the labels at its end, which are as many as all fronts hold together
  pub last : List (Label C)
  pub listed : Listed t last
  pub ended : next t last ≡ None
  pub whole : FrontsHold t (length last)

-- both, for every source that is a point
abbrev pub MethodListsFronts : {C W : Type 0} → Task C W → Type 0
MethodListsFronts {C} t = ((ls : List (Label C)) → Listed t ls → Trusted t ls) × Ends t
