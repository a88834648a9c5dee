-- Walks of a plan, walks within the limits, and their costs.
use Rattle.std.specs.Prelude.{◌≡◌, ℕ, List, [], ◌∷◌, ◌++◌, Some, None, Option}
use Rattle.std.specs.List.{slice_get}
use Rattle.plan.specs.declared.runs.Run.{Run}
use Rattle.method.specs.Tasks.{Rules, Task}

-- a walk along the runs numbered ks leads from the source to v: the first run leaves the source, and each later one the head before it;
-- the empty walk stays at the source
pub data Walk {W : Type 0} (runs : List (Run W)) (source : ℕ) : List ℕ → ℕ → Type 0 where
  stay : Walk runs source [] source
  go : {ks : List ℕ} (k : ℕ) (r : Run W) → Walk runs source ks r.tail → slice_get runs k ≡ Some r → Walk runs source (ks ++ k ∷ []) r.head

-- a cost, if there is one, gone along a run, if there is one
abbrev pub gone : {C W : Type 0} → Rules C W → Option C → Option (Run W) → Option C
gone ρ None r = None
gone ρ (Some c) None = None
gone ρ (Some c) (Some r) = ρ.along c r.weight

-- a cost gone along the runs numbered ks in turn; none if a limit is passed
abbrev pub carried : {C W : Type 0} → Task C W → Option C → List ℕ → Option C
carried t c [] = c
carried t c (k ∷ ks) = carried t (gone t.rules c (slice_get t.runs k)) ks

-- a walk along the runs ks from the source to v, within the limits; its cost is c
pub record Route {C W : Type 0} (t : Task C W) (ks : List ℕ) (v : ℕ) (c : C) : Type 0 where
  pub walk : Walk t.runs t.source ks v
  pub within : carried t (Some t.rules.start) ks ≡ Some c

-- some walk within the limits reaches v with cost c
abbrev pub Reached : {C W : Type 0} → Task C W → ℕ → C → Type 0
Reached t v c = (ks : List ℕ) × Route t ks v c

-- the head of a run, if there is one
abbrev pub head_of : {W : Type 0} → Option (Run W) → ℕ
head_of None = 0
head_of (Some r) = r.head

-- the points that a walk from u meets, u first
abbrev pub meets : {W : Type 0} → List (Run W) → ℕ → List ℕ → List ℕ
meets runs u [] = u ∷ []
meets runs u (k ∷ ks) = u ∷ meets runs (head_of (slice_get runs k)) ks
