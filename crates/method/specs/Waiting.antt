-- The waiting entry of a point.
use Rattle.std.specs.Prelude.{◌≡◌, ℕ, suc, Bool, false, cond, List, [], ◌∷◌, Some, None, Option, ◌==◌}
use Rattle.plan.specs.declared.runs.Run.{Run}
use Rattle.queue.specs.declared.entries.Entry.{Entry}
use Rattle.method.specs.declared.label.Label.{Label}
use Rattle.method.specs.Tasks.{Rules, Task}
use Rattle.method.specs.Ties.{sooner, sooner_of}
use Rattle.method.specs.Candidates.{Candidate, Open, if_open, start_at, open_extended}

-- the soonest open candidate that the labels from number i on give along run r, number k
abbrev pub from_labels : {C W : Type 0} → Rules C W → List (Label C) → ℕ → Run W → ℕ → List (Label C) → Option (Entry C)
from_labels ρ ls k r i [] = None
from_labels ρ ls k r i (l ∷ more) = sooner_of ρ.before (open_extended ρ.no_worse ρ.along ls i l k r) (from_labels ρ ls k r (suc i) more)

-- the same along the runs into v, from run number k on
abbrev pub along_runs : {C W : Type 0} → Rules C W → List (Label C) → ℕ → ℕ → List (Run W) → Option (Entry C)
along_runs ρ ls v k [] = None
along_runs ρ ls v k (r ∷ more) = sooner_of ρ.before (cond (r.head == v) (from_labels ρ ls k r 0 ls) None) (along_runs ρ ls v (suc k) more)

-- the waiting entry of v: its soonest open candidate
abbrev pub waiting : {C W : Type 0} → Task C W → List (Label C) → ℕ → Option (Entry C)
waiting t ls v = sooner_of t.rules.before (if_open t.rules.no_worse ls v (start_at t.rules.start t.source v)) (along_runs t.rules ls v 0 t.runs)

-- entry e is an open candidate at v
pub record OpenCandidate {C W : Type 0} (t : Task C W) (ls : List (Label C)) (v : ℕ) (e : Entry C) : Type 0 where
  pub candidate : Candidate t ls v e
  pub is_open : Open t.rules.no_worse ls v e.cost

-- of the entries with property P, one that no other is sooner than; none where no entry has it
abbrev pub Soonest : {C : Type 0} → (C → C → Bool) → (Entry C → Type 0) → Option (Entry C) → Type 0
Soonest {C} before P None = (e : Entry C) → P e → ⊥
Soonest {C} before P (Some e) = P e × ((d : Entry C) → P d → sooner before d e ≡ false)

-- in words: the waiting entry is the open candidate at v that no other open candidate is sooner than
abbrev pub Waits : {C W : Type 0} → Task C W → List (Label C) → ℕ → Option (Entry C) → Type 0
Waits t ls v o = Soonest t.rules.before (OpenCandidate t ls v) o
