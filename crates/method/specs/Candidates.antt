-- Candidates for the next label, and whether they are open.
use Rattle.std.specs.Prelude.{◌≡◌, ℕ, Bool, true, false, cond, ◌&&◌, T, ◌⊎◌, List, [], ◌∷◌, Some, None, Option, ◌==◌}
use Rattle.std.specs.List.{slice_get}
use Rattle.plan.specs.declared.runs.Run.{Run}
use Rattle.queue.specs.declared.entries.Entry.{Entry}
use Rattle.method.specs.declared.label.Label.{Label}
use Rattle.method.specs.Tasks.{Task}

-- entry e at v is the start cost at the source, with no links
pub record Starts {C W : Type 0} (t : Task C W) (v : ℕ) (e : Entry C) : Type 0 where
  pub source : v ≡ t.source
  pub cost : e.cost ≡ t.rules.start
  pub from : e.from ≡ None
  pub run : e.run ≡ None

-- entry e at v is a label's cost gone along a run that leaves its point, at the run's head, with both as links
pub record Extends {C W : Type 0} (t : Task C W) (ls : List (Label C)) (v : ℕ) (e : Entry C) : Type 0 where
  pub number : ℕ
  pub label : Label C
  pub listed : slice_get ls number ≡ Some label
  pub place : ℕ
  pub by : Run W
  pub there : slice_get t.runs place ≡ Some by
  pub leaves : label.point ≡ by.tail
  pub head : by.head ≡ v
  pub cost : t.rules.along label.cost by.weight ≡ Some e.cost
  pub from : e.from ≡ Some number
  pub run : e.run ≡ Some place

-- entry e is a candidate at v
abbrev pub Candidate : {C W : Type 0} → Task C W → List (Label C) → ℕ → Entry C → Type 0
Candidate t ls v e = Starts t v e ⊎ Extends t ls v e

-- a label at v is no worse than c
pub record Covered {C : Type 0} (no_worse : C → C → Bool) (ls : List (Label C)) (v : ℕ) (c : C) : Type 0 where
  pub number : ℕ
  pub label : Label C
  pub listed : slice_get ls number ≡ Some label
  pub point : label.point ≡ v
  pub better : T (no_worse label.cost c)

-- no label at v is no worse than c
abbrev pub Open : {C : Type 0} → (C → C → Bool) → List (Label C) → ℕ → C → Type 0
Open no_worse ls v c = Covered no_worse ls v c → ⊥

-- the test of Open
abbrev pub open_at : {C : Type 0} → (C → C → Bool) → List (Label C) → ℕ → C → Bool
open_at no_worse [] v c = true
open_at no_worse (l ∷ ls) v c = cond (l.point == v && no_worse l.cost c) false (open_at no_worse ls v c)

-- an entry at v, if it is open
abbrev pub if_open : {C : Type 0} → (C → C → Bool) → List (Label C) → ℕ → Option (Entry C) → Option (Entry C)
if_open no_worse ls v None = None
if_open no_worse ls v (Some e) = cond (open_at no_worse ls v e.cost) (Some e) None

-- the start cost, if v is the source
abbrev pub start_at : {C : Type 0} → C → ℕ → ℕ → Option (Entry C)
start_at start source v = cond (v == source) (Some (record { cost = start; from = None; run = None })) None

-- a cost with its links
abbrev pub linked : {C : Type 0} → ℕ → ℕ → Option C → Option (Entry C)
linked i k None = None
linked i k (Some c) = Some (record { cost = c; from = Some i; run = Some k })

-- label l, number i, gone along run r, number k, if that leaves its point
abbrev pub extended : {C W : Type 0} → (C → W → Option C) → ℕ → Label C → ℕ → Run W → Option (Entry C)
extended along i l k r = cond (l.point == r.tail) (linked i k (along l.cost r.weight)) None

-- the same, if it is open at the head
abbrev pub open_extended : {C W : Type 0} → (C → C → Bool) → (C → W → Option C) → List (Label C) → ℕ → Label C → ℕ → Run W → Option (Entry C)
open_extended no_worse along ls i l k r = if_open no_worse ls r.head (extended along i l k r)

-- the same for the label of number i, if there is one
abbrev pub open_candidate : {C W : Type 0} → (C → C → Bool) → (C → W → Option C) → List (Label C) → ℕ → ℕ → Run W → Option (Label C) → Option (Entry C)
open_candidate no_worse along ls i k r None = None
open_candidate no_worse along ls i k r (Some l) = open_extended no_worse along ls i l k r
