-- The waiting entry of a point is its open candidate that no other open candidate is sooner than.
use Rattle.std.proofs.Common.{◌≡◌, ℕ, zero, suc, ◌+◌, Bool, true, false, cond, eqb, ◌⊎◌, List, [], ◌∷◌, Some, None, Option, sym, refl, subst, inl, inr, ⊎_elim, zero-add, arith}
use Rattle.std.proofs.lemmas.Bool.Decides.{nat_tests}
use Rattle.std.proofs.lemmas.Bool.{eqb-true, eqb-false, eq-eqb}
use Rattle.std.specs.List.{slice_get}
use Rattle.gauge.specs.Laws.{Compares}
use Rattle.plan.specs.declared.runs.Run.{Run}
use Rattle.queue.specs.declared.entries.Entry.{Entry}
use Rattle.method.specs.declared.label.Label.{Label}
use Rattle.method.specs.Tasks.{Rules, Task}
use Rattle.method.specs.Ties.{sooner}
use Rattle.method.specs.Candidates.{Starts, Extends, Open, open_at, if_open, start_at, extended, open_extended}
use Rattle.method.specs.Waiting.{Soonest, OpenCandidate, Waits, from_labels, along_runs, waiting}
use Rattle.method.proofs.Cover.{open_decides}
use Rattle.method.proofs.Soon.{sooner_weak, soonest_both, soonest_like}

-- label l, number i, gone along run r, number k, gives e
record Goes {C W : Type 0} (ρ : Rules C W) (i : ℕ) (l : Label C) (k : ℕ) (r : Run W) (e : Entry C) : Type 0 where
  leaves : l.point ≡ r.tail
  cost : ρ.along l.cost r.weight ≡ Some e.cost
  from : e.from ≡ Some i
  run : e.run ≡ Some k

-- e is what some label from number i on gives
record Among {C W : Type 0} (ρ : Rules C W) (k : ℕ) (r : Run W) (i : ℕ) (more : List (Label C)) (e : Entry C) : Type 0 where
  number : ℕ
  label : Label C
  listed : slice_get more number ≡ Some label
  goes : Goes ρ (i + number) label k r e

-- e is what some label gives along a run into v from run number k on
record Into {C W : Type 0} (ρ : Rules C W) (ls : List (Label C)) (v : ℕ) (k : ℕ) (more : List (Run W)) (e : Entry C) : Type 0 where
  place : ℕ
  by : Run W
  there : slice_get more place ≡ Some by
  head : by.head ≡ v
  among : Among ρ (k + place) by 0 ls e

-- an entry by its parts
entry_is : {C : Type 0} (e : Entry C) (c : C) (i k : ℕ) → e.cost ≡ c → e.from ≡ Some i → e.run ≡ Some k → Some (record { cost = c; from = Some i; run = Some k }) ≡ Some e
entry_is e c i k p q r = λ j. Some (record { cost = sym p j; from = sym q j; run = sym r j })

start_is : {C : Type 0} (e : Entry C) (c : C) → e.cost ≡ c → e.from ≡ None → e.run ≡ None → Some (record { cost = c; from = None; run = None }) ≡ Some e
start_is e c p q r = λ j. Some (record { cost = sym p j; from = sym q j; run = sym r j })

module _ {C : Type 0} (no_worse before : C → C → Bool) (laws : Compares C no_worse before) where
  -- an entry alone is the soonest of itself
  soonest_one : (o : Option (Entry C)) → Soonest before (λ e. o ≡ Some e) o
  soonest_one None = λ e p. grind arith
  soonest_one (Some a) = (refl, λ d p. let same : a ≡ d = cc in let self : sooner before a a ≡ false = irreflexive (sooner before a a) refl in rw (← same) self)
    where
      irreflexive : (x : Bool) → sooner before a a ≡ x → sooner before a a ≡ false
      irreflexive true e = (sooner_weak no_worse before laws).one_way a a e
      irreflexive false e = e

  if_open_gives : (ls : List (Label C)) (v : ℕ) (o : Option (Entry C)) (e : Entry C) → if_open no_worse ls v o ≡ Some e → (o ≡ Some e) × Open no_worse ls v e.cost
  if_open_gives ls v o e p = let h : (o ≡ Some e) × (open_at no_worse ls v e.cost ≡ true) = grind arith in (h.0, (open_decides no_worse ls v e.cost).0 h.1)

  if_open_from : (ls : List (Label C)) (v : ℕ) (o : Option (Entry C)) (e : Entry C) → o ≡ Some e → Open no_worse ls v e.cost → if_open no_worse ls v o ≡ Some e
  if_open_from ls v o e p h = let q = (open_decides no_worse ls v e.cost).1 h in grind arith

  -- the soonest of the entries that are P and open, where those that are P are one at most
  soonest_open : (P : Entry C → Type 0) (ls : List (Label C)) (v : ℕ) (o : Option (Entry C)) → ((e : Entry C) → o ≡ Some e → P e) → ((e : Entry C) → P e → o ≡ Some e) →
      Soonest before (λ e. P e × Open no_worse ls v e.cost) (if_open no_worse ls v o)
  soonest_open P ls v o f g = soonest_like before (λ e. if_open no_worse ls v o ≡ Some e) (λ e. P e × Open no_worse ls v e.cost)
      (λ e p. let h = if_open_gives ls v o e p in (f e h.0, h.1)) (λ e h. if_open_from ls v o e (g e h.0) h.1) (if_open no_worse ls v o) (soonest_one (if_open no_worse ls v o))

module _ {C W : Type 0} (ρ : Rules C W) (laws : Compares C ρ.no_worse ρ.before) (ls : List (Label C)) where
  goes_extended : (i : ℕ) (l : Label C) (k : ℕ) (r : Run W) (e : Entry C) → Goes ρ i l k r e → extended ρ.along i l k r ≡ Some e
  goes_extended i l k r e g = rw (eq-eqb l.point r.tail g.leaves, g.cost) (entry_is e e.cost i k refl g.from g.run)

  extended_goes : (i : ℕ) (l : Label C) (k : ℕ) (r : Run W) (e : Entry C) → extended ρ.along i l k r ≡ Some e → Goes ρ i l k r e
  extended_goes i l k r e p = grind (arith, nat_tests)

  -- the labels along one run
  abbrev LabelGives : ℕ → Run W → ℕ → List (Label C) → Entry C → Type 0
  LabelGives k r i more e = Among ρ k r i more e × Open ρ.no_worse ls r.head e.cost

  from_labels_soonest : (k : ℕ) (r : Run W) (i : ℕ) (more : List (Label C)) → Soonest ρ.before (LabelGives k r i more) (from_labels ρ ls k r i more)
  from_labels_soonest k r i [] = λ e h. let n = h.0.listed in grind arith
  from_labels_soonest k r i (l ∷ more) =
      soonest_like ρ.before (λ e. (Goes ρ i l k r e × Open ρ.no_worse ls r.head e.cost) ⊎ LabelGives k r (suc i) more e) (LabelGives k r i (l ∷ more)) joins parts
      (from_labels ρ ls k r i (l ∷ more))
      (soonest_both ρ.no_worse ρ.before laws (λ e. Goes ρ i l k r e × Open ρ.no_worse ls r.head e.cost) (LabelGives k r (suc i) more) (open_extended ρ.no_worse ρ.along ls i l k r) (from_labels ρ ls k r (suc i) more)
      (soonest_open ρ.no_worse ρ.before laws (Goes ρ i l k r) ls r.head (extended ρ.along i l k r) (extended_goes i l k r) (goes_extended i l k r))
      (from_labels_soonest k r (suc i) more))
    where
      joins : (e : Entry C) → (Goes ρ i l k r e × Open ρ.no_worse ls r.head e.cost) ⊎ LabelGives k r (suc i) more e → LabelGives k r i (l ∷ more) e
      joins e (inl h) = let z : i ≡ i + 0 = omega arith in (record { number = 0; label = l; listed = refl; goes = subst (λ (n : ℕ). Goes ρ n l k r e) z h.0 }, h.1)
      joins e (inr h) =
          let z : suc i + h.0.number ≡ i + suc h.0.number = omega arith in
          (record { number = suc h.0.number; label = h.0.label; listed = h.0.listed; goes = subst (λ (n : ℕ). Goes ρ n h.0.label k r e) z h.0.goes }, h.1)

      split : (e : Entry C) (n : ℕ) (m : Label C) → slice_get (l ∷ more) n ≡ Some m → Goes ρ (i + n) m k r e → Goes ρ i l k r e ⊎ Among ρ k r (suc i) more e
      split e zero m p g = let same : l ≡ m = cc in let z : i + 0 ≡ i = omega arith in inl (subst (λ (x : Label C). Goes ρ i x k r e) (sym same) (subst (λ (n : ℕ). Goes ρ n m k r e) z g))
      split e (suc n) m p g = let z : i + suc n ≡ suc i + n = omega arith in inr (record { number = n; label = m; listed = p; goes = subst (λ (j : ℕ). Goes ρ j m k r e) z g })

      parts : (e : Entry C) → LabelGives k r i (l ∷ more) e → (Goes ρ i l k r e × Open ρ.no_worse ls r.head e.cost) ⊎ LabelGives k r (suc i) more e
      parts e h = ⊎_elim (λ g. inl (g, h.1)) (λ a. inr (a, h.1)) (split e h.0.number h.0.label h.0.listed h.0.goes)

  -- all labels along the runs into v
  abbrev RunGives : ℕ → ℕ → List (Run W) → Entry C → Type 0
  RunGives v k more e = Into ρ ls v k more e × Open ρ.no_worse ls v e.cost

  -- all labels along one run, if it leads into v
  abbrev OneGives : ℕ → ℕ → Run W → Entry C → Type 0
  OneGives v k r e = (r.head ≡ v) × Among ρ k r 0 ls e × Open ρ.no_worse ls v e.cost

  one_run_soonest : (v k : ℕ) (r : Run W) → Soonest ρ.before (OneGives v k r) (cond (eqb r.head v) (from_labels ρ ls k r 0 ls) None)
  one_run_soonest v k r = by (eqb r.head v) refl
    where
      by : (b : Bool) → eqb r.head v ≡ b → Soonest ρ.before (OneGives v k r) (cond b (from_labels ρ ls k r 0 ls) None)
      by true p = let at = eqb-true r.head v p in soonest_like ρ.before (LabelGives k r 0 ls) (OneGives v k r)
          (λ e h. (at, h.0, subst (λ (x : ℕ). Open ρ.no_worse ls x e.cost) at h.1)) (λ e h. (h.1, subst (λ (x : ℕ). Open ρ.no_worse ls x e.cost) (sym at) h.2))
          (from_labels ρ ls k r 0 ls) (from_labels_soonest k r 0 ls)
      by false p = λ e h. eqb-false r.head v p h.0

  along_runs_soonest : (v k : ℕ) (more : List (Run W)) → Soonest ρ.before (RunGives v k more) (along_runs ρ ls v k more)
  along_runs_soonest v k [] = λ e h. let n = h.0.there in grind arith
  along_runs_soonest v k (r ∷ more) =
      soonest_like ρ.before (λ e. OneGives v k r e ⊎ RunGives v (suc k) more e) (RunGives v k (r ∷ more)) joins parts (along_runs ρ ls v k (r ∷ more))
      (soonest_both ρ.no_worse ρ.before laws (OneGives v k r) (RunGives v (suc k) more) (cond (eqb r.head v) (from_labels ρ ls k r 0 ls) None) (along_runs ρ ls v (suc k) more) (one_run_soonest v k r) (along_runs_soonest v (suc k) more))
    where
      joins : (e : Entry C) → OneGives v k r e ⊎ RunGives v (suc k) more e → RunGives v k (r ∷ more) e
      joins e (inl h) = let z : k ≡ k + 0 = omega arith in (record { place = 0; by = r; there = refl; head = h.0; among = subst (λ (n : ℕ). Among ρ n r 0 ls e) z h.1 }, h.2)
      joins e (inr h) =
          let z : suc k + h.0.place ≡ k + suc h.0.place = omega arith in
          (record { place = suc h.0.place; by = h.0.by; there = h.0.there; head = h.0.head; among = subst (λ (n : ℕ). Among ρ n h.0.by 0 ls e) z h.0.among }, h.1)

      split : (e : Entry C) (n : ℕ) (x : Run W) → slice_get (r ∷ more) n ≡ Some x → x.head ≡ v → Among ρ (k + n) x 0 ls e → ((r.head ≡ v) × Among ρ k r 0 ls e) ⊎ Into ρ ls v (suc k) more e
      split e zero x p at a = let same : r ≡ x = cc in let z : k + 0 ≡ k = omega arith in inl (rw same at, subst (λ (y : Run W). Among ρ k y 0 ls e) (sym same) (subst (λ (n : ℕ). Among ρ n x 0 ls e) z a))
      split e (suc n) x p at a = let z : k + suc n ≡ suc k + n = omega arith in inr (record { place = n; by = x; there = p; head = at; among = subst (λ (j : ℕ). Among ρ j x 0 ls e) z a })

      parts : (e : Entry C) → RunGives v k (r ∷ more) e → OneGives v k r e ⊎ RunGives v (suc k) more e
      parts e h = ⊎_elim (λ g. inl (g.0, g.1, h.1)) (λ a. inr (a, h.1)) (split e h.0.place h.0.by h.0.there h.0.head h.0.among)

module _ {C W : Type 0} (t : Task C W) (laws : Compares C t.rules.no_worse t.rules.before) (ls : List (Label C)) (v : ℕ) where
  start_gives : (e : Entry C) → start_at t.rules.start t.source v ≡ Some e → Starts t v e
  start_gives e p = grind (arith, nat_tests)

  start_from : (e : Entry C) → Starts t v e → start_at t.rules.start t.source v ≡ Some e
  start_from e s = rw (eq-eqb v t.source s.source) (start_is e t.rules.start s.cost s.from s.run)

  into_extends : (e : Entry C) → Into t.rules ls v 0 t.runs e → Extends t ls v e
  into_extends e h =
      let a = h.among in
      record {
        number = a.number;
        label = a.label;
        listed = a.listed;
        place = h.place;
        by = h.by;
        there = h.there;
        leaves = a.goes.leaves;
        head = h.head;
        cost = a.goes.cost;
        from = rw zero-add at a.goes.from;
        run = rw zero-add at a.goes.run;
      }

  extends_into : (e : Entry C) → Extends t ls v e → Into t.rules ls v 0 t.runs e
  extends_into e x = record {
    place = x.place;
    by = x.by;
    there = x.there;
    head = x.head;
    among = record { number = x.number; label = x.label; listed = x.listed; goes = record { leaves = x.leaves; cost = x.cost; from = rw zero-add x.from; run = rw zero-add x.run } };
  }

  -- what the executable definition gives is the waiting entry in words
  pub waits : Waits t ls v (waiting t ls v)
  waits = soonest_like t.rules.before (λ e. Began e ⊎ RunGives t.rules laws ls v 0 t.runs e) (OpenCandidate t ls v) joins parts (waiting t ls v)
      (soonest_both t.rules.no_worse t.rules.before laws Began (RunGives t.rules laws ls v 0 t.runs) (if_open t.rules.no_worse ls v (start_at t.rules.start t.source v)) (along_runs t.rules ls v 0 t.runs)
      (soonest_open t.rules.no_worse t.rules.before laws (Starts t v) ls v (start_at t.rules.start t.source v) start_gives start_from)
      (along_runs_soonest t.rules laws ls v 0 t.runs))
    where
      Began : Entry C → Type 0
      Began e = Starts t v e × Open t.rules.no_worse ls v e.cost

      joins : (e : Entry C) → Began e ⊎ RunGives t.rules laws ls v 0 t.runs e → OpenCandidate t ls v e
      joins e (inl h) = record { candidate = inl h.0; is_open = h.1 }
      joins e (inr h) = record { candidate = inr (into_extends e h.0); is_open = h.1 }

      parts : (e : Entry C) → OpenCandidate t ls v e → Began e ⊎ RunGives t.rules laws ls v 0 t.runs e
      parts e h = ⊎_elim (λ s. inl (s, h.is_open)) (λ x. inr (extends_into e x, h.is_open)) h.candidate
