-- The entries of a heap, by the places where they stand.
use Rattle.std.proofs.Common.{◌≡◌, Bool, true, false, eqb, ℕ, zero, suc, ◌<◌, ◌≤◌, ◌≢◌, ◌⊎◌, List, [], ◌∷◌, length, Some, None, Option, sym, refl, ap, ◌∙◌, subst, inl, inr, ⊎_elim, arith}
use Rattle.std.proofs.lemmas.Bool.{cases_eq, eq-eqb, ne_eqb}
use Rattle.std.proofs.lemmas.Bool.Decides.{nat_tests}
use Rattle.std.specs.Bool.{then_some}
use Rattle.queue.specs.declared.entries.Entry.{Entry}
use Rattle.queue.specs.declared.heaps.slots.Slot.{Slot}
use Rattle.queue.specs.InHeap.{Heaped, heap_entries, held_at, noted_at}
use Rattle.queue.specs.Sifting.{EntryAt, Standing}
use Rattle.queue.specs.Within.{none_anywhere}

-- a point has its entry at one of the first n places, or none of them is its own
pub record At {C : Type 0} (d : Slot C) (s : List (Slot C)) (n p : ℕ) : Type 0 where
  pub place : ℕ
  pub inside : place < n
  pub point : (held_at d s place).point ≡ p
  pub entry : heap_entries s n p ≡ Some (held_at d s place).entry

pub record Nowhere {C : Type 0} (d : Slot C) (s : List (Slot C)) (n p : ℕ) : Type 0 where
  pub point : (i : ℕ) → i < n → (held_at d s i).point ≢ p
  pub entry : heap_entries s n p ≡ None

later_at : {C : Type 0} (d x : Slot C) (s : List (Slot C)) (n p : ℕ) → x.held.point ≢ p → At d s n p → At d (x ∷ s) (suc n) p
later_at d x s n p ne w = record { place = suc w.place; inside = omega (arith, w.inside); point = w.point; entry = rw (ne_eqb x.held.point p ne) w.entry }

later_nowhere : {C : Type 0} (d x : Slot C) (s : List (Slot C)) (n p : ℕ) → x.held.point ≢ p → Nowhere d s n p → Nowhere d (x ∷ s) (suc n) p
later_nowhere {C} d x s n p ne w = record { point = go; entry = rw (ne_eqb x.held.point p ne) w.entry }
  where
    go : (i : ℕ) → i < suc n → (held_at d (x ∷ s) i).point ≢ p
    go zero h = ne
    go (suc i) h = w.point i (omega arith)

pub where_stands : {C : Type 0} (d : Slot C) (s : List (Slot C)) (n p : ℕ) → n ≤ length s → At d s n p ⊎ Nowhere d s n p
where_stands d s zero p h = inr (record { point = λ i l. absurd (omega arith); entry = refl })
where_stands d [] (suc n) p h = absurd (omega arith)
where_stands d (x ∷ s) (suc n) p h =
    ⊎_elim
    (λ (e : x.held.point ≡ p). inl (record { place = 0; inside = omega arith; point = e; entry = rw (eq-eqb x.held.point p e) }))
    (λ (ne : x.held.point ≢ p). ⊎_elim (λ w. inl (later_at d x s n p ne w)) (λ w. inr (later_nowhere d x s n p ne w)) (where_stands d s n p (omega arith)))
    (cases_eq x.held.point p)

-- where each entry's place is noted, what stands at a place is the entry of its point
module _ {C : Type 0} (d : Slot C) (s : List (Slot C)) (n : ℕ) (fits : n ≤ length s) (noted : (i : ℕ) → i < n → ((held_at d s i).point < length s) × (noted_at d s (held_at d s i).point ≡ i)) where
  pub one_place : (i j : ℕ) → i < n → j < n → (held_at d s i).point ≡ (held_at d s j).point → i ≡ j
  one_place i j hi hj e = sym (noted i hi).1 ∙ ap (noted_at d s) e ∙ (noted j hj).1

  pub entry_here : (i : ℕ) → i < n → heap_entries s n (held_at d s i).point ≡ Some (held_at d s i).entry
  entry_here i hi =
      ⊎_elim
      (λ (w : At d s n (held_at d s i).point). w.entry ∙ ap (λ t. Some (held_at d s t).entry) (one_place w.place i w.inside hi w.point))
      (λ (w : Nowhere d s n (held_at d s i).point). absurd (w.point i hi refl))
      (where_stands d s n (held_at d s i).point fits)

  -- a map with just these entries is what the heap holds
  pub entries_are : (entries : ℕ → Option (Entry C)) → ((i : ℕ) → i < n → entries (held_at d s i).point ≡ Some (held_at d s i).entry) → ((p : ℕ) (e : Entry C) → entries p ≡ Some e → (i : ℕ) × (i < n) × ((held_at d s i).point ≡ p)) → (p : ℕ) → heap_entries s n p ≡ entries p
  entries_are entries listed all p =
      ⊎_elim
      (λ (w : At d s n p). w.entry ∙ sym (subst (λ t. entries t ≡ Some (held_at d s w.place).entry) w.point (listed w.place w.inside)))
      (λ (w : Nowhere d s n p). w.entry ∙ sym (go w (entries p) refl))
      (where_stands d s n p fits)
    where
      go : Nowhere d s n p → (o : Option (Entry C)) → entries p ≡ o → entries p ≡ None
      go w None is = is
      go w (Some e) is = let i = all p e is in absurd (w.point i.0 i.1 i.2)

-- a held entry stands somewhere
pub entry_somewhere : {C : Type 0} (d : Slot C) (s : List (Slot C)) (n p : ℕ) (e : Entry C) → n ≤ length s → heap_entries s n p ≡ Some e → (i : ℕ) × (i < n) × ((held_at d s i).point ≡ p)
entry_somewhere d s n p e fits is =
    ⊎_elim
    (λ (w : At d s n p). (w.place, w.inside, w.point))
    (λ (w : Nowhere d s n p). let none = w.entry in grind arith)
    (where_stands d s n p fits)

-- where the place that a point's own place notes holds its entry, the entry stands there, and otherwise nowhere
pub noted_or_nowhere : {C : Type 0} (d : Slot C) (s : List (Slot C)) (n point at : ℕ) → at ≡ noted_at d s point → at < n → Standing d s n point (then_some (eqb (held_at d s at).point point) at)
noted_or_nowhere d s n point at is inside = go (eqb (held_at d s at).point point) refl
  where
    go : (t : Bool) → eqb (held_at d s at).point point ≡ t → Standing d s n point (then_some t at)
    go true e = (inside, grind (arith, nat_tests, e))
    go false e = λ fits noted i hi p. let same : at ≡ i = is ∙ ap (noted_at d s) (sym p) ∙ (noted i hi).1 in let q : (held_at d s at).point ≡ point = ap (λ t. (held_at d s t).point) same ∙ p in grind (arith, nat_tests, e, q)

-- where each entry's place is noted, what stands at a point's place, or nowhere, is its entry, or none
pub entry_at : {C : Type 0} {before : C → C → Bool} (s : List (Slot C)) (n point : ℕ) (o : Option ℕ) → Heaped before s n → ((d : Slot C) → Standing d s n point o) → EntryAt s n point o
entry_at s n point None heap none = none_anywhere s n point heap.fits (λ d. none d heap.fits (heap.noted d))
entry_at s n point (Some at) heap here = λ d. subst (λ t. heap_entries s n t ≡ Some (held_at d s at).entry) (here d).1 (entry_here d s n heap.fits (heap.noted d) at (here d).0)
