-- A heap, its first entry, and how a call opens a gap in it.
use Rattle.std.proofs.Common.{◌≡◌, ℕ, zero, suc, ◌+◌, ◌<◌, ◌≤◌, Bool, false, cond, eqb, ◌≢◌, List, [], ◌∷◌, length, Some, None, Option, max, sym, refl, ap, ◌∙◌, subst, ⊎_elim, arith}
use Rattle.std.specs.Option.{unwrap_or}
use Rattle.std.proofs.lemmas.Bool.{cases_eq, eq-eqb, ne_eqb}
use Rattle.std.proofs.lemmas.Bool.Decides.{nat_tests}
use Rattle.gauge.specs.Laws.{Compares}
use Rattle.queue.specs.declared.entries.Entry.{Entry}
use Rattle.queue.specs.declared.entries.Held.{Held}
use Rattle.queue.specs.declared.heaps.slots.Slot.{Slot}
use Rattle.queue.specs.Map.{after_put, after_take, without}
use Rattle.queue.specs.Order.{Leads, ahead, look}
use Rattle.queue.specs.InHeap.{Heaped, heap_entries, held_at}
use Rattle.queue.specs.Sifting.{Gap, Standing}
use Rattle.queue.specs.Within.{heap_within}
use Rattle.queue.proofs.Finds.{entry_here, entry_somewhere, one_place}
use Rattle.queue.proofs.Levels.{above_less, has_above}
use Rattle.queue.proofs.Looks.{ahead_self, ahead_trans_not, first_look}
use Rattle.queue.proofs.Pigeons.{Apart, pigeonhole}

put_own : {E : Type 0} (room : ℕ) (entries : ℕ → Option E) (point : ℕ) (e : E) → point < room → after_put room entries point e point ≡ Some e
put_own room entries point e h = grind (arith, nat_tests)

put_other : {E : Type 0} (room : ℕ) (entries : ℕ → Option E) (point : ℕ) (e : E) (p : ℕ) → p ≢ point → after_put room entries point e p ≡ entries p
put_other room entries point e p ne = grind (arith, nat_tests)

module _ {C : Type 0} (no_worse before : C → C → Bool) (laws : Compares C no_worse before) (d : Slot C) (s : List (Slot C)) (n : ℕ) (heap : Heaped before s n) where
  -- the entry at the first place goes before all others
  root_leads : (k i : ℕ) → i < k → i < n → ahead before (held_at d s i) (held_at d s 0) ≡ false
  root_leads zero i h hi = absurd (omega arith)
  root_leads (suc k) i h hi =
      ⊎_elim
      (λ (e : i ≡ 0). rw e (ahead_self no_worse before laws (held_at d s 0)))
      (λ (ne : i ≢ 0). let up = has_above i (omega arith) in
      let less = above_less up.0 i up.1 in
      ahead_trans_not no_worse before laws (held_at d s i) (held_at d s up.0) (held_at d s 0) (heap.ordered d up.0 i up.1 hi) (root_leads k up.0 (omega arith) (omega arith)))
      (cases_eq i 0)

  pub root_first : 0 < n → Leads before (heap_entries s n) (held_at d s 0)
  root_first h = record {
    there = entry_here d s n heap.fits (heap.noted d) 0 h;
    unbeaten = λ p e is.
        let w = entry_somewhere d s n p e heap.fits is in
        let here = entry_here d s n heap.fits (heap.noted d) w.0 w.1 in
        let same : (held_at d s w.0).entry ≡ e = let point = w.2 in grind arith in
        subst (λ t. ahead before (record { point = p; entry = t }) (held_at d s 0) ≡ false) same
        (subst (λ t. ahead before (record { point = t; entry = (held_at d s w.0).entry }) (held_at d s 0) ≡ false) w.2 (root_leads (suc w.0) w.0 (omega arith) w.1));
  }

  -- the entry of a point that has one, taken in hand to be replaced
  pub gap_old : (x : Held C) (a : ℕ) → a < n → (held_at d s a).point ≡ x.point → Gap before (after_put (length s) (heap_entries s n) x.point x.entry) d s n a x
  gap_old x a ha is = record {
    fits = heap.fits;
    inside = ha;
    own = own;
    noted = λ i hi ne. heap.noted d i hi;
    other = other;
    ordered = λ p c b hc np nc. heap.ordered d p c b hc;
    across = λ p c b b' hc. ahead_trans_not no_worse before laws (held_at d s c) (held_at d s a) (held_at d s p) (heap.ordered d a c b' hc) (heap.ordered d p a b ha);
    in_hand = put_own (length s) (heap_entries s n) x.point x.entry own;
    listed = λ i hi ne. put_other (length s) (heap_entries s n) x.point x.entry (held_at d s i).point (other i hi ne) ∙ entry_here d s n heap.fits (heap.noted d) i hi;
    all = λ p e q ne. let w = entry_somewhere d s n p e heap.fits (sym (put_other (length s) (heap_entries s n) x.point x.entry p ne) ∙ q) in
        (w.0, w.1, (λ z. ne (sym w.2 ∙ ap (λ t. (held_at d s t).point) z ∙ is)), w.2);
  }
    where
      own : x.point < length s
      own = subst (λ t. t < length s) is (heap.noted d a ha).0

      other : (i : ℕ) → i < n → i ≢ a → (held_at d s i).point ≢ x.point
      other i hi ne e = ne (one_place d s n heap.fits (heap.noted d) i a hi ha (e ∙ sym is))

  -- a place after the last, for a point that has no entry
  pub gap_new : (x : Held C) → n < length s → x.point < length s → ((i : ℕ) → i < n → (held_at d s i).point ≢ x.point) → Gap before (after_put (length s) (heap_entries s n) x.point x.entry) d s (n + 1) n x
  gap_new x room own other = record {
    fits = omega arith;
    inside = omega arith;
    own = own;
    noted = λ i hi ne. heap.noted d i (omega arith);
    other = λ i hi ne. other i (omega arith);
    ordered = λ p c b hc np nc. heap.ordered d p c b (omega arith);
    across = λ p c b b' hc. absurd (omega (arith, above_less n c b'));
    in_hand = put_own (length s) (heap_entries s n) x.point x.entry own;
    listed = λ i hi ne. let l : i < n = omega arith in put_other (length s) (heap_entries s n) x.point x.entry (held_at d s i).point (other i l) ∙ entry_here d s n heap.fits (heap.noted d) i l;
    all = λ p e q ne. let w = entry_somewhere d s n p e heap.fits (sym (put_other (length s) (heap_entries s n) x.point x.entry p ne) ∙ q) in
        let l = w.1 in (w.0, omega arith, omega arith, w.2);
  }

  -- there is such a place: the points of the entries and one more are below the capacity
  pub room_left : (point : ℕ) → point < length s → ((i : ℕ) → i < n → (held_at d s i).point ≢ point) → n < length s
  room_left point own other = let k = pigeonhole (length s) (suc n) points low apart in omega arith
    where
      points : ℕ → ℕ
      points i = cond (eqb i n) point (held_at d s i).point

      at_n : points n ≡ point
      at_n = rw (eq-eqb n n refl)

      at_i : (i : ℕ) → i ≢ n → points i ≡ (held_at d s i).point
      at_i i ne = rw (ne_eqb i n ne)

      low : (i : ℕ) → i < suc n → points i < length s
      low i hi = ⊎_elim (λ (e : i ≡ n). rw (e, at_n) own) (λ (ne : i ≢ n). rw (at_i i ne) (heap.noted d i (omega arith)).0) (cases_eq i n)

      apart : Apart (suc n) points
      apart i j hi hj e =
          ⊎_elim
          (λ (a : i ≡ n). ⊎_elim (λ (b : j ≡ n). a ∙ sym b) (λ (b : j ≢ n). absurd (other j (omega arith) (sym (at_i j b) ∙ sym e ∙ ap points a ∙ at_n))) (cases_eq j n))
          (λ (a : i ≢ n). ⊎_elim (λ (b : j ≡ n). absurd (other i (omega arith) (sym (at_i i a) ∙ e ∙ ap points b ∙ at_n)))
          (λ (b : j ≢ n). one_place d s n heap.fits (heap.noted d) i j (omega arith) (omega arith) (sym (at_i i a) ∙ e ∙ at_i j b)) (cases_eq j n))
          (cases_eq i n)

  -- so a put finds a place for its entry, the noted one or that after the last
  pub room_at : (point : ℕ) (o : Option ℕ) → point < length s → Standing d s n point o → unwrap_or o n < length s
  room_at point None own none = room_left point own (none heap.fits (heap.noted d))
  room_at point (Some at) own here = omega (arith, heap.fits, here.0)

  -- x is in hand for a put, with the gap at place h
  abbrev Put : Held C → ℕ → ℕ → Type 0
  Put x count h = Gap before (after_put (length s) (heap_entries s n) x.point x.entry) d s count h x

  pub gap_put : (x : Held C) (o : Option ℕ) (at count : ℕ) → x.point < length s → Standing d s n x.point o → at ≡ unwrap_or o n → count ≡ max n (at + 1) → Gap before (after_put (length s) (heap_entries s n) x.point x.entry) d s count at x
  gap_put x None at count own none is most = subst (λ t. Put x count t) (sym is) (subst (λ t. Put x t n) (omega arith) (gap_new x (room_at x.point None own none) own (none heap.fits (heap.noted d))))
  gap_put x (Some a) at count own here is most = subst (λ t. Put x count t) (sym is) (subst (λ t. Put x t a) (omega (arith, here.0)) (gap_old x a here.0 here.1))

  -- the entries but the first are those at the other places
  rest_listed : 0 < n → (i : ℕ) → i < n → i ≢ 0 → without (heap_entries s n) (Some (held_at d s 0)) (held_at d s i).point ≡ Some (held_at d s i).entry
  rest_listed h i hi ne =
      rw (ne_eqb (held_at d s i).point (held_at d s 0).point (λ e. ne (one_place d s n heap.fits (heap.noted d) i 0 hi h e)))
      (entry_here d s n heap.fits (heap.noted d) i hi)

  rest_all : (p : ℕ) (e : Entry C) → without (heap_entries s n) (Some (held_at d s 0)) p ≡ Some e → (i : ℕ) × (i < n) × (i ≢ 0) × ((held_at d s i).point ≡ p)
  rest_all p e is =
      ⊎_elim
      (λ (z : p ≡ (held_at d s 0).point). absurd (none z))
      (λ (ne : p ≢ (held_at d s 0).point). let w = entry_somewhere d s n p e heap.fits (sym (kept ne) ∙ is) in (w.0, w.1, (λ z. ne (sym w.2 ∙ ap (λ t. (held_at d s t).point) z)), w.2))
      (cases_eq p (held_at d s 0).point)
    where
      none : p ≡ (held_at d s 0).point → ⊥
      none z = let t = eq-eqb p (held_at d s 0).point z in grind (arith, nat_tests)

      kept : p ≢ (held_at d s 0).point → without (heap_entries s n) (Some (held_at d s 0)) p ≡ heap_entries s n p
      kept ne = rw (ne_eqb p (held_at d s 0).point ne)

  -- what look answers stands at the first place
  look_root : 0 < n → look before (heap_entries s n) (length s) ≡ Some (held_at d s 0)
  look_root h = sym (first_look no_worse before laws (heap_entries s n) (length s) (Some (held_at d s 0)) (heap_within before s n heap) (root_first h))

  -- the first entry gone, and the last in hand to fill its place
  gap_first : (m : ℕ) → n ≡ m + 1 → 0 < m → Gap before (without (heap_entries s n) (Some (held_at d s 0))) d s m 0 (held_at d s m)
  gap_first m is h = record {
    fits = omega (arith, heap.fits);
    inside = h;
    own = (heap.noted d m (omega arith)).0;
    noted = λ i hi ne. heap.noted d i (omega arith);
    other = λ i hi ne e. let same : i ≡ m = one_place d s n heap.fits (heap.noted d) i m (omega arith) (omega arith) e in absurd (omega arith);
    ordered = λ p c b hc np nc. heap.ordered d p c b (omega arith);
    across = λ p c b b' hc. absurd (omega (arith, above_less p 0 b));
    in_hand = rest_listed (omega arith) m (omega arith) (omega arith);
    listed = λ i hi ne. rest_listed (omega arith) i (omega arith) ne;
    all = λ p e q ne. let w = rest_all p e q in let l = w.1 in
        let other : w.0 ≢ m = λ z. ne (sym w.3 ∙ ap (λ t. (held_at d s t).point) z) in
        (w.0, omega arith, w.2, w.3);
  }

  pub gap_taken : (m : ℕ) → n ≡ m + 1 → 0 < m → (x : Held C) → x ≡ held_at d s m → Gap before (after_take before (length s) (heap_entries s n)) d s m 0 x
  gap_taken m is h x same =
      subst (λ t. Gap before (without (heap_entries s n) t) d s m 0 x) (sym (look_root (omega arith)))
      (subst (Gap before (without (heap_entries s n) (Some (held_at d s 0))) d s m 0) (sym same) (gap_first m is h))

  -- where the first entry was the last, none is left
  only_taken : n ≡ 1 → (p : ℕ) → after_take before (length s) (heap_entries s n) p ≡ None
  only_taken one p = subst (λ t. without (heap_entries s n) t p ≡ None) (sym (look_root (omega arith))) (go _ refl)
    where
      go : (o : Option (Entry C)) → without (heap_entries s n) (Some (held_at d s 0)) p ≡ o → without (heap_entries s n) (Some (held_at d s 0)) p ≡ None
      go None e = e
      go (Some y) e = let w = rest_all p y e in let l = w.1 in absurd (w.2 (omega arith))

module _ {C : Type 0} (no_worse before : C → C → Bool) (laws : Compares C no_worse before) where
  -- an empty heap has no first
  pub look_none : (s : List (Slot C)) (n : ℕ) → n ≡ 0 → None ≡ look before (heap_entries s n) (length s)
  look_none s n e = first_look no_worse before laws (heap_entries s n) (length s) None (λ p h. rw e) (λ p. rw e)

  -- a take leaves nothing of at most one entry
  pub none_left : (s : List (Slot C)) (n : ℕ) → Heaped before s n → n ≤ 1 → (p : ℕ) → after_take before (length s) (heap_entries s n) p ≡ None
  none_left s zero heap few p = rw (sym (look_none s 0 refl))
  none_left [] (suc n) heap few p = absurd (omega (arith, heap.fits))
  none_left (x ∷ s) (suc n) heap few p = only_taken no_worse before laws x (x ∷ s) (suc n) heap (omega arith) p
