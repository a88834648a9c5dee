-- How a gap moves through a heap.
use Rattle.std.proofs.Common.{◌≡◌, ℕ, ◌+◌, ◌<◌, ◌≤◌, Bool, true, false, ◌≢◌, List, length, Some, Option, sym, refl, ap, ◌∙◌, subst, ⊎_elim, arith}
use Rattle.std.proofs.lemmas.Bool.{cases_eq, eq-eqb, ne_eqb}
use Rattle.std.proofs.lemmas.Bool.Decides.{nat_tests}
use Rattle.gauge.specs.Laws.{Compares}
use Rattle.queue.specs.declared.entries.Entry.{Entry}
use Rattle.queue.specs.declared.entries.Held.{Held}
use Rattle.queue.specs.declared.heaps.slots.Slot.{Slot}
use Rattle.queue.specs.Order.{ahead}
use Rattle.queue.specs.InHeap.{Below, held_at, noted_at}
use Rattle.queue.specs.Sifting.{FirstBelow, Gap, OverBelow, Stood, UnderAbove}
use Rattle.queue.proofs.Levels.{above_less, above_one}
use Rattle.queue.proofs.Looks.{ahead_asym, ahead_self, ahead_trans_not}

-- after y has been written to a place
module _ {C : Type 0} (d : Slot C) (s : List (Slot C)) (at : ℕ) (y : Held C) (s' : List (Slot C)) (st : Stood d s at y s') where
  pub stood_at : held_at d s' at ≡ y
  stood_at = st.held at ∙ rw (eq-eqb at at refl)

  pub stood_other : (i : ℕ) → i ≢ at → held_at d s' i ≡ held_at d s i
  stood_other i ne = st.held i ∙ rw (ne_eqb i at ne)

  -- what is true of y and of what stands elsewhere is true of what stands there now
  pub stood_all : (P : Held C → Type 0) (i : ℕ) → (i ≡ at → P y) → (i ≢ at → P (held_at d s i)) → P (held_at d s' i)
  stood_all P i here there =
      ⊎_elim
      (λ (e : i ≡ at). subst P (sym (ap (held_at d s') e ∙ stood_at)) (here e))
      (λ (ne : i ≢ at). subst P (sym (stood_other i ne)) (there ne))
      (cases_eq i at)

  pub noted_own : y.point < length s → noted_at d s' y.point ≡ at
  noted_own h = st.place y.point ∙ grind (arith, nat_tests)

  pub noted_other : (p : ℕ) → p ≢ y.point → noted_at d s' p ≡ noted_at d s p
  noted_other p ne = st.place p ∙ rw (ne_eqb p y.point ne)

module _ {C : Type 0} (before : C → C → Bool) (entries : ℕ → Option (Entry C)) (d : Slot C) (s : List (Slot C)) (n at k : ℕ) (x : Held C) (gap : Gap before entries d s n at x) (hk : k < n) (nk : k ≢ at) (s' : List (Slot C)) (st : Stood d s at (held_at d s k) s') where
  -- two entries of one point stand at one place
  point_apart : (i : ℕ) → i < n → i ≢ at → i ≢ k → (held_at d s i).point ≢ (held_at d s k).point
  point_apart i h ne nf e = nf (sym (gap.noted i h ne).1 ∙ ap (noted_at d s) e ∙ (gap.noted k hk nk).1)

  moved_noted : (i : ℕ) → i < n → i ≢ k → ((held_at d s' i).point < length s') × (noted_at d s' (held_at d s' i).point ≡ i)
  moved_noted i h ne =
      stood_all d s at _ s' st (λ t. (t.point < length s') × (noted_at d s' t.point ≡ i)) i
      (λ e. (rw st.room (gap.noted k hk nk).0, noted_own d s at _ s' st (gap.noted k hk nk).0 ∙ sym e))
      (λ nf. (rw st.room (gap.noted i h nf).0, noted_other d s at _ s' st _ (point_apart i h nf ne) ∙ (gap.noted i h nf).1))

  moved_other : (i : ℕ) → i < n → i ≢ k → (held_at d s' i).point ≢ x.point
  moved_other i h ne = stood_all d s at _ s' st (λ t. t.point ≢ x.point) i (λ e. gap.other k hk nk) (λ nf. gap.other i h nf)

  moved_listed : (i : ℕ) → i < n → i ≢ k → entries (held_at d s' i).point ≡ Some (held_at d s' i).entry
  moved_listed i h ne = stood_all d s at _ s' st (λ t. entries t.point ≡ Some t.entry) i (λ e. gap.listed k hk nk) (λ nf. gap.listed i h nf)

  moved_all : (p : ℕ) (e : Entry C) → entries p ≡ Some e → p ≢ x.point → (i : ℕ) × (i < n) × (i ≢ k) × ((held_at d s' i).point ≡ p)
  moved_all p e is ne =
      let w = gap.all p e is ne in
      ⊎_elim
      (λ (same : w.0 ≡ k). (at, gap.inside, (λ z. nk (sym z)), ap (λ t. t.point) (stood_at d s at _ s' st) ∙ ap (λ t. (held_at d s t).point) (sym same) ∙ w.3))
      (λ (nf : w.0 ≢ k). (w.0, w.1, nf, ap (λ t. t.point) (stood_other d s at _ s' st w.0 w.2) ∙ w.3))
      (cases_eq w.0 k)

  -- the gap moves to k once what stood there stands in it; the order is to be shown for each direction
  gap_moves : ((p c : ℕ) → Below p c → c < n → p ≢ k → c ≢ k → ahead before (held_at d s' c) (held_at d s' p) ≡ false) → ((p c : ℕ) → Below p k → Below k c → c < n → ahead before (held_at d s' c) (held_at d s' p) ≡ false) → Gap before entries d s' n k x
  gap_moves ordered across = record {
    fits = rw st.room gap.fits;
    inside = hk;
    own = rw st.room gap.own;
    noted = moved_noted;
    other = moved_other;
    ordered = ordered;
    across = across;
    in_hand = gap.in_hand;
    listed = moved_listed;
    all = moved_all;
  }

  pub gap_down : FirstBelow before d s n at k → Gap before entries d s' n k x
  gap_down f = gap_moves
      (λ p c b h np nc. stood_all d s at _ s' st (λ t. ahead before t (held_at d s' p) ≡ false) c
      (λ e. rw (stood_other d s at _ s' st p (λ z. absurd (omega (arith, above_less p c b, e, z)))) (gap.across p k (subst (Below p) e b) f.below hk))
      (λ ne. stood_all d s at _ s' st (λ t. ahead before (held_at d s c) t ≡ false) p
      (λ e. f.leads c (subst (λ z. Below z c) e b) h)
      (λ nf. gap.ordered p c b h nf ne)))
      (λ p c b b' h. let e : p ≡ at = above_one p at k b f.below in
      rw (e, stood_at d s at _ s' st, stood_other d s at _ s' st c (λ z. absurd (omega (arith, above_less at k f.below, above_less k c b', z))))
      (gap.ordered k c b' h nk (λ z. absurd (omega (arith, above_less at k f.below, above_less k c b', z)))))

  pub gap_up : ((a b c : Held C) → ahead before a b ≡ false → ahead before b c ≡ false → ahead before a c ≡ false) → Below k at → Gap before entries d s' n k x
  gap_up skips bk = gap_moves
      (λ p c b h np nc. let ne : c ≢ at = λ e. np (above_one p k at (subst (Below p) e b) bk) in
      rw (stood_other d s at _ s' st c ne) (stood_all d s at _ s' st (λ t. ahead before (held_at d s c) t ≡ false) p
      (λ e. gap.across k c bk (subst (λ z. Below z c) e b) h)
      (λ nf. gap.ordered p c b h nf ne)))
      (λ p c b b' h. let np : p ≢ at = (λ z. absurd (omega (arith, above_less p k b, above_less k at bk, z))) in
      rw (stood_other d s at _ s' st p np) (stood_all d s at _ s' st (λ t. ahead before t (held_at d s p) ≡ false) c
      (λ e. gap.ordered p k b hk np nk)
      (λ ne. skips (held_at d s c) (held_at d s k) (held_at d s p) (gap.ordered k c b' h nk ne) (gap.ordered p k b hk np nk))))

-- what was moved up does not come after what is in hand
pub under_moved : {C : Type 0} (before : C → C → Bool) (d : Slot C) (s : List (Slot C)) (at k : ℕ) (x : Held C) (s' : List (Slot C)) → Stood d s at (held_at d s k) s' → Below at k → ahead before x (held_at d s k) ≡ false → UnderAbove before d s' k x
under_moved before d s at k x s' st bk last p b = rw (above_one p at k b bk, stood_at d s at _ s' st) last

-- the entry in hand fills the gap
module _ {C : Type 0} (before : C → C → Bool) (entries : ℕ → Option (Entry C)) (d : Slot C) (s : List (Slot C)) (n h : ℕ) (x : Held C) (gap : Gap before entries d s n h x) (s' : List (Slot C)) (st : Stood d s h x s') where
  pub filled_noted : (i : ℕ) → i < n → ((held_at d s' i).point < length s') × (noted_at d s' (held_at d s' i).point ≡ i)
  filled_noted i hi =
      stood_all d s h x s' st (λ t. (t.point < length s') × (noted_at d s' t.point ≡ i)) i
      (λ e. (rw st.room gap.own, noted_own d s h x s' st gap.own ∙ sym e))
      (λ ne. (rw st.room (gap.noted i hi ne).0, noted_other d s h x s' st _ (gap.other i hi ne) ∙ (gap.noted i hi ne).1))

  pub filled_ordered : UnderAbove before d s h x → OverBelow before d s n h x → (p c : ℕ) → Below p c → c < n → ahead before (held_at d s' c) (held_at d s' p) ≡ false
  filled_ordered under over p c b hc =
      stood_all d s h x s' st (λ t. ahead before t (held_at d s' p) ≡ false) c
      (λ e. rw (stood_other d s h x s' st p (λ z. absurd (omega (arith, above_less p c b, e, z)))) (under p (subst (Below p) e b)))
      (λ ne. stood_all d s h x s' st (λ t. ahead before (held_at d s c) t ≡ false) p
      (λ e. over c (subst (λ z. Below z c) e b) hc)
      (λ nf. gap.ordered p c b hc nf ne))

  pub filled_listed : (i : ℕ) → i < n → entries (held_at d s' i).point ≡ Some (held_at d s' i).entry
  filled_listed i hi = stood_all d s h x s' st (λ t. entries t.point ≡ Some t.entry) i (λ e. gap.in_hand) (λ ne. gap.listed i hi ne)

  pub filled_all : (p : ℕ) (e : Entry C) → entries p ≡ Some e → (i : ℕ) × (i < n) × ((held_at d s' i).point ≡ p)
  filled_all p e is =
      ⊎_elim
      (λ (same : p ≡ x.point). (h, gap.inside, ap (λ t. t.point) (stood_at d s h x s' st) ∙ sym same))
      (λ (ne : p ≢ x.point). let w = gap.all p e is ne in (w.0, w.1, ap (λ t. t.point) (stood_other d s h x s' st w.0 w.2) ∙ w.3))
      (cases_eq p x.point)

-- the first of the places from start on stays the first when one more place is seen
module _ {C : Type 0} (no_worse before : C → C → Bool) (laws : Compares C no_worse before) (f : ℕ → Held C) (start first next : ℕ) (leads : (q : ℕ) → start ≤ q → q < next → ahead before (f q) (f first) ≡ false) where
  pub first_changed : ahead before (f next) (f first) ≡ true → (q : ℕ) → start ≤ q → q < next + 1 → ahead before (f q) (f next) ≡ false
  first_changed t q low h =
      ⊎_elim
      (λ (e : q ≡ next). rw e (ahead_self no_worse before laws (f next)))
      (λ (ne : q ≢ next). ahead_trans_not no_worse before laws (f q) (f first) (f next) (leads q low (omega arith)) (ahead_asym no_worse before laws (f next) (f first) t))
      (cases_eq q next)

  pub first_kept : ahead before (f next) (f first) ≡ false → (q : ℕ) → start ≤ q → q < next + 1 → ahead before (f q) (f first) ≡ false
  first_kept t q low h =
      ⊎_elim
      (λ (e : q ≡ next). rw e t)
      (λ (ne : q ≢ next). leads q low (omega arith))
      (cases_eq q next)
