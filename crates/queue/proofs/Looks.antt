-- The order in which the entries of a queue go, and the first of them.
use Rattle.std.proofs.Common.{◌≡◌, ℕ, zero, suc, ◌<◌, ◌≤◌, Bool, true, false, cond, ◌⊎◌, Some, None, Option, refl, subst, ⊎_elim, arith}
use Rattle.std.proofs.lemmas.Bool.{cases_lt}
use Rattle.std.proofs.lemmas.Bool.Decides.{nat_tests}
use Rattle.gauge.specs.Laws.{Compares}
use Rattle.queue.specs.declared.entries.Entry.{Entry}
use Rattle.queue.specs.declared.entries.Held.{Held}
use Rattle.queue.specs.Order.{First, ahead, look, nearer}

-- what holds of each number below n and of n holds below n + 1
upto : (n : ℕ) (P : ℕ → Type 0) → ((p : ℕ) → p < n → P p) → P n → (p : ℕ) → p < suc n → P p
upto n P h last p l = ⊎_elim (h p) (λ m. let e : n ≡ p = omega arith in subst P e last) (cases_lt p n)

module _ {C : Type 0} (no_worse before : C → C → Bool) (laws : Compares C no_worse before) where
  asym : (a b : C) → before a b ≡ true → before b a ≡ false
  asym a b p = grind (arith, laws.follows, laws.strict)

  -- not to come before is transitive
  skips : (a b c : C) → before a b ≡ false → before b c ≡ false → before a c ≡ false
  skips a b c p q = grind (arith, laws.follows, laws.total b c)

  pub ahead_self : (a : Held C) → ahead before a a ≡ false
  ahead_self a = grind (arith, nat_tests, laws.strict)

  pub ahead_asym : (a b : Held C) → ahead before a b ≡ true → ahead before b a ≡ false
  ahead_asym a b p = grind (arith, nat_tests, asym)

  -- where a does not go before b
  behind : (a b : Held C) → ahead before a b ≡ false →
      (before a.entry.cost b.entry.cost ≡ false) × ((before b.entry.cost a.entry.cost ≡ true) ⊎ (b.point ≤ a.point))
  behind a b p = grind (arith, nat_tests)

  -- not to go before is transitive
  pub ahead_trans_not : (a b c : Held C) → ahead before a b ≡ false → ahead before b c ≡ false → ahead before a c ≡ false
  ahead_trans_not a b c p q =
      let x = a.entry.cost in let y = b.entry.cost in let z = c.entry.cost in
      let h = behind a b p in let k = behind b c q in
      grind (arith, nat_tests, skips x y z, skips y z x, skips z x y)

  -- of two entries with different points or costs one goes before the other
  pub ahead_same : (a b : Held C) → ahead before a b ≡ false → ahead before b a ≡ false → (a.entry.cost ≡ b.entry.cost) × (a.point ≡ b.point)
  ahead_same a b p q = (grind (arith, nat_tests, laws.total a.entry.cost b.entry.cost), grind (arith, nat_tests, asym))

  -- two that are both first are the same
  first_same : (entries : ℕ → Option (Entry C)) (r s : Option (Held C)) → First before entries r → First before entries s → r ≡ s
  first_same entries None None p q = refl
  first_same entries None (Some b) p q = let h = p b.point in let k = q.there in grind arith
  first_same entries (Some a) None p q = let h = q a.point in let k = p.there in grind arith
  first_same entries (Some a) (Some b) p q =
      let h = (ahead_same a b (q.unbeaten a.point a.entry p.there) (p.unbeaten b.point b.entry q.there)).1 in
      let k = p.there in let l = q.there in
      let e : a.entry ≡ b.entry = grind arith in
      λ i. Some (record { point = h i; entry = e i })

  module _ (entries : ℕ → Option (Entry C)) where
    -- the first of the entries of the points below n
    abbrev FirstSoFar : ℕ → Option (Held C) → Type 0
    FirstSoFar n None = (p : ℕ) → p < n → entries p ≡ None
    FirstSoFar n (Some f) = (f.point < n) × (entries f.point ≡ Some f.entry) ×
        ((p : ℕ) → p < n → (e : Entry C) → entries p ≡ Some e → ahead before (record { point = p; entry = e }) f ≡ false)

    nearer_below : (n : ℕ) (o : Option (Entry C)) (r : Option (Held C)) → entries n ≡ o → FirstSoFar n r → FirstSoFar (suc n) (nearer before n o r)
    nearer_below n None None s h = upto n _ h s
    nearer_below n None (Some f) s h = (omega (arith, h.0), h.1, upto n _ h.2 (λ e t. grind arith))
    nearer_below n (Some o) None s h =
        (omega arith, s, upto n _ (λ p l e t. let g = h p l in grind arith) (λ e t. let g = ahead_self (record { point = n; entry = o }) in grind arith))
    nearer_below n (Some o) (Some f) s h = go (before o.cost f.entry.cost) refl
      where
        new : Held C
        new = record { point = n; entry = o }

        go : (t : Bool) → before o.cost f.entry.cost ≡ t → FirstSoFar (suc n) (cond t (Some new) (Some f))
        go true t = (
          omega arith,
          s,
          upto n _
              (λ p l e q. ahead_trans_not (record { point = p; entry = e }) f new (h.2 p l e q) (let g = asym o.cost f.entry.cost t in grind arith))
              (λ e q. let g = ahead_self new in grind arith),
        )
        go false t = (omega (arith, h.0), h.1, upto n _ h.2 (λ e q. let g = h.0 in grind (arith, nat_tests)))

    look_below : (n : ℕ) → FirstSoFar n (look before entries n)
    look_below zero = λ p l. absurd (omega arith)
    look_below (suc n) = nearer_below n (entries n) (look before entries n) refl (look_below n)

    -- what look answers is the first, if it looks past all entries
    pub look_first : (n : ℕ) → ((p : ℕ) → n ≤ p → entries p ≡ None) → First before entries (look before entries n)
    look_first n past = go (look before entries n) (look_below n)
      where
        go : (r : Option (Held C)) → FirstSoFar n r → First before entries r
        go None h = λ p. ⊎_elim (h p) (past p) (cases_lt p n)
        go (Some f) h = record {
          there = h.1;
          unbeaten = λ p e t. ⊎_elim (λ l. h.2 p l e t) (λ l. let g = past p l in grind arith) (cases_lt p n);
        }

    -- and the first is what look answers
    pub first_look : (n : ℕ) (r : Option (Held C)) → ((p : ℕ) → n ≤ p → entries p ≡ None) → First before entries r → r ≡ look before entries n
    first_look n r past h = first_same entries r (look before entries n) h (look_first n past)
