-- The order of entries of one point, and the sooner of two.
use Rattle.std.proofs.Common.{◌≡◌, ℕ, Bool, true, false, cond, not, ◌&&◌, ◌||◌, ◌⊎◌, Some, None, Option, sym, refl, ◌∙◌, inl, inr, ⊎_elim, arith}
use mathlib.Core.Bool.{false≢true}
use Rattle.std.proofs.lemmas.Bool.Decides.{nat_tests}
use Rattle.std.specs.Cmp.{IsStrictWeakOrder}
use Rattle.gauge.specs.Laws.{Compares}
use Rattle.queue.specs.declared.entries.Entry.{Entry}
use Rattle.method.specs.Ties.{lower, wins_tie, sooner, sooner_of}
use Rattle.method.specs.Waiting.{Soonest}

-- by one order, and where it does not tell by another
abbrev lex : {X : Type 0} → (X → X → Bool) → (X → X → Bool) → X → X → Bool
lex f g a b = f a b || (not (f b a) && g a b)

lex_asym : {X : Type 0} (f g : X → X → Bool) → IsStrictWeakOrder f → IsStrictWeakOrder g → (a b : X) → lex f g a b ≡ true → lex f g b a ≡ false
lex_asym f g wf wg a b e = grind (arith, wf.one_way, wg.one_way)

lex_skips : {X : Type 0} (f g : X → X → Bool) → IsStrictWeakOrder f → IsStrictWeakOrder g → (a b c : X) → lex f g a b ≡ false → lex f g b c ≡ false → lex f g a c ≡ false
lex_skips f g wf wg a b c d e = grind (arith, wf.one_way, wf.chain, wg.chain)

lex_weak : {X : Type 0} (f g : X → X → Bool) → IsStrictWeakOrder f → IsStrictWeakOrder g → IsStrictWeakOrder (lex f g)
lex_weak f g wf wg = record { one_way = lex_asym f g wf wg; chain = lex_skips f g wf wg }

lower_asym : (a b : Option ℕ) → lower a b ≡ true → lower b a ≡ false
lower_asym None None e = refl
lower_asym None (Some b) e = refl
lower_asym (Some a) None e = absurd (false≢true e)
lower_asym (Some a) (Some b) e = grind (arith, nat_tests)

lower_skips : (a b c : Option ℕ) → lower a b ≡ false → lower b c ≡ false → lower a c ≡ false
lower_skips a b c d e = grind (arith, nat_tests)

lower_same : (a b : Option ℕ) → lower a b ≡ false → lower b a ≡ false → a ≡ b
lower_same None None d e = refl
lower_same None (Some b) d e = absurd (false≢true (sym d))
lower_same (Some a) None d e = absurd (false≢true (sym e))
lower_same (Some a) (Some b) d e = let same : a ≡ b = grind (arith, nat_tests) in rw same

lower_weak : {X : Type 0} (f : X → Option ℕ) → IsStrictWeakOrder (λ (a b : X). lower (f a) (f b))
lower_weak f = record { one_way = λ a b. lower_asym (f a) (f b); chain = λ a b c. lower_skips (f a) (f b) (f c) }

ties_weak : {C : Type 0} → IsStrictWeakOrder (wins_tie {C = C})
ties_weak {C} = lex_weak (λ (a b : Entry C). lower a.from b.from) (λ (a b : Entry C). lower a.run b.run) (lower_weak (λ (e : Entry C). e.from)) (lower_weak (λ (e : Entry C). e.run))

module _ {C : Type 0} (no_worse before : C → C → Bool) (laws : Compares C no_worse before) where
  pub before_weak : IsStrictWeakOrder before
  before_weak = record { one_way = λ a b e. asym a b e; chain = λ a b c d e. skips a b c d e }
    where
      asym : (a b : C) → before a b ≡ true → before b a ≡ false
      asym a b e = grind (arith, laws.follows, laws.strict)

      skips : (a b c : C) → before a b ≡ false → before b c ≡ false → before a c ≡ false
      skips a b c d e = grind (arith, laws.total a b, laws.total b c, laws.follows, laws.strict)

  pub sooner_weak : IsStrictWeakOrder (sooner before)
  sooner_weak = lex_weak (λ (a b : Entry C). before a.cost b.cost) wins_tie
      (record { one_way = λ a b. before_weak.one_way a.cost b.cost; chain = λ a b c. before_weak.chain a.cost b.cost c.cost })
      ties_weak

  -- of two entries that differ one is sooner
  pub sooner_same : (a b : Entry C) → sooner before a b ≡ false → sooner before b a ≡ false → a ≡ b
  sooner_same a b d e =
      let cost : a.cost ≡ b.cost = grind (arith, laws.total a.cost b.cost) in
      let from : a.from ≡ b.from = lower_same a.from b.from (grind arith) (grind arith) in
      let run : a.run ≡ b.run = lower_same a.run b.run (grind arith) (grind arith) in
      λ i. record { cost = cost i; from = from i; run = run i }

  sooner_trans : (a b c : Entry C) → sooner before a b ≡ true → sooner before b c ≡ true → sooner before a c ≡ true
  sooner_trans a b c d e = go (sooner before a c) refl
    where
      go : (x : Bool) → sooner before a c ≡ x → x ≡ true
      go true p = refl
      go false p = sym (sooner_weak.chain a c b p (sooner_weak.one_way b c e)) ∙ d

  pub sooner_of_assoc : (a b c : Option (Entry C)) → sooner_of before (sooner_of before a b) c ≡ sooner_of before a (sooner_of before b c)
  sooner_of_assoc None b c = refl
  sooner_of_assoc (Some a) None c = refl
  sooner_of_assoc (Some a) (Some b) None = go (sooner before b a)
    where
      go : (p : Bool) → sooner_of before (cond p (Some b) (Some a)) None ≡ cond p (Some b) (Some a)
      go true = refl
      go false = refl
  sooner_of_assoc (Some a) (Some b) (Some c) = go (sooner before b a) refl (sooner before c b) refl
    where
      pick : (p : Bool) (x y : Entry C) → p ≡ true → cond p (Some x) (Some y) ≡ Some x
      pick p x y e = rw e

      skip : (p : Bool) (x y : Entry C) → p ≡ false → cond p (Some x) (Some y) ≡ Some y
      skip p x y e = rw e

      go : (p : Bool) → sooner before b a ≡ p → (q : Bool) → sooner before c b ≡ q →
          sooner_of before (cond p (Some b) (Some a)) (Some c) ≡ sooner_of before (Some a) (cond q (Some c) (Some b))
      go true d true e = pick (sooner before c b) c b e ∙ sym (pick (sooner before c a) c a (sooner_trans c b a e d))
      go true d false e = skip (sooner before c b) c b e ∙ sym (pick (sooner before b a) b a d)
      go false d true e = refl
      go false d false e = skip (sooner before c a) c a (sooner_weak.chain c b a e d) ∙ sym (skip (sooner before b a) b a d)

  -- the soonest of two kinds of entries is the sooner of the soonest of each
  pub soonest_both : (P Q : Entry C → Type 0) (a b : Option (Entry C)) → Soonest before P a → Soonest before Q b → Soonest before (λ e. P e ⊎ Q e) (sooner_of before a b)
  soonest_both P Q None None p q = λ e h. ⊎_elim (p e) (q e) h
  soonest_both P Q None (Some b) p q = (inr q.0, λ d h. ⊎_elim (λ k. absurd (p d k)) (q.1 d) h)
  soonest_both P Q (Some a) None p q = (inl p.0, λ d h. ⊎_elim (p.1 d) (λ k. absurd (q d k)) h)
  soonest_both P Q (Some a) (Some b) p q = go (sooner before b a) refl
    where
      go : (x : Bool) → sooner before b a ≡ x → Soonest before (λ e. P e ⊎ Q e) (cond x (Some b) (Some a))
      go true e = (inr q.0, λ d h. ⊎_elim (λ k. sooner_weak.chain d a b (p.1 d k) (sooner_weak.one_way b a e)) (q.1 d) h)
      go false e = (inl p.0, λ d h. ⊎_elim (p.1 d) (λ k. sooner_weak.chain d b a (q.1 d k) e) h)

  -- there is only one soonest
  pub soonest_same : (P : Entry C → Type 0) (a b : Option (Entry C)) → Soonest before P a → Soonest before P b → a ≡ b
  soonest_same P None None p q = refl
  soonest_same P None (Some b) p q = absurd (p b q.0)
  soonest_same P (Some a) None p q = absurd (q a p.0)
  soonest_same P (Some a) (Some b) p q = let same : a ≡ b = sooner_same a b (q.1 a p.0) (p.1 b q.0) in rw same

-- kinds of entries that are the same have the same soonest
pub soonest_like : {C : Type 0} (before : C → C → Bool) (P Q : Entry C → Type 0) → ((e : Entry C) → P e → Q e) → ((e : Entry C) → Q e → P e) → (o : Option (Entry C)) → Soonest before P o → Soonest before Q o
soonest_like before P Q f g None h = λ e q. h e (g e q)
soonest_like before P Q f g (Some a) h = (f a h.0, λ d q. h.1 d (g d q))
