-- A pair of lawful gauges is lawful.
use Rattle.std.specs.Prelude.{◌≡◌, Bool, ◌&&◌, T, ◌⊎◌, Decides, Option}
use Rattle.std.proofs.Common.{arith}
use Rattle.gauge.specs.declared.pair.Pair.{Pair}
use Rattle.gauge.specs.Laws.{Carries, Compares}
use Rattle.gauge.specs.Pairs.{Ahead, both, lexical}

-- costs that agree in both parts are the same
same : {C D : Type 0} (a b : Pair C D) → a.first ≡ b.first → a.second ≡ b.second → a ≡ b
same a b p q = λ i. record { first = p i; second = q i }

module _ {C D : Type 0} (no_worse₁ : C → C → Bool) (no_worse₂ : D → D → Bool) where
  -- no worse in both parts
  abbrev no_worse : Pair C D → Pair C D → Bool
  no_worse a b = no_worse₁ a.first b.first && no_worse₂ a.second b.second

  parts : (a b : Pair C D) → T (no_worse a b) → T (no_worse₁ a.first b.first) × T (no_worse₂ a.second b.second)
  parts a b p = (grind arith, grind arith)

  whole : (a b : Pair C D) → T (no_worse₁ a.first b.first) → T (no_worse₂ a.second b.second) → T (no_worse a b)
  whole a b p q = grind arith

  module _ (before₁ : C → C → Bool) (before₂ : D → D → Bool) (l : Compares C no_worse₁ before₁) (m : Compares D no_worse₂ before₂) where
    -- before by the first part, or by the second where the first parts are the same
    abbrev before : Pair C D → Pair C D → Bool
    before a b = lexical (before₁ a.first b.first) (before₁ b.first a.first) (before₂ a.second b.second)

    ahead : (a b : Pair C D) → T (before a b) → Ahead before₁ before₂ a b
    ahead a b p = grind (arith, l.total a.first b.first)

    listed : (a b : Pair C D) → Ahead before₁ before₂ a b → T (before a b)
    listed a b h = grind (arith, l.strict)

    pub before_ahead : (a b : Pair C D) → Decides (before a b) (Ahead before₁ before₂ a b)
    before_ahead a b = ((λ t. let h = ahead a b in grind arith), (λ h. let p = listed a b h in grind arith))

    on : (a b c : Pair C D) → Ahead before₁ before₂ a b → Ahead before₁ before₂ b c → Ahead before₁ before₂ a c
    on a b c h k = grind (arith, l.follows, m.follows)

    apart : (a b : Pair C D) → (a ≡ b) ⊎ (Ahead before₁ before₂ a b ⊎ Ahead before₁ before₂ b a)
    apart a b = grind (arith, same a b, l.total a.first b.first, m.total a.second b.second)

    pub compares_pairs : Compares (Pair C D) no_worse before
    compares_pairs = record {
      reflexive = λ a. whole a a (l.reflexive _) (m.reflexive _);
      transitive = λ a b c p q.
          let x = parts a b p in let y = parts b c q in
          whole a c (l.transitive _ _ _ x.0 y.0) (m.transitive _ _ _ x.1 y.1);
      antisymmetric = λ a b p q.
          let x = parts a b p in let y = parts b a q in same a b (l.antisymmetric _ _ x.0 y.0) (m.antisymmetric _ _ x.1 y.1);
      follows = λ a b c p q. listed a c (on a b c (ahead a b p) (ahead b c q));
      strict = λ a p. grind (arith, l.strict, m.strict);
      total = λ a b. grind (arith, apart a b, listed a b, listed b a);
      better_first = λ a b p q. listed a b (grind (arith, apart a b, l.better_first, m.better_first));
    }

  -- going along, each part on its own
  pub carries_pairs : {W V : Type 0} (along₁ : C → W → Option C) (along₂ : D → V → Option D) → Carries C W no_worse₁ along₁ → Carries D V no_worse₂ along₂ →
      Carries (Pair C D) (Pair W V) no_worse (λ c w. both (along₁ c.first w.first) (along₂ c.second w.second))
  carries_pairs along₁ along₂ l m = record {
    grows = λ a b w e. grind (arith, l.grows, m.grows);
    keeps = λ a b b' w p e.
        let x = parts a b p in
        let h = l.keeps a.first b.first b'.first w.first x.0 (grind arith) in
        let k = m.keeps a.second b.second b'.second w.second x.1 (grind arith) in
        let c : Pair C D = record { first = h.0; second = k.0 } in
        (c, grind arith, whole c b' h.2 k.2);
  }
