-- Gauges whose cost is one number, listed from the lowest.
use Rattle.std.specs.Prelude.{◌≡◌, ℕ, ◌+◌, ◌≤◌, max, Bool, true, false, cond, T, Some, None, nat_le, nat_lt, refl}
use Rattle.std.proofs.Common.{subst, arith}
use Rattle.std.proofs.lemmas.Bool.Decides.{nat_tests}
use Rattle.gauge.specs.Laws.{Carries, Compares}
use Rattle.gauge.specs.Costs.{within}

-- what a limit lets through passed its test
let_through : (b : Bool) (n m : ℕ) → cond b (Some n) None ≡ Some m → T b × (n ≡ m)
let_through true n m e = (tt, grind arith)
let_through false n m e = grind arith

passes : (b : Bool) (n : ℕ) → T b → cond b (Some n) None ≡ Some n
passes true n p = refl
passes false n p = absurd p

module _ (no_worse : ℕ → ℕ → Bool) (transitive : (a b c : ℕ) → T (no_worse a b) → T (no_worse b c) → T (no_worse a c)) where
  -- they compare lawfully if no worse is reflexive and transitive, and never holds of a greater number
  pub compares_numbers : ((a : ℕ) → T (no_worse a a)) → ((a b : ℕ) → T (no_worse a b) → a ≤ b) → Compares ℕ no_worse nat_lt
  compares_numbers reflexive smaller = record {
    reflexive = reflexive;
    transitive = transitive;
    antisymmetric = λ a b p q. omega (arith, smaller a b p, smaller b a q);
    follows = λ a b c p q. grind (arith, nat_tests);
    strict = λ a p. grind (arith, nat_tests);
    total = λ a b. grind (arith, nat_tests);
    better_first = λ a b p q. let h = smaller a b p in grind (arith, nat_tests);
  }

  -- they go along runs lawfully, by a step and as long as the result is no worse than a limit,
  -- if the step makes no number better, and of two numbers keeps which is no worse
  pub carries_numbers : (step : ℕ → ℕ → ℕ) → ((a w : ℕ) → T (no_worse a (step a w))) → ((a b w : ℕ) → T (no_worse a b) → T (no_worse (step a w) (step b w))) →
      (limit : ℕ) → Carries ℕ ℕ no_worse (λ c w. cond (no_worse (step c w) limit) (Some (step c w)) None)
  carries_numbers step grow keep limit = record {
    grows = λ a b w e. subst (λ n. T (no_worse a n)) (let_through (no_worse (step a w) limit) (step a w) b e).1 (grow a w);
    keeps = λ a b b' w p e.
        let f = let_through (no_worse (step b w) limit) (step b w) b' e in
        let h = keep a b w p in
        (step a w, passes (no_worse (step a w) limit) (step a w) (transitive (step a w) (step b w) limit h f.0), subst (λ n. T (no_worse (step a w) n)) f.1 h);
  }

-- totals and classes: no worse is at most
at_most : (a b c : ℕ) → T (nat_le a b) → T (nat_le b c) → T (nat_le a c)
at_most a b c p q = grind (arith, nat_tests)

pub compares_totals : Compares ℕ nat_le nat_lt
compares_totals = compares_numbers nat_le at_most (λ a. grind (arith, nat_tests)) (λ a b p. grind (arith, nat_tests))

-- their step never lessens a number and keeps the order
pub carries_totals : (step : ℕ → ℕ → ℕ) → ((a w : ℕ) → a ≤ step a w) → ((a b w : ℕ) → a ≤ b → step a w ≤ step b w) →
    (limit : ℕ) → Carries ℕ ℕ nat_le (λ c w. within limit (step c w))
carries_totals step grow keep = carries_numbers nat_le at_most step (λ a w. grind (arith, nat_tests, grow)) (λ a b w p. grind (arith, nat_tests, keep))

-- adding and keeping the greater are such steps
pub carries_sums : (limit : ℕ) → Carries ℕ ℕ nat_le (λ c w. within limit (c + w))
carries_sums = carries_totals ◌+◌ (λ a w. omega arith) (λ a b w h. omega arith)

pub carries_worsts : (limit : ℕ) → Carries ℕ ℕ nat_le (λ c w. within limit (max c w))
carries_worsts = carries_totals max (λ a w. omega arith) (λ a b w h. omega arith)
