-- The five laws that every gauge keeps.
use Rattle.std.specs.Prelude.{◌≡◌, Bool, T, ◌⊎◌, Some, Option, ◌≢◌}

-- the first three, on how costs C compare: no_worse a b says that a is no worse than b, before a b that a comes first in listing order
pub record Compares (C : Type 0) (no_worse before : C → C → Bool) : Type 0 where
  -- first: no worse is reflexive and transitive, and two costs each no worse than the other are the same
  pub reflexive : (a : C) → T (no_worse a a)
  pub transitive : (a b c : C) → T (no_worse a b) → T (no_worse b c) → T (no_worse a c)
  pub antisymmetric : (a b : C) → T (no_worse a b) → T (no_worse b a) → a ≡ b
  -- second: listing order is transitive, and no cost comes before itself; of two different costs one comes before the other,
  -- and not both do, or the first would come before itself
  pub follows : (a b c : C) → T (before a b) → T (before b c) → T (before a c)
  pub strict : (a : C) → T (before a a) → ⊥
  pub total : (a b : C) → (a ≡ b) ⊎ (T (before a b) ⊎ T (before b a))
  -- third: a cost no worse than a different one comes before it
  pub better_first : (a b : C) → T (no_worse a b) → (a ≢ b) → T (before a b)

-- the other two, on going along runs of weight W at some limits: along c w is the cost that c becomes, or none if a limit would be passed
pub record Carries (C W : Type 0) (no_worse : C → C → Bool) (along : C → W → Option C) : Type 0 where
  -- fourth: a cost is no worse than what it becomes along a run
  pub grows : (a b : C) (w : W) → along a w ≡ Some b → T (no_worse a b)
  -- fifth: where a cost can go along a run, one no worse can too, and its result is no worse
  pub keeps : (a b b' : C) (w : W) → T (no_worse a b) → along b w ≡ Some b' → (a' : C) × (along a w ≡ Some a') × T (no_worse a' b')
