-- Sets of zones as numbers: what & and | say of each zone, and the laws of a set.
use Rattle.std.specs.Prelude.{◌≡◌, ℕ, ◌+◌, ◌/◌, ◌%◌, ◌^◌, min, max, T, Decides, bit_and, bit_or, nat_lt, refl}
use Rattle.std.proofs.Common.{⊎_elim, arith, eqb→eq}
use Rattle.std.proofs.Math.Arith.{bin_ind}
use Rattle.std.specs.Int.Bits.{and_step, or_step}
use Rattle.std.proofs.Math.Dec.{eqb_refl}
use Rattle.std.proofs.lemmas.Nat.{shr-shr, and_shr, or_shr, and_le_r}
use Rattle.std.proofs.lemmas.Bool.Decides.{nat_tests, Decides-eqb, Decides-like}
use Rattle.gauge.specs.Laws.{Carries, Compares}
use Rattle.gauge.specs.Zones.{Among, Unites, subset, inside}
use Rattle.gauge.specs.LawProofs.Numbers.{carries_numbers, compares_numbers}

-- the digit of each place: of a & b the lesser, of a | b the greater
and_digit : (a b k : ℕ) → bit_and a b / 2 ^ k % 2 ≡ min (a / 2 ^ k % 2) (b / 2 ^ k % 2)
and_digit a b k = rw and_shr (omega (arith, and_step (a / 2 ^ k) (b / 2 ^ k)))

or_digit : (a b k : ℕ) → bit_or a b / 2 ^ k % 2 ≡ max (a / 2 ^ k % 2) (b / 2 ^ k % 2)
or_digit a b k = rw or_shr (omega (arith, or_step (a / 2 ^ k) (b / 2 ^ k)))

-- a & b is a exactly if every zone of a is one of b
pub and_tells : (a b : ℕ) → bit_and a b ≡ a → Among a b
and_tells a b e k z = let d = and_digit a b k in grind arith

pub and_same : (a b : ℕ) → Among a b → bit_and a b ≡ a
and_same = bin_ind (λ a. (b : ℕ) → Among a b → bit_and a b ≡ a) (λ b h. refl)
    (λ a ih b h.
    let up = ih (b / 2) (λ k z. let e = shr-shr a 1 k in let f = shr-shr b 1 k in let g = h (1 + k) in grind arith) in
    let low = h 0 in let s = and_step a b in grind arith)

pub subset_decides : (a b : ℕ) → Decides (subset a b) (Among a b)
subset_decides a b = Decides-like (subset a b) (and_tells a b) (and_same a b) (Decides-eqb (bit_and a b) a)

-- a | b has the zones of both, and is among each set that has them
pub or_unites : (a b : ℕ) → Unites a b (bit_or a b)
or_unites a b = (λ k z. omega (arith, or_digit a b k), λ k z. omega (arith, or_digit a b k), λ k z. let d = or_digit a b k in grind arith)

pub or_least : (a b c : ℕ) → Among a c → Among b c → Among (bit_or a b) c
or_least a b c p q k z = ⊎_elim (p k) (q k) ((or_unites a b).2 k z)

-- the test of Among, as the laws have it
among : (a b : ℕ) → T (subset a b) → Among a b
among a b p = and_tells a b (eqb→eq (bit_and a b) a p)

test : (a b : ℕ) → Among a b → T (subset a b)
test a b h = rw (and_same a b h) (eqb_refl a)

within_all : (a b c : ℕ) → T (subset a b) → T (subset b c) → T (subset a c)
within_all a b c p q = test a c (λ k z. among b c q k (among a b p k z))

-- sets compare lawfully, and unite lawfully within an allowed set
pub compares_sets : Compares ℕ subset nat_lt
compares_sets = compares_numbers subset within_all (λ a. test a a (λ k z. z)) (λ a b p. let h = and_le_r a b in grind (arith, nat_tests))

pub carries_sets : (allowed : ℕ) → Carries ℕ ℕ subset (λ c w. inside allowed (bit_or c w))
carries_sets = carries_numbers subset within_all bit_or
    (λ a w. test a (bit_or a w) (or_unites a w).0)
    (λ a b w p. test (bit_or a w) (bit_or b w) (or_least a w (bit_or b w) (λ k z. (or_unites b w).0 k (among a b p k z)) (or_unites b w).1))
