-- The limits of the gauges, their ranges, and the gauges made from them.
use Rattle.std.specs.Prelude.{ℕ, cond, Some, None, Ok, Err, Option, Result, nat_le}
use Rattle.fault.specs.declared.limit.LimitFault.{LimitFault}
use Rattle.fault.specs.declared.limit.LimitFault.TheVariants.{Limit}
use Rattle.gauge.specs.declared.sum.Sum.{Sum}
use Rattle.gauge.specs.declared.worst.Worst.{Worst}
use Rattle.gauge.specs.declared.set.Set.{Set}
use Rattle.gauge.specs.declared.pair.Pair.{Pair}
use Rattle.gauge.specs.Pairs.{three_parts}

-- a Sum at a limit of at most 4,294,967,294
abbrev pub sum_at : ℕ → Option Sum
sum_at limit = cond (nat_le limit 4294967294) (Some (record { limit = limit })) None

-- a Worst at a limit of at most 15
abbrev pub worst_at : ℕ → Option Worst
worst_at limit = cond (nat_le limit 15) (Some (record { limit = limit })) None

-- a Set at any allowed set
abbrev pub set_at : ℕ → Set
set_at allowed = record { allowed = allowed }

-- the widest limits: for a Sum the greatest, for a Worst the greatest class, for a Set all 32 zones
abbrev pub widest_sum : Sum
widest_sum = record { limit = 4294967294 }

abbrev pub widest_worst : Worst
widest_worst = record { limit = 15 }

abbrev pub widest_set : Set
widest_set = record { allowed = 4294967295 }

-- goes on with the part that was made, or refuses its limit
abbrev pub part : {A B : Type 0} → ℕ → Option A → (A → Result B LimitFault) → Result B LimitFault
part n None make = Err (Limit n)
part n (Some a) make = make a

-- a gauge of three parts, or the first part that its limit did not make
abbrev pub made : {A B C : Type 0} → Option A → Option B → Option C → Result (Pair A (Pair B C)) LimitFault
made a b c = part 0 a (λ x. part 1 b (λ y. part 2 c (λ z. Ok (three_parts x y z))))

-- decimetres, drillings, zones
abbrev pub cable_at : ℕ → ℕ → ℕ → Result (Pair Sum (Pair Sum Set)) LimitFault
cable_at decimetres drillings zones =
    part 0 (sum_at decimetres) (λ a. part 1 (sum_at drillings) (λ b. Ok (three_parts a b (set_at zones))))

-- decimetres, ramp class, crossings
abbrev pub drive_at : ℕ → ℕ → ℕ → Result (Pair Sum (Pair Worst Sum)) LimitFault
drive_at decimetres ramp crossings =
    part 0 (sum_at decimetres) (λ a. part 1 (worst_at ramp) (λ b. part 2 (sum_at crossings) (λ c. Ok (three_parts a b c))))

-- both gauges at the widest limits
abbrev pub widest_cable : Pair Sum (Pair Sum Set)
widest_cable = three_parts widest_sum widest_sum widest_set

abbrev pub widest_drive : Pair Sum (Pair Worst Sum)
widest_drive = three_parts widest_sum widest_worst widest_sum
