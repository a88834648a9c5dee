-- What the three numbers of a run's weight mean in a file of each kind.
use Rattle.std.specs.Prelude.{◌≡◌, ℕ, cond, List, [], ◌∷◌, Ok, Err, Result, ◌==◌, nat_lt}
use Rattle.gauge.specs.declared.pair.Pair.{Pair}
use Rattle.gauge.specs.Pairs.{three_parts}
use Rattle.planfile.specs.declared.kinds.WeightFault.{WeightFault}
use Rattle.planfile.specs.declared.kinds.WeightFault.TheVariants.{Unmeasured, Class}

-- the weight that three numbers stand for, or why they stand for none
abbrev pub Weighing : Type 0 → Type 0
Weighing W = ℕ → ℕ → ℕ → Result W WeightFault

-- a weight has the numbers that it was read from
abbrev pub Kept : {W : Type 0} → Weighing W → (W → List ℕ) → Type 0
Kept {W} weighed numbers = (a b c : ℕ) (w : W) → weighed a b c ≡ Ok w → numbers w ≡ a ∷ b ∷ c ∷ []

-- goes on with a good number, or ends with its fault
abbrev pub and_then : {A B E : Type 0} → Result A E → (A → Result B E) → Result B E
and_then (Ok x) f = f x
and_then (Err e) f = Err e

-- a weight of a Sum: all ones mark an unmeasured one
abbrev pub measured_number : ℕ → Result ℕ WeightFault
measured_number n = cond (n == 4294967295) (Err Unmeasured) (Ok n)

-- a weight of a Worst: the same mark, and classes go up to 15
abbrev pub class_number : ℕ → Result ℕ WeightFault
class_number n = and_then (measured_number n) (λ m. cond (nat_lt 15 m) (Err Class) (Ok m))

-- decimetres, drillings, zones: any 32 bits are a set of zones
abbrev pub cable_reading : Weighing (Pair ℕ (Pair ℕ ℕ))
cable_reading a b c = and_then (measured_number a) (λ decimetres. and_then (measured_number b) (λ drillings. Ok (three_parts decimetres drillings c)))

-- decimetres, ramp class, crossings
abbrev pub drive_reading : Weighing (Pair ℕ (Pair ℕ ℕ))
drive_reading a b c =
    and_then (measured_number a) (λ decimetres. and_then (class_number b) (λ ramp. and_then (measured_number c) (λ crossings. Ok (three_parts decimetres ramp crossings))))

-- the three numbers of a weight
abbrev pub three : Pair ℕ (Pair ℕ ℕ) → List ℕ
three w = w.first ∷ w.second.first ∷ w.second.second ∷ []
