-- Sets of zones, and sets within an allowed set.
use Rattle.std.specs.Prelude.{◌≡◌, ℕ, ◌/◌, ◌%◌, ◌^◌, Bool, cond, ◌⊎◌, Some, None, Option, ◌==◌, bit_and}

-- a set of zones is a number: zone k is in a if the digit of a with value 2 ^ k is 1
abbrev pub HasZone : ℕ → ℕ → Type 0
HasZone a k = a / 2 ^ k % 2 ≡ 1

-- every zone of a is one of b
abbrev pub Among : ℕ → ℕ → Type 0
Among a b = (k : ℕ) → HasZone a k → HasZone b k

-- the zones of c are those of a and those of b
abbrev pub Unites : ℕ → ℕ → ℕ → Type 0
Unites a b c = Among a c × Among b c × ((k : ℕ) → HasZone c k → HasZone a k ⊎ HasZone b k)

-- the test of Among
abbrev pub subset : ℕ → ℕ → Bool
subset a b = bit_and a b == a

-- the set, or none if it has a zone that is not allowed
abbrev pub inside : ℕ → ℕ → Option ℕ
inside allowed zones = cond (subset zones allowed) (Some zones) None

-- two sets as one with the zones of both, all of them allowed, or none if not all are
abbrev pub Joined : ℕ → ℕ → ℕ → Option ℕ → Type 0
Joined allowed a b (Some c) = Unites a b c × Among c allowed
Joined allowed a b None = Among a allowed × Among b allowed → ⊥
