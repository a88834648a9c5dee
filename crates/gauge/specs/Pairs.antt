-- Pairs: of gauges, of costs and of weights, part by part.
use Rattle.std.specs.Prelude.{◌≡◌, Bool, not, ◌&&◌, ◌||◌, T, ◌⊎◌, Some, None, Option}
use Rattle.gauge.specs.declared.pair.Pair.{Pair}

-- a cost of both parts, or none if either part has none
abbrev pub both : {A B : Type 0} → Option A → Option B → Option (Pair A B)
both None b = None
both (Some a) None = None
both (Some a) (Some b) = Some (record { first = a; second = b })

-- a comes before b by the first part, or the first parts are the same and it does by the second
abbrev pub Ahead : {A B : Type 0} → (A → A → Bool) → (B → B → Bool) → Pair A B → Pair A B → Type 0
Ahead before₁ before₂ a b = T (before₁ a.first b.first) ⊎ ((a.first ≡ b.first) × T (before₂ a.second b.second))

-- the test of Ahead: before by the first part, or the first parts are level and before by the second:
-- given whether the first part is before, whether it is after, and whether the second part is before
abbrev pub lexical : Bool → Bool → Bool → Bool
lexical before after then = before || (not after && then)

-- three parts as a pair of the first and the pair of the others
abbrev pub three_parts : {A B C : Type 0} → A → B → C → Pair A (Pair B C)
three_parts a b c = record { first = a; second = record { first = b; second = c } }
