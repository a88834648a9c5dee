-- Lists: what stands in them, and in which order.
use Rattle.std.specs.Prelude.{Bool, T, List, [], ◌∷◌}

-- x stands in a list
pub data In {X : Type 0} (x : X) : List X → Type 0 where
  first : {xs : List X} → In x (x ∷ xs)
  later : {y : X} {xs : List X} → In x xs → In x (y ∷ xs)

-- nothing stands in a list twice
pub data Distinct {X : Type 0} : List X → Type 0 where
  none : Distinct []
  more : {x : X} {xs : List X} → (In x xs → ⊥) → Distinct xs → Distinct (x ∷ xs)

-- each element comes before all later ones
pub data Ascends {X : Type 0} (before : X → X → Bool) : List X → Type 0 where
  none : Ascends before []
  more : {x : X} {xs : List X} → ((y : X) → In y xs → T (before x y)) → Ascends before xs → Ascends before (x ∷ xs)
