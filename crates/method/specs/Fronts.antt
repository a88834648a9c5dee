-- The front of a point, and how many costs all fronts hold together.
use Rattle.std.specs.Prelude.{◌≡◌, ℕ, zero, suc, ◌+◌, T, ◌↔◌, List, length}
use Rattle.method.specs.Tasks.{Task}
use Rattle.method.specs.Sequences.{In, Distinct}
use Rattle.method.specs.Walks.{Reached}

-- c is in the front of v: a walk within the limits reaches v with that cost, and no such walk with a different cost that is no worse
pub record Front {C W : Type 0} (t : Task C W) (v : ℕ) (c : C) : Type 0 where
  pub reached : Reached t v c
  pub unbeaten : (d : C) → Reached t v d → T (t.rules.no_worse d c) → d ≡ c

-- the sum of f over the numbers below n
abbrev pub total : (ℕ → ℕ) → ℕ → ℕ
total f zero = 0
total f (suc n) = total f n + f n

-- the fronts of all points together hold n costs
pub record FrontsHold {C W : Type 0} (t : Task C W) (n : ℕ) : Type 0 where
  -- a list for each point, with the costs of its front, each once
  pub fronts : ℕ → List C
  pub exact : (v : ℕ) (c : C) → In c (fronts v) ↔ Front t v c
  pub once : (v : ℕ) → Distinct (fronts v)
  pub number : total (λ v. length (fronts v)) t.points ≡ n
