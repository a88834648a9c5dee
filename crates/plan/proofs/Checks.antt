-- A checked table is sound, and a sound one is accepted.
use Rattle.std.proofs.Common.{◌≡◌, ℕ, zero, suc, ◌+◌, ◌<◌, ◌≤◌, List, [], ◌∷◌, length, get_or, Ok, refl, suc-le-suc, arith}
use Rattle.std.proofs.lemmas.Bool.Decides.{nat_tests}
use Rattle.plan.specs.declared.runs.Run.{Run}
use Rattle.plan.specs.Sound.{tails, Ends, Ordered, Sound}
use Rattle.plan.specs.Make.{runs_answer, check_answer}
use Rattle.plan.proofs.Tails.{rest_ordered}

-- no tail is below a number
abbrev Above : {W : Type 0} → ℕ → List (Run W) → Type 0
Above last xs = (k : ℕ) → k < length xs → last ≤ get_or (tails xs) k 0

-- runs between points, in order of tail from a number on
abbrev Fine : {W : Type 0} → ℕ → ℕ → List (Run W) → Type 0
Fine points last xs = Ends points xs × Ordered xs × Above last xs

-- one run more in front
more_ends : {W : Type 0} (points : ℕ) (x : Run W) (xs : List (Run W)) → x.tail < points → x.head < points → Ends points xs → Ends points (x ∷ xs)
more_ends points x xs t h ends zero r e = grind arith
more_ends points x xs t h ends (suc k) r e = ends k r e

more_above : {W : Type 0} (last : ℕ) (x : Run W) (xs : List (Run W)) → last ≤ x.tail → Above x.tail xs → Above last (x ∷ xs)
more_above last x xs l above zero h = l
more_above last x xs l above (suc k) h = let up = above k (omega arith) in omega arith

more_ordered : {W : Type 0} (x : Run W) (xs : List (Run W)) → Above x.tail xs → Ordered xs → Ordered (x ∷ xs)
more_ordered x xs above o zero zero l h = omega arith
more_ordered x xs above o zero (suc k) l h = above k (omega arith)
more_ordered x xs above o (suc j) zero l h = grind arith
more_ordered x xs above o (suc j) (suc k) l h = o j k (omega arith) (omega arith)

more : {W : Type 0} (points last : ℕ) (x : Run W) (xs : List (Run W)) → (x.tail < points) × (x.head < points) × (last ≤ x.tail) → Fine points x.tail xs → Fine points last (x ∷ xs)
more points last x xs here (ends, o, above) = (more_ends points x xs here.0 here.1 ends, more_ordered x xs above o, more_above last x xs here.2 above)

-- runs that are accepted
pub accepted : {W : Type 0} (points last k : ℕ) (xs : List (Run W)) → runs_answer points last k xs ≡ Ok tt → Fine points last xs
accepted points last k [] e = ((λ j r at. grind arith), (λ i j l h. grind arith), (λ j h. grind arith))
accepted points last k (x ∷ xs) e = more points last x xs (grind (arith, nat_tests)) (accepted points x.tail (k + 1) xs (grind (arith, nat_tests)))

-- runs that have nothing to refuse
pub accepts : {W : Type 0} (points last k : ℕ) (xs : List (Run W)) → Fine points last xs → runs_answer points last k xs ≡ Ok tt
accepts points last k [] fine = refl
accepts points last k (x ∷ xs) (ends, o, above) =
    let at = ends 0 x refl in
    let up = above 0 (omega arith) in
    let ih = accepts points x.tail (k + 1) xs ((λ j r e. ends (suc j) r e), rest_ordered x xs o, (λ j h. o 0 (suc j) (omega arith) (suc-le-suc h))) in
    grind (arith, nat_tests)

-- a plan is accepted exactly if it is sound
pub check_sound : {W : Type 0} (points : ℕ) (xs : List (Run W)) → check_answer points xs ≡ Ok tt → Sound points xs
check_sound points xs e =
    let good = accepted points 0 0 xs (grind (arith, nat_tests)) in
    (grind (arith, nat_tests), good.0, good.1)

pub sound_check : {W : Type 0} (points : ℕ) (xs : List (Run W)) → Sound points xs → check_answer points xs ≡ Ok tt
sound_check points xs (few, ends, o) =
    let runs = accepts points 0 0 xs (ends, o, (λ k h. omega arith)) in
    grind (arith, nat_tests)
