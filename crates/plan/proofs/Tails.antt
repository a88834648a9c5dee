-- Where the first tail not below a point stands in a table in order of tail.
use Rattle.std.proofs.Common.{◌≡◌, ℕ, zero, suc, ◌+◌, ◌-◌, ◌<◌, ◌≤◌, ltb, true, false, List, [], ◌∷◌, ◌++◌, length, get_or, take, drop, Some, sym, refl, suc-le-suc, arith, append_assoc, append-nil, lt-ltb}
use Rattle.std.proofs.lemmas.List.{length-take-le, length-drop, drop_all, take_all}
use Rattle.std.proofs.lemmas.List.Folds.{drop_split}
use Rattle.std.proofs.lemmas.Option.{slice_get-get_or, slice_get_within, get_or_from_slice_get}
use Rattle.std.proofs.lemmas.Bool.Decides.{nat_tests}
use Rattle.std.specs.List.{slice_get, range_with_len, flat_map}
use Rattle.std.specs.List.Sorted.{IsNonDecreasingBy, IsPartitionPoint}
use Rattle.plan.specs.declared.runs.Run.{Run}
use Rattle.plan.specs.Sound.{tails, Ends, Ordered}
use Rattle.plan.specs.Leave.{first_from, leaving_part, Leave, parts}

-- the tail of a run of the table
pub tail_get_or : {W : Type 0} (xs : List (Run W)) (k : ℕ) (d : Run W) → k < length xs → (get_or xs k d).tail ≡ get_or (tails xs) k 0
tail_get_or [] k d h = grind arith
tail_get_or (x ∷ xs) zero d h = refl
tail_get_or (x ∷ xs) (suc k) d h = tail_get_or xs k d (omega arith)

-- a table in order, in the library's words
pub tails_rise : {W : Type 0} (xs : List (Run W)) → Ordered xs → IsNonDecreasingBy (λ (r : Run W). r.tail) xs
tails_rise xs o i j d l h =
    let low = tail_get_or xs i d (omega arith) in
    let high = tail_get_or xs j d h in
    let up = o i j l h in
    omega arith

-- a table in order stays so without its first run
pub rest_ordered : {W : Type 0} (x : Run W) (xs : List (Run W)) → Ordered (x ∷ xs) → Ordered xs
rest_ordered x xs o j k h l = o (suc j) (suc k) (suc-le-suc h) (suc-le-suc l)

-- it stands within the table or at its end
pub first_within : {W : Type 0} (point : ℕ) (xs : List (Run W)) → first_from point xs ≤ length xs
first_within point [] = omega arith
first_within point (x ∷ xs) = let ih = first_within point xs in grind (arith, nat_tests)

-- a higher point has its first tail no earlier
pub first_rises : {W : Type 0} (point n : ℕ) (xs : List (Run W)) → first_from point xs ≤ first_from (point + n) xs
first_rises point n [] = omega arith
first_rises point n (x ∷ xs) = let ih = first_rises point n xs in grind (arith, nat_tests)

-- it stands no later than any tail not below the point, in a table of any order
pub first_upto : {W : Type 0} (point : ℕ) (xs : List (Run W)) (k : ℕ) → k < length xs → point ≤ get_or (tails xs) k 0 → first_from point xs ≤ k
first_upto point [] k h l = grind arith
first_upto point (x ∷ xs) zero h l = grind (arith, nat_tests)
first_upto point (x ∷ xs) (suc k) h l = let ih = first_upto point xs k (omega arith) l in grind (arith, nat_tests)

-- it stands where the tails below the point end
pub first_is : {W : Type 0} (point : ℕ) (xs : List (Run W)) (n : ℕ) → n ≤ length xs → IsPartitionPoint (λ (r : Run W). ltb r.tail point ≡ true) (λ (r : Run W). ltb r.tail point ≡ false) xs n → n ≡ first_from point xs
first_is point [] n h at = omega arith
first_is point (x ∷ xs) zero h at = let here = at.1 0 x (omega arith) (omega arith) in grind (arith, nat_tests)
first_is point (x ∷ xs) (suc n) h at =
    let here = at.0 0 x (omega arith) (omega arith) in
    let ih = first_is point xs n (omega arith) ((λ k d l u. at.0 (suc k) d (omega arith) (omega arith)), (λ k d l u. at.1 (suc k) d (omega arith) (omega arith))) in
    grind (arith, nat_tests)

-- it stands past each tail below the point, and not past any other
pub first_between : {W : Type 0} (point : ℕ) (xs : List (Run W)) (k : ℕ) (r : Run W) → Ordered xs → slice_get xs k ≡ Some r → (k < first_from point xs → r.tail < point) × (first_from point xs ≤ k → point ≤ r.tail)
first_between point [] k r o e = grind arith
first_between point (x ∷ xs) zero r o e = grind (arith, nat_tests)
first_between point (x ∷ xs) (suc k) r o e =
    let ih = first_between point xs k r (rest_ordered x xs o) e in
    let within = slice_get_within xs k r e in
    let read = get_or_from_slice_get xs k r r e in
    let low = rw read at (tails_rise (x ∷ xs) o 0 (suc k) r (omega arith) (omega arith)) in
    grind (arith, nat_tests)

-- the part that leaves a point stands within the table
pub part_within : {W : Type 0} (point : ℕ) (xs : List (Run W)) → (first_from point xs ≤ first_from (point + 1) xs) × (first_from (point + 1) xs ≤ length xs)
part_within point xs = (first_rises point 1 xs, first_within (point + 1) xs)

-- without its first runs, as long as their tails are below the point, it stands so many places earlier
first_drop : {W : Type 0} (point n : ℕ) (xs : List (Run W)) → n ≤ first_from point xs → n + first_from point (drop n xs) ≡ first_from point xs
first_drop point zero xs h = omega arith
first_drop point (suc n) [] h = grind arith
first_drop point (suc n) (x ∷ xs) h = let ih = first_drop point n xs (grind (arith, nat_tests)) in grind (arith, nat_tests)

-- a table in order stays so without its first runs
drop_ordered : {W : Type 0} (n : ℕ) (xs : List (Run W)) → Ordered xs → Ordered (drop n xs)
drop_ordered zero xs o = o
drop_ordered (suc n) [] o = o
drop_ordered (suc n) (x ∷ xs) o = drop_ordered n xs (rest_ordered x xs o)

-- the rest of a table from a place on
rest_is : {X : Type 0} (n : ℕ) (xs : List X) → take (length xs - n) (drop n xs) ≡ drop n xs
rest_is n xs = let long = length-drop n xs in take_all (length xs - n) (drop n xs) (omega arith)

pub rest_in_order : {W : Type 0} (n : ℕ) (xs : List (Run W)) → Ordered xs → Ordered (take (length xs - n) (drop n xs))
rest_in_order n xs o = rw (rest_is n xs) (drop_ordered n xs o)

pub first_on : {W : Type 0} (point n : ℕ) (xs : List (Run W)) → n ≤ first_from point xs → n + first_from point (take (length xs - n) (drop n xs)) ≡ first_from point xs
first_on point n xs h = rw (rest_is n xs) (first_drop point n xs h)

-- the length of the part that leaves a point
pub leaving_length : {W : Type 0} (point : ℕ) (xs : List (Run W)) → first_from point xs + length (leaving_part point xs) ≡ first_from (point + 1) xs
leaving_length point xs =
    let within = part_within point xs in
    let rest = length-drop (first_from point xs) xs in
    let here = length-take-le (first_from (point + 1) xs - first_from point xs) (drop (first_from point xs) xs) (omega arith) in
    omega arith

-- the part holds the runs that leave the point, and no others
pub leaves : {W : Type 0} (point : ℕ) (xs : List (Run W)) → Ordered xs → Leave xs point (first_from point xs) (length (leaving_part point xs))
leaves point xs o k r e =
    let begin = first_between point xs k r o e in
    let over = first_between (point + 1) xs k r o e in
    let end = leaving_length point xs in
    grind arith

-- the parts of n points from one on, and then the runs of later points, are the rest of the table
parts_from : {W : Type 0} (xs : List (Run W)) (n point : ℕ) → flat_map (λ p. leaving_part p xs) (range_with_len point n) ++ drop (first_from (point + n) xs) xs ≡ drop (first_from point xs) xs
parts_from xs zero point = grind arith
parts_from xs (suc n) point =
    let ih = parts_from xs n (point + 1) in
    let up = first_rises point 1 xs in
    let split = drop_split xs (first_from point xs) (first_from (point + 1) xs) up in
    let there : point + suc n ≡ point + 1 + n = omega arith in
    rw (there, append_assoc, ih) (sym split)

-- in a table whose tails are all below a number, the parts below it are the table
pub parts_whole : {W : Type 0} (points : ℕ) (xs : List (Run W)) → Ends points xs → parts points xs ≡ xs
parts_whole points xs ends =
    let none = first_is 0 xs 0 (omega arith) ((λ k d l u. grind arith), (λ k d l u. grind (arith, nat_tests))) in
    let all = first_is points xs (length xs) (omega arith) ((λ k d l u. lt-ltb _ _ (ends k (get_or xs k d) (slice_get-get_or xs k d u)).0), (λ k d l u. grind arith)) in
    let whole = parts_from xs points 0 in
    let rest = drop_all (first_from points xs) xs (omega arith) in
    grind (arith, append-nil)
