-- Lists: numbered elements, membership, lists without repetition.
use Rattle.std.proofs.Common.{◌≡◌, ℕ, zero, suc, ◌<◌, ◌≤◌, ◌⊎◌, List, [], ◌∷◌, ◌++◌, length, take, Some, refl, ap, subst, inl, inr, ⊎_elim, arith}
use Rattle.std.specs.List.{slice_get}
use Rattle.method.specs.Sequences.{In, first, later, Distinct}

module _ {X : Type 0} where
  pub nth_one : (xs : List X) (i : ℕ) (x y : X) → slice_get xs i ≡ Some x → slice_get xs i ≡ Some y → x ≡ y
  nth_one xs i x y p q = cc

  pub nth_push : (xs : List X) (y : X) (i : ℕ) (x : X) → slice_get xs i ≡ Some x → slice_get (xs ++ y ∷ []) i ≡ Some x
  nth_push [] y i x p = absurd (grind arith)
  nth_push (a ∷ xs) y zero x p = p
  nth_push (a ∷ xs) y (suc i) x p = nth_push xs y i x p

  pub nth_last : (xs : List X) (y : X) → slice_get (xs ++ y ∷ []) (length xs) ≡ Some y
  nth_last [] y = refl
  nth_last (a ∷ xs) y = nth_last xs y

  pub nth_push_cases : (xs : List X) (y : X) (i : ℕ) (x : X) → slice_get (xs ++ y ∷ []) i ≡ Some x → (slice_get xs i ≡ Some x) ⊎ ((i ≡ length xs) × (y ≡ x))
  nth_push_cases [] y zero x p = inr (refl, cc)
  nth_push_cases [] y (suc i) x p = absurd (grind arith)
  nth_push_cases (a ∷ xs) y zero x p = inl p
  nth_push_cases (a ∷ xs) y (suc i) x p = ⊎_elim inl (λ q. inr (ap suc q.0, q.1)) (nth_push_cases xs y i x p)

  -- an element of the first n stands below n, and in the whole list
  pub nth_take : (n : ℕ) (xs : List X) (i : ℕ) (x : X) → slice_get (take n xs) i ≡ Some x → (i < n) × (slice_get xs i ≡ Some x)
  nth_take zero xs i x p = absurd (grind arith)
  nth_take (suc n) [] i x p = absurd (grind arith)
  nth_take (suc n) (a ∷ xs) zero x p = (omega arith, p)
  nth_take (suc n) (a ∷ xs) (suc i) x p = let h = nth_take n xs i x p in (omega (arith, h.0), h.1)

  pub in_cases : {a x : X} {xs : List X} → In x (a ∷ xs) → (x ≡ a) ⊎ In x xs
  in_cases first = inl refl
  in_cases (later h) = inr h

  pub in_none : {x : X} → In x [] → ⊥
  in_none h = elim h [ ]

  pub in_left : {x : X} {xs : List X} (ys : List X) → In x xs → In x (xs ++ ys)
  in_left ys first = first
  in_left ys (later h) = later (in_left ys h)

  pub in_right : (xs : List X) {x : X} {ys : List X} → In x ys → In x (xs ++ ys)
  in_right [] h = h
  in_right (a ∷ xs) h = later (in_right xs h)

  pub in_push_cases : (xs : List X) (y x : X) → In x (xs ++ y ∷ []) → In x xs ⊎ (x ≡ y)
  in_push_cases [] y x h = ⊎_elim inr inl (in_cases h)
  in_push_cases (a ∷ xs) y x h = ⊎_elim (λ e. inl (subst (λ (z : X). In x (z ∷ xs)) e first)) (λ k. ⊎_elim (λ m. inl (later m)) inr (in_push_cases xs y x k)) (in_cases h)

  pub nth_in : (xs : List X) (i : ℕ) (x : X) → slice_get xs i ≡ Some x → In x xs
  nth_in [] i x p = absurd (grind arith)
  nth_in (a ∷ xs) zero x p = let e : a ≡ x = cc in subst (λ (z : X). In z (a ∷ xs)) e first
  nth_in (a ∷ xs) (suc i) x p = later (nth_in xs i x p)

  pub distinct_push : (xs : List X) (y : X) → Distinct xs → (In y xs → ⊥) → Distinct (xs ++ y ∷ [])
  distinct_push [] y d h = Distinct.more in_none Distinct.none
  distinct_push (x ∷ xs) y d h = go d (distinct_push xs y)
    where
      go : Distinct (x ∷ xs) → (Distinct xs → (In y xs → ⊥) → Distinct (xs ++ y ∷ [])) → Distinct (x ∷ (xs ++ y ∷ []))
      go (Distinct.more n d) ih = Distinct.more (λ k. ⊎_elim n (λ e. h (subst (λ (z : X). In z (x ∷ xs)) e first)) (in_push_cases xs y x k)) (ih d (λ k. h (later k)))

  -- a list without its element
  without : {x : X} {xs : List X} → In x xs → (rest : List X) × (length xs ≡ suc (length rest)) × ((y : X) → In y xs → (y ≡ x) ⊎ In y rest)
  without {x} (first {xs = xs}) = (xs, refl, λ y k. in_cases k)
  without {x} (later {y = a} {xs = xs} h) =
      let w = without h in
      (a ∷ w.0, ap suc w.1, λ y k. ⊎_elim (λ e. inr (subst (λ (z : X). In y (z ∷ w.0)) e first)) (λ m. ⊎_elim inl (λ n. inr (later n)) (w.2 y m)) (in_cases k))

  -- distinct elements of a list are at most as many as it has
  pub distinct_fits : (xs ys : List X) → Distinct xs → ((x : X) → In x xs → In x ys) → length xs ≤ length ys
  distinct_fits [] ys d sub = omega arith
  distinct_fits (x ∷ xs) ys d sub = go d (distinct_fits xs (without (sub x first)).0)
    where
      w : (rest : List X) × (length ys ≡ suc (length rest)) × ((y : X) → In y ys → (y ≡ x) ⊎ In y rest)
      w = without (sub x first)

      go : Distinct (x ∷ xs) → (Distinct xs → ((y : X) → In y xs → In y w.0) → length xs ≤ length w.0) → suc (length xs) ≤ length ys
      go (Distinct.more n d) ih =
          let k : length xs ≤ length w.0 = ih d (λ y m. ⊎_elim (λ e. absurd (n (subst (λ (z : X). In z xs) e m))) (λ k. k) (w.2 y (sub y (later m)))) in
          omega (arith, w.1)
