-- What a row answers from one look at each of its places.
use Rattle.std.proofs.Common.{◌≡◌, ℕ, zero, suc, ◌+◌, ◌<◌, ◌≤◌, Bool, true, false, cond, List, [], ◌∷◌, length, get_or, take, nat_lt, Some, None, Option, sym, refl, ap, ◌∙◌, subst, add-one, zero-add, arith, map-id}
use Rattle.std.proofs.lemmas.Bool.Decides.{nat_tests}
use Rattle.std.specs.List.{enumerate_from, filter_map, cons_option, fold, reduce}
use Rattle.std.specs.Option.{MatchOption}
use Rattle.std.specs.Iterator.{ActsAsOnTwo, DrainsIf}
use Rattle.std.specs.Iterator.Runs.{IsReduceRun, WholeRun, YieldsRun}
use Rattle.std.proofs.lemmas.Iterator.{YieldsList, items_from_drains}
use denote.Param.Members.{Mut}
use Rattle.queue.specs.declared.entries.Entry.{Entry}
use Rattle.queue.specs.declared.entries.Held.{Held}
use Rattle.queue.specs.InRow.{held_of, row_entries, row_held, first_of_two}
use Rattle.queue.specs.Order.{look, nearer}

-- what `reduce` answers, where the iterator gives a list and the closure acts as a function
pub reduced : {S A F : Type 0} {steps : S → Option A → S → Type 0} {s : S} {all : List A} (g : Mut F (A × (A × Unit {0})) A) {f : F} (h : A → A → A) (r : Option A) → WholeRun steps s (λ p. MatchOption r (p.len ≡ 0) (IsReduceRun p g f)) → ActsAsOnTwo g f h → YieldsList steps (λ x. x) s all → r ≡ reduce h all
unfolding YieldsRun
reduced {S} {A} {F} {steps} {s} {all} g {f} h r run acts road = go r run.3 ∙ ap (reduce h) items
  where
    none : (xs : List A) → length xs ≡ 0 → None ≡ reduce h xs
    none [] e = refl
    none (x ∷ xs) e = absurd (omega arith)

    go : (r : Option A) → MatchOption r (run.0.len ≡ 0) (IsReduceRun run.0 g f) → r ≡ reduce h run.0.items
    go None e = none run.0.items (sym run.0.long ∙ e)
    go (Some y) m = ap Some (m.1.3 h acts) ∙ ap (reduce h) (sym m.1.2)

    items : run.0.items ≡ all
    items = sym (map-id run.0.items) ∙ items_from_drains run.0.items (subst (λ t. DrainsIf steps (Unit {0}) t run.0.items) run.1 (run.0.gave.0.0, run.0.gave.0.1, λ _. run.0.gave.0.2 run.2)) road

module _ {C : Type 0} (before : C → C → Bool) where
  -- the first so far and the entry of the next place go into one
  next_place : (n : ℕ) (o : Option (Entry C)) (first : Option (Held C)) (rest : List (Held C)) → reduce (first_of_two before) (cons_option first (cons_option (held_of n o) rest)) ≡ reduce (first_of_two before) (cons_option (nearer before n o first) rest)
  next_place n None None rest = refl
  next_place n None (Some f) rest = refl
  next_place n (Some e) None rest = refl
  next_place n (Some e) (Some f) rest = go (before e.cost f.entry.cost)
    where
      new : Held C
      new = record { point = n; entry = e }

      go : (t : Bool) → Some (fold (first_of_two before) (cond t new f) rest) ≡ reduce (first_of_two before) (cons_option (cond t (Some new) (Some f)) rest)
      go true = refl
      go false = refl

  alone : (first : Option (Held C)) → reduce (first_of_two before) (cons_option first []) ≡ first
  alone None = refl
  alone (Some f) = refl

  -- from place n on
  rest_first : (entries : ℕ → Option (Entry C)) (n : ℕ) (xs : List (Option (Entry C))) → ((k : ℕ) → k < length xs → held_of (n + k) (entries (n + k)) ≡ row_held (n + k) (get_or xs k None)) → reduce (first_of_two before) (cons_option (look before entries n) (filter_map (λ p. row_held p.0 p.1) (enumerate_from n xs))) ≡ look before entries (n + length xs)
  rest_first entries n [] same = alone _ ∙ ap (look before entries) (omega arith)
  rest_first entries n (x ∷ xs) same =
      let here : held_of n (entries n) ≡ row_held n x = subst (λ t. held_of t (entries t) ≡ row_held t x) (omega arith) (same 0 (omega arith)) in
      ap (λ o. reduce (first_of_two before) (cons_option (look before entries n) (cons_option o rest))) (sym here) ∙ next_place n (entries n) (look before entries n) rest ∙
      ap (λ t. reduce (first_of_two before) (cons_option (look before entries t) rest)) (sym (add-one n)) ∙
      rest_first entries (n + 1) xs (λ k h. subst (λ t. held_of t (entries t) ≡ row_held t (get_or xs k None)) (omega arith) (same (suc k) (omega arith))) ∙
      ap (look before entries) (omega arith)
    where
      rest : List (Held C)
      rest = filter_map (λ p. row_held p.0 p.1) (enumerate_from (n + 1) xs)

  -- the first of a row's entries, place by place
  pub row_look : (xs : List (Option (Entry C))) → reduce (first_of_two before) (filter_map (λ p. row_held p.0 p.1) (enumerate_from 0 xs)) ≡ look before (row_entries xs) (length xs)
  row_look xs = let z : 0 + length xs ≡ length xs = zero-add (length xs) in rest_first (row_entries xs) 0 xs (λ k h. subst (λ t. held_of t (row_entries xs t) ≡ row_held t (get_or xs k None)) (omega arith) (go k (get_or xs k None) (nat_lt k 65536))) ∙ ap (look before (row_entries xs)) z
    where
      go : (k : ℕ) (o : Option (Entry C)) (t : Bool) → held_of k (cond t o None) ≡ cond t (held_of k o) None
      go k o true = refl
      go k o false = refl

  -- places past the last point hold nothing
  past : (n : ℕ) (xs : List (Option (Entry C))) → 65536 ≤ n → filter_map (λ p. row_held p.0 p.1) (enumerate_from n xs) ≡ []
  past n [] h = refl
  past n (x ∷ xs) h =
      let no : nat_lt n 65536 ≡ false = grind (arith, nat_tests) in
      ap (λ t. cons_option (cond t (held_of n x) None) (filter_map (λ p. row_held p.0 p.1) (enumerate_from (n + 1) xs))) no ∙ past (n + 1) xs (omega arith)

  -- so the first places are enough, where no point comes after them
  enough : (m n : ℕ) (xs : List (Option (Entry C))) → 65536 ≤ n + m → filter_map (λ p. row_held p.0 p.1) (enumerate_from n (take m xs)) ≡ filter_map (λ p. row_held p.0 p.1) (enumerate_from n xs)
  enough zero n xs h = sym (past n xs (omega arith))
  enough (suc m) n [] h = refl
  enough (suc m) n (x ∷ xs) h = ap (cons_option (row_held n x)) (enough m (n + 1) xs (omega arith))

  -- the first of a row's entries, from the places that are those of points
  pub points_look : (xs : List (Option (Entry C))) → reduce (first_of_two before) (filter_map (λ p. row_held p.0 p.1) (enumerate_from 0 (take 65536 xs))) ≡ look before (row_entries xs) (length xs)
  points_look xs = ap (reduce (first_of_two before)) (enough 65536 0 xs (omega arith)) ∙ row_look xs
