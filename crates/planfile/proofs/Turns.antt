-- One turn of the reader's loops, and their ends.
use Rattle.std.proofs.Common.{◌≡◌, ℕ, suc, ◌+◌, ◌-◌, ◌<◌, ◌≤◌, true, List, [], ◌∷◌, ◌++◌, length, take, drop, set, is_ok, Ok, Err, Result, sym, refl, ap, ◌∙◌, arith}
use Rattle.std.proofs.lemmas.List.{append_assoc, take_more_set, drop-set-lt, drop-drop, take-append-drop}
use Rattle.std.proofs.lemmas.Grind.{common_steps}
use Rattle.fault.specs.declared.file.FileFault.{FileFault}
use Rattle.plan.specs.declared.runs.Run.{Run}
use Rattle.planfile.specs.Weights.{Weighing, and_then}
use Rattle.planfile.specs.File.{run_at, runs_from, done, filled}
use Rattle.planfile.proofs.Told.{runs_length}

-- a run written at its place, with the runs after it still to come
write_one : {W : Type 0} (x : Run W) (xs t : List (Run W)) (k : ℕ) → k < length t →
    take k t ++ filled (Ok (x ∷ xs)) (drop k t) ≡ take (k + 1) (set t k x) ++ filled (Ok xs) (drop (k + 1) (set t k x))
write_one x xs t k h =
    let past : k < k + 1 = omega arith in
    let same : k + suc (length xs) ≡ k + 1 + length xs = omega arith in
    rw (take_more_set t k x h, drop-set-lt (k + 1) t k x past, drop-drop (suc (length xs)) k t, drop-drop (length xs) (k + 1) t, same)
    (sym (append_assoc (take k t) (x ∷ []) (xs ++ drop (k + 1 + length xs) t)))

-- runs that fill the first places fill the table's first places
fill_front : {W : Type 0} (a : Result (List (Run W)) FileFault) (n : ℕ) (t : List (Run W)) →
    ((xs : List (Run W)) → a ≡ Ok xs → length xs ≡ n) → n ≤ length t → filled a (take n t) ++ drop n t ≡ filled a t
fill_front (Ok xs) n t long h = grind (arith, common_steps)
fill_front (Err f) n t long h = take-append-drop n t

module _ {W : Type 0} (weighed : Weighing W) (bs : List ℕ) (r k : ℕ) where
  -- the runs that are left, at the turn of run k
  abbrev left : Result (List (Run W)) FileFault
  left = runs_from weighed bs r (r - k) k

  -- and after it
  abbrev next : Result (List (Run W)) FileFault
  next = runs_from weighed bs r (r - (k + 1)) (k + 1)

  left_more : (run : Result (Run W) FileFault) → k < r → run ≡ run_at weighed bs r k → left ≡ and_then run (λ x. and_then next (λ xs. Ok (x ∷ xs)))
  left_more run h e =
      let n : r - k ≡ suc (r - (k + 1)) = omega arith in
      rw (n, e) refl

  -- a good run leaves the answer to the next
  pub done_more : (x : Run W) → k < r → Ok x ≡ run_at weighed bs r k → done left ≡ done next
  done_more x h e = let more = left_more (Ok x) h e in grind arith

  -- a refused run is the answer
  pub done_here : (f : FileFault) → k < r → Err f ≡ run_at weighed bs r k → done left ≡ Err f
  done_here f h e = ap done (left_more (Err f) h e)

  -- among good runs none is refused
  pub fill_good : k < r → is_ok left ≡ true → is_ok (run_at weighed bs r k) ≡ true
  fill_good h good = let more = left_more (run_at weighed bs r k) h refl in grind arith

  -- and the rest stays good
  pub fill_rest : k < r → is_ok left ≡ true → is_ok next ≡ true
  fill_rest h good = let more = left_more (run_at weighed bs r k) h refl in grind arith

  -- a good run is written
  pub fill_more : (x : Run W) (t : List (Run W)) → k < r → k < length t → Ok x ≡ run_at weighed bs r k → is_ok left ≡ true →
      take k t ++ filled left (drop k t) ≡ take (k + 1) (set t k x) ++ filled next (drop (k + 1) (set t k x))
  fill_more x t h l e good =
      let more = left_more (Ok x) h e in
      let one = λ (xs : List (Run W)). write_one x xs t k l in
      grind arith

  -- nothing is left
  left_none : r ≤ k → left ≡ Ok []
  left_none h = let n : r - k ≡ 0 = omega arith in ap (λ n. runs_from weighed bs r n k) n

  -- places that are all written hold what the table then holds in front
  pub fill_all : (p t : List (Run W)) → r ≤ k → r ≤ length t →
      filled (runs_from weighed bs r r 0) (take r t) ≡ take k p ++ filled left (drop k p) → p ++ drop r t ≡ filled (runs_from weighed bs r r 0) t
  fill_all p t h room e =
      let all = e ∙ ap (λ a. take k p ++ filled a (drop k p)) (left_none h) ∙ take-append-drop k p in
      ap (λ p. p ++ drop r t) (sym all) ∙ fill_front (runs_from weighed bs r r 0) r t (runs_length weighed bs r r 0) room
