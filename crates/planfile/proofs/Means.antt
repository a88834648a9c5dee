-- The reader's answer and table, in words of the file.
use Rattle.std.proofs.Common.{◌≡◌, ℕ, zero, suc, ◌+◌, ◌*◌, ◌<◌, ◌≤◌, true, List, ◌++◌, length, drop, is_ok, Some, Ok, Err, Decides, Result, sym, refl, ap, ◌∙◌, arith}
use Rattle.std.proofs.lemmas.Option.{gets}
use Rattle.std.proofs.lemmas.Grind.{common_steps}
use Rattle.std.proofs.lemmas.Bool.Decides.{nat_tests}
use Rattle.std.specs.List.{slice_get}
use Rattle.fault.specs.declared.file.FileFault.{FileFault}
use Rattle.plan.specs.declared.runs.Run.{Run}
use Rattle.planfile.specs.declared.reader.Header.{Header}
use Rattle.planfile.specs.Weights.{Weighing, and_then}
use Rattle.planfile.specs.File.{points_in, runs_in, kind_in, weight_at, header_answer, run_at, runs_from, filled, file_runs, file_answer, file_table}
use Rattle.planfile.specs.Meaning.{Readable, Stands, Placed}
use Rattle.planfile.proofs.Told.{first_read, runs_length, accepted_parts, refused_runs}

-- places of two lists, one after the other
nth_front : {X : Type 0} (xs ys : List X) (k : ℕ) → k < length xs → slice_get (xs ++ ys) k ≡ slice_get xs k
nth_front xs ys k h = grind (arith, common_steps, gets)

nth_back : {X : Type 0} (xs ys : List X) (k : ℕ) → length xs ≤ k → slice_get (xs ++ drop (length xs) ys) k ≡ slice_get ys k
nth_back xs ys k h = grind (arith, common_steps, gets)

module _ {W : Type 0} (weighed : Weighing W) (bs : List ℕ) (r : ℕ) where
  -- a run that is read stands in the file
  run_stands : (k : ℕ) (x : Run W) → run_at weighed bs r k ≡ Ok x → Stands weighed bs r k x
  run_stands k x e = record { tail = grind arith; head = grind arith; weight = grind arith }

  -- it is read exactly if it has a weight
  run_weight : (k : ℕ) → is_ok (run_at weighed bs r k) ≡ is_ok (weight_at weighed bs r k)
  run_weight k = grind arith

  -- each of n runs from number k on stands at its place
  runs_stand : (n k : ℕ) (xs : List (Run W)) → runs_from weighed bs r n k ≡ Ok xs → (j : ℕ) → j < n → (x : Run W) × (slice_get xs j ≡ Some x) × (run_at weighed bs r (k + j) ≡ Ok x)
  runs_stand zero k xs e j h = grind arith
  runs_stand (suc n) k xs e zero h =
      let f = first_read weighed bs r n k xs e in
      let here : k + 0 ≡ k = omega arith in
      (f.0, ap (λ l. slice_get l 0) f.4, ap (run_at weighed bs r) here ∙ f.2)
  runs_stand (suc n) k xs e (suc j) h =
      let f = first_read weighed bs r n k xs e in
      let on = runs_stand n (k + 1) f.1 f.3 j (omega arith) in
      let there : k + suc j ≡ k + 1 + j = omega arith in
      (on.0, ap (λ l. slice_get l (suc j)) f.4 ∙ on.1, ap (run_at weighed bs r) there ∙ on.2)

  -- runs that all have a weight are read
  runs_read : (n k : ℕ) → ((j : ℕ) → k ≤ j → j < k + n → is_ok (weight_at weighed bs r j) ≡ true) → is_ok (runs_from weighed bs r n k) ≡ true
  runs_read zero k good = refl
  runs_read (suc n) k good =
      let here = run_weight k ∙ good k (omega arith) (omega arith) in
      let rest = runs_read n (k + 1) (λ j h l. good j (omega arith) (omega arith)) in
      grind arith

-- an accepted header
header_good : (kind : ℕ) (bs : List ℕ) (room : ℕ) (h : Header) → header_answer kind bs room ≡ Ok h →
    (6 ≤ length bs) × (1 ≤ points_in bs) × (points_in bs ≤ 256) × (runs_in bs ≤ 1024) × (kind_in bs ≡ kind) × (length bs ≡ 6 + 16 * runs_in bs) × (runs_in bs ≤ room) × (h.runs ≡ runs_in bs)
header_good kind bs room h e =
    (grind (arith, nat_tests), grind (arith, nat_tests), grind (arith, nat_tests), grind (arith, nat_tests), grind (arith, nat_tests), grind (arith, nat_tests), grind (arith, nat_tests), grind (arith, nat_tests))

module _ {W : Type 0} (weighed : Weighing W) (bs : List ℕ) (kind room : ℕ) where
  -- the files that are accepted are those that can be read
  accepted_readable : (h : Header) → file_answer kind weighed bs room ≡ Ok h → Readable kind weighed bs room
  accepted_readable h e =
      let a = accepted_parts weighed bs kind room h e in
      let g = header_good kind bs room h a.1 in
      record {
        counts = g.0;
        some_point = g.1;
        few_points = g.2;
        few_runs = g.3;
        right_kind = g.4;
        whole = g.5;
        fits = g.6;
        weights = λ k l.
            let x = runs_stand weighed bs h.runs h.runs 0 a.0 a.2 k (omega arith) in
            let here : k ≡ 0 + k = omega arith in
            ap (λ n. is_ok (weight_at weighed bs n k)) (sym g.7) ∙ sym (run_weight weighed bs h.runs k) ∙ ap (λ m. is_ok (run_at weighed bs h.runs m)) here ∙ ap is_ok x.2;
      }

  readable_accepted : Readable kind weighed bs room → is_ok (file_answer kind weighed bs room) ≡ true
  unfolding file_answer
  readable_accepted s =
      let h : Header = record { points = points_in bs; runs = runs_in bs } in
      let head : header_answer kind bs room ≡ Ok h = grind (arith, nat_tests) in
      let good = runs_read weighed bs (runs_in bs) (runs_in bs) 0 (λ j _ l. s.weights j (omega arith)) in
      grind arith

  pub answer_readable : (r : Result Header FileFault) → r ≡ file_answer kind weighed bs room → Decides (is_ok r) (Readable kind weighed bs room)
  answer_readable (Ok h) e = ((λ t. accepted_readable h (sym e)), (λ s. refl))
  answer_readable (Err f) e = ((λ t. grind arith), (λ s. ap is_ok e ∙ readable_accepted s))

-- the run table after reading
pub answer_placed : {W : Type 0} (weighed : Weighing W) (bs : List ℕ) (kind : ℕ) (before after : List (Run W)) (r : Result Header FileFault) →
    r ≡ file_answer kind weighed bs (length before) → after ≡ file_table kind weighed bs before → Placed weighed bs r before after
unfolding file_table file_runs
answer_placed {W} weighed bs kind before after (Ok h) e table = (
  (λ k l. let x = runs_stand weighed bs h.runs h.runs 0 a.0 a.2 k l in
      let here : k ≡ 0 + k = omega arith in
      (x.0, ap (λ t. slice_get t k) full ∙ nth_front a.0 _ k (omega (arith, long)) ∙ x.1, run_stands weighed bs h.runs k x.0 (ap (run_at weighed bs h.runs) here ∙ x.2))),
  (λ k l. ap (λ t. slice_get t k) full ∙ nth_back a.0 before k (omega (arith, long))),
)
  where
    a : (runs : List (Run W)) × (header_answer kind bs (length before) ≡ Ok h) × (runs_from weighed bs h.runs h.runs 0 ≡ Ok runs)
    a = accepted_parts weighed bs kind (length before) h (sym e)

    long : length a.0 ≡ h.runs
    long = runs_length weighed bs h.runs h.runs 0 a.0 a.2

    full : after ≡ a.0 ++ drop (length a.0) before
    full = table ∙ ap (λ x. filled (and_then x (λ h. runs_from weighed bs h.runs h.runs 0)) before) a.1 ∙ ap (λ x. filled x before) a.2
answer_placed weighed bs kind before after (Err f) e table = table ∙ ap (λ x. filled x before) (refused_runs weighed bs kind (length before) f (sym e))
