-- What the answer of a reading tells of the runs read.
use Rattle.std.proofs.Common.{◌≡◌, ℕ, zero, suc, ◌+◌, ◌≤◌, List, ◌∷◌, length, take, drop, Ok, Err, Result, refl, ap, ◌∙◌, subst, arith}
use Rattle.std.proofs.lemmas.List.{take_at}
use Rattle.std.proofs.lemmas.Bool.Decides.{nat_tests}
use Rattle.fault.specs.declared.file.FileFault.{FileFault}
use Rattle.plan.specs.declared.runs.Run.{Run}
use Rattle.planfile.specs.declared.reader.Header.{Header}
use Rattle.planfile.specs.Weights.{Weighing, and_then}
use Rattle.planfile.specs.File.{points_in, runs_in, header_answer, run_at, runs_from, done, filled, file_runs, file_answer, file_table}

-- the parts of a good answer of one step after another
pub and_then_ok : {A B E : Type 0} (a : Result A E) (f : A → Result B E) (y : B) → and_then a f ≡ Ok y → (x : A) × (a ≡ Ok x) × (f x ≡ Ok y)
and_then_ok (Ok x) f y e = (x, refl, e)
and_then_ok (Err g) f y e = cc

-- and of a check that keeps b
check_ok : {A B E : Type 0} (a : Result A E) (b y : B) → and_then (done a) (λ _. Ok b) ≡ Ok y → (x : A) × (a ≡ Ok x) × (b ≡ y)
check_ok (Ok x) b y e = (x, refl, cc)
check_ok (Err g) b y e = cc

-- an accepted header tells the counts, and the runs have room
pub header_told : (kind : ℕ) (bs : List ℕ) (room : ℕ) (h : Header) → header_answer kind bs room ≡ Ok h → (h.points ≡ points_in bs) × (h.runs ≤ room) × (h.runs ≡ runs_in bs)
header_told kind bs room h e = (grind (arith, nat_tests), grind (arith, nat_tests), grind (arith, nat_tests))

module _ {W : Type 0} (weighed : Weighing W) (bs : List ℕ) where
  -- the parts of runs that were read
  pub first_read : (r n k : ℕ) (xs : List (Run W)) → runs_from weighed bs r (suc n) k ≡ Ok xs →
      (x : Run W) × (ys : List (Run W)) × (run_at weighed bs r k ≡ Ok x) × (runs_from weighed bs r n (k + 1) ≡ Ok ys) × (xs ≡ x ∷ ys)
  first_read r n k xs e =
      let p = and_then_ok (run_at weighed bs r k) (λ x. and_then (runs_from weighed bs r n (k + 1)) (λ ys. Ok (x ∷ ys))) xs e in
      let q = and_then_ok (runs_from weighed bs r n (k + 1)) (λ ys. Ok (p.0 ∷ ys)) xs p.2 in
      (p.0, q.0, p.1, q.1, cc (q.2))

  -- as many runs are read as were asked for
  pub runs_length : (r n k : ℕ) (runs : List (Run W)) → runs_from weighed bs r n k ≡ Ok runs → length runs ≡ n
  runs_length r zero k runs e = grind arith
  runs_length r (suc n) k runs e =
      let f = first_read r n k runs e in
      ap length f.4 ∙ ap suc (runs_length r n (k + 1) f.1 f.3)

  module _ (kind room : ℕ) where
    -- a refusal is the refusal of the runs
    pub refused_runs : (f : FileFault) → file_answer kind weighed bs room ≡ Err f → file_runs kind weighed bs room ≡ Err f
    unfolding file_answer file_runs
    refused_runs f e = grind arith

    -- an accepted file has an accepted header and runs
    pub accepted_parts : (h : Header) → file_answer kind weighed bs room ≡ Ok h →
        (runs : List (Run W)) × (header_answer kind bs room ≡ Ok h) × (runs_from weighed bs h.runs h.runs 0 ≡ Ok runs)
    unfolding file_answer
    accepted_parts h e =
        let p = and_then_ok (header_answer kind bs room) (λ h. and_then (done (runs_from weighed bs h.runs h.runs 0)) (λ _. Ok h)) h e in
        let q = check_ok (runs_from weighed bs p.0.runs p.0.runs 0) p.0 h p.2 in
        subst (λ (x : Header). (runs : List (Run W)) × (header_answer kind bs room ≡ Ok x) × (runs_from weighed bs x.runs x.runs 0 ≡ Ok runs)) q.2 (q.0, p.1, q.1)

    -- the runs of an accepted file are as many as it says, and have room
    pub accepted_runs : (h : Header) → file_answer kind weighed bs room ≡ Ok h →
        (runs : List (Run W)) × (file_runs kind weighed bs room ≡ Ok runs) × (length runs ≡ h.runs) × (h.points ≡ points_in bs) × (h.runs ≤ room)
    unfolding file_runs
    accepted_runs h e =
        let a = accepted_parts h e in
        let t = header_told kind bs room h a.1 in
        (a.0, ap (λ x. and_then x (λ h. runs_from weighed bs h.runs h.runs 0)) a.1 ∙ a.2, runs_length h.runs h.runs 0 a.0 a.2, t.0, t.1)

  -- the runs stand in the first places of the table
  pub table_runs : (kind : ℕ) (table runs : List (Run W)) → file_runs kind weighed bs (length table) ≡ Ok runs → take (length runs) (file_table kind weighed bs table) ≡ runs
  unfolding file_table
  table_runs kind table runs e = ap (λ a. take (length runs) (filled a table)) e ∙ take_at runs (drop (length runs) table) (length runs) refl
