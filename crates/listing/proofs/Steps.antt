-- One run or one point more of a listing.
use Rattle.std.proofs.Common.{◌≡◌, ℕ, zero, suc, ◌+◌, ◌<◌, List, [], ◌∷◌, ◌++◌, length, take, get_or, sym, ap, ◌∙◌, arith}
use Rattle.std.proofs.lemmas.List.{append_assoc, append-nil}
use Rattle.plan.specs.declared.runs.Run.{Run}
use Rattle.listing.specs.Lines.{run_text, runs_text, point_text, points_text}

module _ {W : Type 0} (numbers : W → List ℕ) where
  pub runs_more : (first i : ℕ) (runs : List (Run W)) (run : Run W) → i < length runs → run ≡ get_or runs i run →
      runs_text numbers first (take (i + 1) runs) ≡ runs_text numbers first (take i runs) ++ run_text numbers (first + i) run
  runs_more first i [] run h e = absurd (omega (arith, h))
  runs_more first zero (r ∷ runs) run h e =
      let here : first ≡ first + 0 = omega arith in
      ap (λ x. run_text numbers first x ++ []) (sym e) ∙ append-nil (run_text numbers first run) ∙ ap (λ n. run_text numbers n run) here
  runs_more first (suc i) (r ∷ runs) run h e =
      let on : first + 1 + i ≡ first + suc i = omega arith in
      let one : suc i + 1 ≡ suc (i + 1) = omega arith in
      ap (λ k. runs_text numbers first (take k (r ∷ runs))) one
      ∙ ap (λ t. run_text numbers first r ++ t) (runs_more (first + 1) i runs run (omega (arith, h)) e)
      ∙ ap (λ n. run_text numbers first r ++ (runs_text numbers (first + 1) (take i runs) ++ run_text numbers n run)) on
      ∙ sym (append_assoc (run_text numbers first r) (runs_text numbers (first + 1) (take i runs)) (run_text numbers (first + suc i) run))

  pub points_more : (runs : List (Run W)) (n point : ℕ) → points_text numbers runs (n + 1) point ≡ points_text numbers runs n point ++ point_text numbers runs (point + n)
  points_more runs zero point = let here : point ≡ point + 0 = omega arith in append-nil (point_text numbers runs point) ∙ ap (point_text numbers runs) here
  points_more runs (suc n) point =
      let on : point + 1 + n ≡ point + suc n = omega arith in
      let one : suc n + 1 ≡ suc (n + 1) = omega arith in
      ap (λ k. points_text numbers runs k point) one
      ∙ ap (λ t. point_text numbers runs point ++ t) (points_more runs n (point + 1))
      ∙ ap (λ k. point_text numbers runs point ++ (points_text numbers runs n (point + 1) ++ point_text numbers runs k)) on
      ∙ sym (append_assoc (point_text numbers runs point) (points_text numbers runs n (point + 1)) (point_text numbers runs (point + suc n)))
