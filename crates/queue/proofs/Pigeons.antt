-- The pigeonhole principle.
use Rattle.std.proofs.Common.{◌≡◌, ℕ, zero, suc, ◌<◌, ◌≤◌, cond, eqb, ◌≢◌, sym, ◌∙◌, ⊎_elim, arith}
use Rattle.std.proofs.lemmas.Bool.{cases_eq, eq-eqb, ne_eqb}

-- g sends different numbers below n to different numbers
abbrev pub Apart : ℕ → (ℕ → ℕ) → Type 0
Apart n g = (i j : ℕ) → i < n → j < n → g i ≡ g j → i ≡ j

-- where g gives the top number k, what it gives at n
abbrev swapped : ℕ → ℕ → (ℕ → ℕ) → ℕ → ℕ
swapped k n g i = cond (eqb (g i) k) (g n) (g i)

swapped_top : (k n : ℕ) (g : ℕ → ℕ) (i : ℕ) → g i ≡ k → swapped k n g i ≡ g n
swapped_top k n g i e = rw (eq-eqb (g i) k e)

swapped_else : (k n : ℕ) (g : ℕ → ℕ) (i : ℕ) → g i ≢ k → swapped k n g i ≡ g i
swapped_else k n g i ne = rw (ne_eqb (g i) k ne)

swapped_below : (k n : ℕ) (g : ℕ → ℕ) → ((i : ℕ) → i < suc n → g i < suc k) → Apart (suc n) g → (i : ℕ) → i < n → swapped k n g i < k
swapped_below k n g low apart i h =
    ⊎_elim
    (λ (e : g i ≡ k). rw (swapped_top k n g i e) (⊎_elim
    (λ (e' : g n ≡ k). let same : i ≡ n = apart i n (omega arith) (omega arith) (e ∙ sym e') in absurd (omega arith))
    (λ (ne : g n ≢ k). let l = low n (omega arith) in omega arith)
    (cases_eq (g n) k)))
    (λ (ne : g i ≢ k). rw (swapped_else k n g i ne) (let l = low i (omega arith) in omega arith))
    (cases_eq (g i) k)

swapped_apart : (k n : ℕ) (g : ℕ → ℕ) → Apart (suc n) g → Apart n (swapped k n g)
swapped_apart k n g apart i j hi hj e =
    ⊎_elim
    (λ (a : g i ≡ k). ⊎_elim
    (λ (b : g j ≡ k). apart i j (omega arith) (omega arith) (a ∙ sym b))
    (λ (b : g j ≢ k). let same : n ≡ j = apart n j (omega arith) (omega arith) (sym (swapped_top k n g i a) ∙ e ∙ swapped_else k n g j b) in absurd (omega arith))
    (cases_eq (g j) k))
    (λ (a : g i ≢ k). ⊎_elim
    (λ (b : g j ≡ k). let same : i ≡ n = apart i n (omega arith) (omega arith) (sym (swapped_else k n g i a) ∙ e ∙ swapped_top k n g j b) in absurd (omega arith))
    (λ (b : g j ≢ k). apart i j (omega arith) (omega arith) (sym (swapped_else k n g i a) ∙ e ∙ swapped_else k n g j b))
    (cases_eq (g j) k))
    (cases_eq (g i) k)

-- n different numbers below k are at most k
pub pigeonhole : (k n : ℕ) (g : ℕ → ℕ) → ((i : ℕ) → i < n → g i < k) → Apart n g → n ≤ k
pigeonhole k zero g low apart = omega arith
pigeonhole zero (suc n) g low apart = let l = low n (omega arith) in omega arith
pigeonhole (suc k) (suc n) g low apart =
    let ih = pigeonhole k n (swapped k n g) (swapped_below k n g low apart) (swapped_apart k n g apart) in omega arith
