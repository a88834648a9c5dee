-- Whether a cost is covered by a label at its point, or open.
use Rattle.std.proofs.Common.{◌≡◌, ℕ, zero, suc, Bool, true, false, cond, not, ◌&&◌, ◌||◌, T, eqb, ◌⊎◌, List, [], ◌∷◌, Some, Decides, refl, inl, inr, ⊎_elim, arith}
use Rattle.std.proofs.lemmas.Bool.{eqb-true, both_ways}
use Rattle.std.proofs.lemmas.Bool.Decides.{nat_tests}
use Rattle.std.proofs.lemmas.Float.{T_from_true}
use Rattle.std.specs.List.{slice_get, list_any}
use Rattle.method.specs.declared.label.Label.{Label}
use Rattle.method.specs.Candidates.{Covered, Open, open_at}

pub refutes : (b : Bool) → b ≡ false → T b → ⊥
refutes b e h = grind arith

module _ {C : Type 0} (no_worse : C → C → Bool) where
  -- a cost is open where no label covers it
  pub open_none : (ls : List (Label C)) (v : ℕ) (c : C) → not (list_any (λ l. eqb l.point v && no_worse l.cost c) ls) ≡ open_at no_worse ls v c
  open_none [] v c = refl
  open_none (l ∷ ls) v c = by (eqb l.point v && no_worse l.cost c) (open_none ls v c)
    where
      by : (b : Bool) → not (list_any (λ m. eqb m.point v && no_worse m.cost c) ls) ≡ open_at no_worse ls v c →
          not (b || list_any (λ m. eqb m.point v && no_worse m.cost c) ls) ≡ cond b false (open_at no_worse ls v c)
      by true h = refl
      by false h = h

  -- a cost that is not open is covered
  pub covered_or_open : (ls : List (Label C)) (v : ℕ) (c : C) → Covered no_worse ls v c ⊎ (open_at no_worse ls v c ≡ true)
  covered_or_open [] v c = inr refl
  covered_or_open (l ∷ ls) v c = by (eqb l.point v) refl (no_worse l.cost c) refl (covered_or_open ls v c)
    where
      further : Covered no_worse ls v c → Covered no_worse (l ∷ ls) v c
      further h = record { number = suc h.number; label = h.label; listed = h.listed; point = h.point; better = h.better }

      by : (a : Bool) → eqb l.point v ≡ a → (b : Bool) → no_worse l.cost c ≡ b → Covered no_worse ls v c ⊎ (open_at no_worse ls v c ≡ true) →
          Covered no_worse (l ∷ ls) v c ⊎ (cond (a && b) false (open_at no_worse ls v c) ≡ true)
      by true p true q h = inl (record { number = 0; label = l; listed = refl; point = eqb-true l.point v p; better = T_from_true (no_worse l.cost c) q })
      by true p false q h = ⊎_elim (λ k. inl (further k)) inr h
      by false p b q h = ⊎_elim (λ k. inl (further k)) inr h

  covers_at : (ls : List (Label C)) (v : ℕ) (c : C) (i : ℕ) (l : Label C) → slice_get ls i ≡ Some l → l.point ≡ v → T (no_worse l.cost c) → open_at no_worse ls v c ≡ false
  covers_at [] v c i l p q b = grind arith
  covers_at (x ∷ ls) v c zero l p q b = grind (arith, nat_tests)
  covers_at (x ∷ ls) v c (suc i) l p q b = let ih = covers_at ls v c i l p q b in grind (arith, nat_tests)

  -- a covered cost is not open
  pub covered_shut : (ls : List (Label C)) (v : ℕ) (c : C) → Covered no_worse ls v c → open_at no_worse ls v c ≡ false
  covered_shut ls v c h = covers_at ls v c h.number h.label h.listed h.point h.better

  -- the test tells whether a cost is open
  pub open_decides : (ls : List (Label C)) (v : ℕ) (c : C) → Decides (open_at no_worse ls v c) (Open no_worse ls v c)
  open_decides ls v c = ((λ e h. both_ways (open_at no_worse ls v c) (covered_shut ls v c h) e), (λ o. ⊎_elim (λ h. absurd (o h)) (λ e. e) (covered_or_open ls v c)))
