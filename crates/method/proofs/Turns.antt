-- The turns of the chains over labels and runs.
use Rattle.std.proofs.Common.{◌≡◌, ℕ, suc, ◌+◌, ◌-◌, ◌≤◌, Bool, true, false, cond, eqb, List, [], ◌∷◌, length, Some, None, Option, sym, refl, ap, ◌∙◌, ⊎_elim, add-one, arith}
use denote.Ref.{Bor}
use Rattle.std.specs.Option.{MatchOption}
use Rattle.std.specs.Iterator.Adapters.{zip_first, zip_second}
use Rattle.std.specs.List.{cons_option, enumerate_from, filter, filter_map, fold}
use Rattle.std.specs.Slice.Iter.{iter_rest}
use Rattle.std.specs.declared.iter.Zip.{Zip}
use Rattle.std.specs.declared.ops.RangeFrom.{RangeFrom}
use Rattle.std.specs.declared.slice.Iter.{Iter}
use Rattle.std.proofs.iter.Yields.{fronts}
use Rattle.std.proofs.lemmas.Iterator.{YieldsList, zips}
use Rattle.std.proofs.lemmas.Iterator.Splits.{YieldsList-from_shown_while}
use Rattle.std.proofs.lemmas.List.FromFn.{length-enumerate_from}
use Rattle.gauge.specs.Laws.{Compares}
use Rattle.plan.specs.declared.runs.Run.{Run}
use Rattle.queue.specs.declared.entries.Entry.{Entry}
use Rattle.method.specs.declared.label.Label.{Label}
use Rattle.method.specs.Tasks.{Rules}
use Rattle.method.specs.Ties.{sooner_of}
use Rattle.method.specs.Candidates.{if_open, extended, open_extended}
use Rattle.method.specs.Waiting.{from_labels, along_runs}
use Rattle.method.proofs.Soon.{sooner_of_assoc}

-- the steps of a range of 16 bits with no end
abbrev pub counts : RangeFrom ℕ → Option ℕ → RangeFrom ℕ → Type 0
counts s r t = MatchOption r ((65535 - s.start ≡ 0) × (t ≡ s)) (λ x. (x ≡ s.start) × (t.start ≡ x + 1))

-- such a range from 0 beside a slice gives the elements with their numbers
pub YieldsList-numbered : {X : Type 0} {s : Zip (RangeFrom ℕ) (Iter X)} (xs : List X) → zip_first s ≡ record { start = 0 } → iter_rest (zip_second s) ≡ xs → length xs ≤ 65535 →
    YieldsList (zips counts fronts) (λ p. (p.0, p.1.now)) s (enumerate_from 0 xs)
YieldsList-numbered {X} {s} xs begins whole few =
    let zero : (zip_first s).start ≡ 0 = ap (λ r. r.start) begins in
    rw (← zero, ← whole) (YieldsList-from_shown_while (zips counts fronts) (λ p. (p.0, p.1.now)) shown Counted none some s (omega (arith, zero, ap length whole)))
  where
    shown : Zip (RangeFrom ℕ) (Iter X) → List (ℕ × X)
    shown z = enumerate_from (zip_first z).start (iter_rest (zip_second z))

    Counted : Zip (RangeFrom ℕ) (Iter X) → Type 0
    Counted z = (zip_first z).start + length (iter_rest (zip_second z)) ≤ 65535

    none : (z t : Zip (RangeFrom ℕ) (Iter X)) → Counted z → zips counts fronts z None t → length (shown z) ≡ 0
    none z t h k = rw (length-enumerate_from (zip_first z).start (iter_rest (zip_second z))) (⊎_elim (λ u. omega (arith, u.1.0)) (λ u. u.1.0) k)

    some : (z : Zip (RangeFrom ℕ) (Iter X)) (p : ℕ × Bor X) (t : Zip (RangeFrom ℕ) (Iter X)) → Counted z → zips counts fronts z (Some p) t → Counted t × (shown z ≡ (p.0, p.1.now) ∷ shown t)
    some z p t h k = (omega (arith, k.0.0, k.0.1, ap length k.1), rw (k.1, k.0.1, k.0.0) refl)

pub sooner_of_none : {C : Type 0} (before : C → C → Bool) (a : Option (Entry C)) → sooner_of before a None ≡ a
sooner_of_none before None = refl
sooner_of_none before (Some a) = refl

module _ {C W : Type 0} (ρ : Rules C W) (ls : List (Label C)) where
  -- the best so far, or an entry at v, where that is sooner and open
  abbrev pub or_open : ℕ → Option (Entry C) → Entry C → Option (Entry C)
  or_open v best e = sooner_of ρ.before best (if_open ρ.no_worse ls v (Some e))

  -- the best so far, or the soonest open candidate of all labels along a numbered run, where that is sooner
  abbrev pub or_along : Option (Entry C) → ℕ × Run W → Option (Entry C)
  or_along best p = sooner_of ρ.before best (from_labels ρ ls p.0 p.1 0 ls)

module _ {C W : Type 0} (ρ : Rules C W) (laws : Compares C ρ.no_worse ρ.before) (ls : List (Label C)) where
  -- all labels from number i on, along one run
  pub fold_labels : (k : ℕ) (r : Run W) (i : ℕ) (more : List (Label C)) (best : Option (Entry C)) →
      fold (or_open ρ ls r.head) best (filter_map (λ p. extended ρ.along p.0 p.1 k r) (enumerate_from i more)) ≡ sooner_of ρ.before best (from_labels ρ ls k r i more)
  fold_labels k r i [] best = sym (sooner_of_none ρ.before best)
  fold_labels k r i (l ∷ more) best =
      turn (extended ρ.along i l k r)
      ∙ fold_labels k r (i + 1) more (sooner_of ρ.before best (open_extended ρ.no_worse ρ.along ls i l k r))
      ∙ rw add-one (sooner_of_assoc ρ.no_worse ρ.before laws best (open_extended ρ.no_worse ρ.along ls i l k r) (from_labels ρ ls k r (suc i) more))
    where
      rest : List (Entry C)
      rest = filter_map (λ p. extended ρ.along p.0 p.1 k r) (enumerate_from (i + 1) more)

      turn : (o : Option (Entry C)) → fold (or_open ρ ls r.head) best (cons_option o rest) ≡ fold (or_open ρ ls r.head) (sooner_of ρ.before best (if_open ρ.no_worse ls r.head o)) rest
      turn None = ap (λ b. fold (or_open ρ ls r.head) b rest) (sym (sooner_of_none ρ.before best))
      turn (Some e) = refl

  -- all labels along the runs into v from number k on
  pub fold_runs : (v k : ℕ) (more : List (Run W)) (best : Option (Entry C)) →
      fold (or_along ρ ls) best (filter (λ p. eqb p.1.head v) (enumerate_from k more)) ≡ sooner_of ρ.before best (along_runs ρ ls v k more)
  fold_runs v k [] best = sym (sooner_of_none ρ.before best)
  fold_runs v k (r ∷ more) best =
      turn (eqb r.head v)
      ∙ fold_runs v (k + 1) more (sooner_of ρ.before best (cond (eqb r.head v) (from_labels ρ ls k r 0 ls) None))
      ∙ rw add-one (sooner_of_assoc ρ.no_worse ρ.before laws best (cond (eqb r.head v) (from_labels ρ ls k r 0 ls) None) (along_runs ρ ls v (suc k) more))
    where
      rest : List (ℕ × Run W)
      rest = filter (λ p. eqb p.1.head v) (enumerate_from (k + 1) more)

      turn : (b : Bool) → fold (or_along ρ ls) best (cond b ((k, r) ∷ rest) rest) ≡ fold (or_along ρ ls) (sooner_of ρ.before best (cond b (from_labels ρ ls k r 0 ls) None)) rest
      turn true = refl
      turn false = ap (λ b. fold (or_along ρ ls) b rest) (sym (sooner_of_none ρ.before best))
