-- The costs listed at a point, and how many there are at all points together.
use Rattle.std.proofs.Common.{◌≡◌, ℕ, zero, suc, ◌+◌, ◌<◌, ◌≤◌, Bool, true, false, cond, eqb, ◌⊎◌, List, [], ◌∷◌, length, Some, sym, refl, ap, ◌∙◌, inl, inr, ⊎_elim, arith}
use Rattle.std.proofs.lemmas.Bool.{cases_eq, eq-eqb, eqb-true, ne_eqb}
use Rattle.std.specs.List.{slice_get}
use Rattle.gauge.specs.Laws.{Compares}
use Rattle.method.specs.declared.label.Label.{Label}
use Rattle.method.specs.Sequences.{In, first, later, Distinct, Ascends}
use Rattle.method.specs.Fronts.{total}
use Rattle.method.specs.Links.{costs_at}
use Rattle.method.specs.Criterion.{InOrder}
use Rattle.method.proofs.Places.{in_cases, in_none}

-- a label at v of cost c
pub record Stands {C : Type 0} (ls : List (Label C)) (v : ℕ) (c : C) : Type 0 where
  pub number : ℕ
  pub label : Label C
  pub listed : slice_get ls number ≡ Some label
  pub point : label.point ≡ v
  pub cost : label.cost ≡ c

module _ {C : Type 0} where
  pub costs_stand : (ls : List (Label C)) (v : ℕ) (c : C) → In c (costs_at ls v) → Stands ls v c
  costs_stand [] v c h = absurd (in_none h)
  costs_stand (l ∷ ls) v c h = by (eqb l.point v) refl h (costs_stand ls v c)
    where
      further : Stands ls v c → Stands (l ∷ ls) v c
      further k = record { number = suc k.number; label = k.label; listed = k.listed; point = k.point; cost = k.cost }

      by : (b : Bool) → eqb l.point v ≡ b → In c (cond b (l.cost ∷ costs_at ls v) (costs_at ls v)) → (In c (costs_at ls v) → Stands ls v c) → Stands (l ∷ ls) v c
      by true e k ih = ⊎_elim (λ q. record { number = 0; label = l; listed = refl; point = eqb-true l.point v e; cost = sym q }) (λ q. further (ih q)) (in_cases k)
      by false e k ih = further (ih k)

  pub stand_costs : (ls : List (Label C)) (v i : ℕ) (l : Label C) → slice_get ls i ≡ Some l → l.point ≡ v → In l.cost (costs_at ls v)
  stand_costs [] v i l p q = absurd (grind arith)
  stand_costs (x ∷ ls) v zero l p q = let same : x ≡ l = cc in rw (same, eq-eqb l.point v q) first
  stand_costs (x ∷ ls) v (suc i) l p q = by (eqb x.point v) (stand_costs ls v i l p q)
    where
      by : (b : Bool) → In l.cost (costs_at ls v) → In l.cost (cond b (x.cost ∷ costs_at ls v) (costs_at ls v))
      by true h = later h
      by false h = h

total_same : (f g : ℕ → ℕ) (n : ℕ) → ((v : ℕ) → v < n → f v ≡ g v) → total f n ≡ total g n
total_same f g zero h = refl
total_same f g (suc n) h = omega (arith, h n (omega arith), total_same f g n (λ v k. h v (omega arith)))

total_one : (f g : ℕ → ℕ) (p : ℕ) → ((v : ℕ) → (p ≡ v → ⊥) → f v ≡ g v) → f p ≡ suc (g p) → (n : ℕ) → p < n → total f n ≡ suc (total g n)
total_one f g p other here zero h = absurd (omega arith)
total_one f g p other here (suc n) h = by (cases_eq p n) (total_one f g p other here n)
  where
    by : (p ≡ n) ⊎ (p ≡ n → ⊥) → (p < n → total f n ≡ suc (total g n)) → total f n + f n ≡ suc (total g n + g n)
    by (inl e) ih = let k : f n ≡ suc (g n) = rw (← e) here in omega (arith, k, total_same f g n (λ v l. other v (omega arith)))
    by (inr e) ih = omega (arith, other n e, ih (omega arith))

total_none : (n : ℕ) → total (λ v. 0) n ≡ 0
total_none zero = refl
total_none (suc n) = omega (arith, total_none n)

pub total_below : (f g : ℕ → ℕ) → ((v : ℕ) → f v ≤ g v) → (n : ℕ) → total f n ≤ total g n
total_below f g h zero = omega arith
total_below f g h (suc n) = omega (arith, h n, total_below f g h n)

-- each label counts once
pub costs_number : {C : Type 0} (n : ℕ) (ls : List (Label C)) → ((i : ℕ) (l : Label C) → slice_get ls i ≡ Some l → l.point < n) → total (λ v. length (costs_at ls v)) n ≡ length ls
costs_number n [] below = total_none n
costs_number {C} n (l ∷ ls) below =
    total_one (λ v. length (costs_at (l ∷ ls) v)) (λ v. length (costs_at ls v)) l.point
    (λ v k. rw (ne_eqb l.point v k))
    (rw (eq-eqb l.point l.point refl))
    n (below 0 l refl) ∙ ap suc (costs_number n ls (λ i m p. below (suc i) m p))

module _ {C : Type 0} (no_worse before : C → C → Bool) where
  -- costs of labels in order ascend at each point
  pub costs_ascend : (ls : List (Label C)) → InOrder no_worse before ls → (v : ℕ) → Ascends before (costs_at ls v)
  costs_ascend [] o v = Ascends.none
  costs_ascend (l ∷ ls) o v = by (eqb l.point v) refl (costs_ascend ls rest v)
    where
      rest : InOrder no_worse before ls
      rest = record {
        ascending = λ i j x y h p q e. o.ascending (suc i) (suc j) x y (omega arith) p q e;
        unbeaten = λ i j x y h p q e. o.unbeaten (suc i) (suc j) x y (λ z. h (omega arith)) p q e;
      }

      by : (b : Bool) → eqb l.point v ≡ b → Ascends before (costs_at ls v) → Ascends before (cond b (l.cost ∷ costs_at ls v) (costs_at ls v))
      by true e up = Ascends.more (λ d k. let s = costs_stand ls v d k in rw (← s.cost) (o.ascending 0 (suc s.number) l s.label (omega arith) refl s.listed (eqb-true l.point v e ∙ sym s.point))) up
      by false e up = up

  pub ascends_distinct : Compares C no_worse before → {cs : List C} → Ascends before cs → Distinct cs
  ascends_distinct laws Ascends.none = Distinct.none
  ascends_distinct laws (Ascends.more {x = c} up rest) = Distinct.more (λ k. laws.strict c (up c k)) (ascends_distinct laws rest)
