-- In labels that are sound, the links of each spell a walk within the limits of its cost; if they are in order too, it meets no point twice.
use Rattle.std.proofs.Common.{◌≡◌, ℕ, zero, suc, ◌<◌, ◌≤◌, T, List, [], ◌∷◌, ◌++◌, take, Some, sym, refl, ap, ◌∙◌, subst, inl, inr, ⊎_elim, arith}
use Rattle.std.specs.List.{slice_get}
use Rattle.method.specs.declared.label.Label.{Label}
use Rattle.method.specs.Tasks.{Task, Lawful}
use Rattle.method.specs.Sequences.{In, Distinct}
use Rattle.method.specs.Walks.{Reached, Route, head_of, meets}
use Rattle.method.specs.Links.{Spelled, Spells, entry_of}
use Rattle.method.specs.Candidates.{Candidate, Extends, Starts}
use Rattle.method.specs.Criterion.{InOrder, Sound}
use Rattle.method.proofs.Places.{distinct_push, in_cases, in_none, in_push_cases, nth_take}
use Rattle.method.proofs.Ways.{meets_push, route_go, route_stay}

-- a label at p up to number i is no worse than c
record Passed {C W : Type 0} (t : Task C W) (ls : List (Label C)) (i p : ℕ) (c : C) : Type 0 where
  number : ℕ
  label : Label C
  upto : number ≤ i
  listed : slice_get ls number ≡ Some label
  point : label.point ≡ p
  better : T (t.rules.no_worse label.cost c)

-- the walk that label i spells, and what its points have
record Trail {C W : Type 0} (t : Task C W) (ls : List (Label C)) (i : ℕ) (l : Label C) : Type 0 where
  runs : List ℕ
  spells : Spells ls i runs
  route : Route t runs l.point l.cost
  passed : (p : ℕ) → In p (meets t.runs t.source runs) → Passed t ls i p l.cost
  once : InOrder t.rules.no_worse t.rules.before ls → Distinct (meets t.runs t.source runs)

module _ {C W : Type 0} (t : Task C W) (law : Lawful t.rules) (ls : List (Label C)) where
  itself : (i : ℕ) (l : Label C) → slice_get ls i ≡ Some l → Passed t ls i l.point l.cost
  itself i l p = record { number = i; label = l; upto = omega arith; listed = p; point = refl; better = law.compares.reflexive l.cost }

  trail_start : (i : ℕ) (l : Label C) → slice_get ls i ≡ Some l → Starts t l.point (entry_of l) → Trail t ls i l
  trail_start i l p s = record {
    runs = [];
    spells = Spells.start l p s.from s.run;
    route = rw (s.source, s.cost) (route_stay t);
    passed = λ q k. ⊎_elim (λ e. subst (λ (z : ℕ). Passed t ls i z l.cost) (s.source ∙ sym e) (itself i l p)) (λ n. absurd (in_none n)) (in_cases k);
    once = λ _. Distinct.more in_none Distinct.none;
  }

  trail_along : (i : ℕ) (l : Label C) → slice_get ls i ≡ Some l → (x : Extends t (take i ls) l.point (entry_of l)) → Trail t ls x.number x.label → Trail t ls i l
  trail_along i l p x h =
      let low = nth_take i ls x.number x.label x.listed in
      let worse : T (t.rules.no_worse x.label.cost l.cost) = law.carries.grows x.label.cost l.cost x.by.weight x.cost in
      let met : meets t.runs t.source (h.runs ++ x.place ∷ []) ≡ meets t.runs t.source h.runs ++ l.point ∷ [] =
      meets_push t t.source h.runs x.place ∙ ap (λ (z : ℕ). meets t.runs t.source h.runs ++ z ∷ []) (ap head_of x.there ∙ x.head) in
      let onward : (q : ℕ) → Passed t ls x.number q x.label.cost → Passed t ls i q l.cost =
      λ q k. record { number = k.number; label = k.label; upto = omega (arith, k.upto, low.0); listed = k.listed; point = k.point; better = law.compares.transitive k.label.cost x.label.cost l.cost k.better worse } in
      record {
        runs = h.runs ++ x.place ∷ [];
        spells = Spells.link x.number x.place l p x.from x.run h.spells;
        route = subst (λ (z : ℕ). Route t (h.runs ++ x.place ∷ []) z l.cost) x.head (route_go t h.runs x.place x.by x.label.cost l.cost (subst (λ (z : ℕ). Route t h.runs z x.label.cost) x.leaves h.route) x.there x.cost);
        passed = λ q k. ⊎_elim (λ m. onward q (h.passed q m)) (λ e. subst (λ (z : ℕ). Passed t ls i z l.cost) (sym e) (itself i l p)) (in_push_cases (meets t.runs t.source h.runs) l.point q (rw met at k));
        once = λ o. rw met (distinct_push (meets t.runs t.source h.runs) l.point (h.once o)
            (λ k. let m = h.passed l.point k in let n = onward l.point m in o.unbeaten m.number i m.label l (λ e. omega (arith, m.upto, low.0)) m.listed p m.point n.better));
      }

  module _ (sound : Sound t ls) where
    trail_below : (n i : ℕ) (l : Label C) → i < n → slice_get ls i ≡ Some l → Trail t ls i l
    trail_below zero i l h p = absurd (omega arith)
    trail_below (suc n) i l h p = by (sound i l p) (trail_below n)
      where
        by : Candidate t (take i ls) l.point (entry_of l) → ((j : ℕ) (m : Label C) → j < n → slice_get ls j ≡ Some m → Trail t ls j m) → Trail t ls i l
        by (inl s) ih = trail_start i l p s
        by (inr x) ih = let low = nth_take i ls x.number x.label x.listed in trail_along i l p x (ih x.number x.label (omega (arith, low.0)) low.1)

    pub sound_reached : (i : ℕ) (l : Label C) → slice_get ls i ≡ Some l → Reached t l.point l.cost
    sound_reached i l p = let h = trail_below (suc i) i l (omega arith) p in (h.runs, h.route)

    pub sound_spelled : InOrder t.rules.no_worse t.rules.before ls → (i : ℕ) (l : Label C) → slice_get ls i ≡ Some l → Spelled t ls i l
    sound_spelled o i l p = let h = trail_below (suc i) i l (omega arith) p in record { runs = h.runs; spells = h.spells; route = h.route; no_point_twice = h.once o }
