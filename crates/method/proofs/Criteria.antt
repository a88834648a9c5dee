-- Labels that are sound, in order and closed list exactly the fronts.
use Rattle.std.proofs.Common.{◌≡◌, ℕ, T, List, Some, subst, inl, ⊎_elim}
use Rattle.std.proofs.lemmas.Bool.{cases_eq}
use Rattle.std.specs.List.{slice_get}
use Rattle.method.specs.declared.label.Label.{Label}
use Rattle.method.specs.Tasks.{Task, Lawful}
use Rattle.method.specs.Sequences.{In}
use Rattle.method.specs.Walks.{Reached}
use Rattle.method.specs.Fronts.{Front}
use Rattle.method.specs.Links.{costs_at}
use Rattle.method.specs.Candidates.{Covered}
use Rattle.method.specs.Criterion.{Closed, Criterion, InOrder, ListsFronts, Sound}
use Rattle.method.proofs.Places.{nth_one}
use Rattle.method.proofs.Ways.{route_way}
use Rattle.method.proofs.Nexts.{by_way}
use Rattle.method.proofs.Trails.{sound_reached}
use Rattle.method.proofs.Costs.{costs_ascend, costs_stand, stand_costs}

module _ {C W : Type 0} (t : Task C W) (law : Lawful t.rules) (ls : List (Label C)) (sound : Sound t ls) (order : InOrder t.rules.no_worse t.rules.before ls) where
  -- a label of a point at which every reached cost is covered is in its front
  label_front : ((v : ℕ) (c : C) → Reached t v c → Covered t.rules.no_worse ls v c) → (i : ℕ) (l : Label C) → slice_get ls i ≡ Some l → Front t l.point l.cost
  label_front covered i l p = record { reached = sound_reached t law ls sound i l p; unbeaten = λ d w h. by d h (covered l.point d w) }
    where
      by : (d : C) → T (t.rules.no_worse d l.cost) → Covered t.rules.no_worse ls l.point d → d ≡ l.cost
      by d h k = ⊎_elim
          (λ e. let same : k.label ≡ l = nth_one ls i k.label l (subst (λ (n : ℕ). slice_get ls n ≡ Some k.label) e k.listed) p in
          law.compares.antisymmetric d l.cost h (subst (λ (m : Label C). T (t.rules.no_worse m.cost d)) same k.better))
          (λ e. absurd (order.unbeaten k.number i k.label l e k.listed p k.point (law.compares.transitive k.label.cost d l.cost k.better h)))
          (cases_eq k.number i)

  -- a cost of a front that is covered is listed
  pub covered_listed : (v : ℕ) (c : C) → Front t v c → Covered t.rules.no_worse ls v c → In c (costs_at ls v)
  covered_listed v c f k = subst (λ (z : C). In z (costs_at ls v))
      (f.unbeaten k.label.cost (subst (λ (z : ℕ). Reached t z k.label.cost) k.point (sound_reached t law ls sound k.number k.label k.listed)) k.better)
      (stand_costs ls v k.number k.label k.listed k.point)

  listed_front : ((v : ℕ) (c : C) → Reached t v c → Covered t.rules.no_worse ls v c) → (v : ℕ) (c : C) → In c (costs_at ls v) → Front t v c
  listed_front covered v c h =
      let s = costs_stand ls v c h in
      subst (λ (z : C). Front t v z) s.cost (subst (λ (z : ℕ). Front t z s.label.cost) s.point (label_front covered s.number s.label s.listed))

  pub lists_fronts : Closed t ls → ListsFronts t ls
  lists_fronts closed = record {
    exact = λ v c. (listed_front covered v c, λ f. covered_listed v c f (covered v c f.reached));
    in_order = costs_ascend t.rules.no_worse t.rules.before ls order;
  }
    where
      covered : (v : ℕ) (c : C) → Reached t v c → Covered t.rules.no_worse ls v c
      covered v c w = ⊎_elim (λ k. k) (λ x. absurd x) (by_way t law ls (λ _. ⊥) (λ _ _ _ x. x) (λ u e k. inl (closed u e k)) (route_way t w.0 v c w.1))

pub criterion : {C W : Type 0} (t : Task C W) → Lawful t.rules → Criterion t
criterion t law ls sound order closed = lists_fronts t law ls sound order closed
