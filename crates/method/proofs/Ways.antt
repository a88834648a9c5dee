-- Walks within the limits, run by run.
use Rattle.std.proofs.Common.{◌≡◌, ℕ, List, [], ◌∷◌, ◌++◌, Some, None, Option, sym, refl, ap, ◌∙◌, subst, arith}
use Rattle.std.specs.List.{slice_get}
use Rattle.plan.specs.declared.runs.Run.{Run}
use Rattle.method.specs.Tasks.{Task}
use Rattle.method.specs.Walks.{Walk, stay, go, gone, carried, Route, meets, head_of}

-- a walk within the limits, one run at a time
pub data Way {C W : Type 0} (t : Task C W) : ℕ → C → Type 0 where
  stays : Way t t.source t.rules.start
  goes : {c d : C} (k : ℕ) (r : Run W) → Way t r.tail c → slice_get t.runs k ≡ Some r → t.rules.along c r.weight ≡ Some d → Way t r.head d

module _ {C W : Type 0} (t : Task C W) where
  carried_push : (o : Option C) (ks : List ℕ) (k : ℕ) → carried t o (ks ++ k ∷ []) ≡ gone t.rules (carried t o ks) (slice_get t.runs k)
  carried_push o [] k = refl
  carried_push o (j ∷ ks) k = carried_push (gone t.rules o (slice_get t.runs j)) ks k

  -- the cost before the last run
  last_gone : (o : Option C) (r : Run W) (d : C) → gone t.rules o (Some r) ≡ Some d → (c : C) × (o ≡ Some c) × (t.rules.along c r.weight ≡ Some d)
  last_gone None r d p = absurd (grind arith)
  last_gone (Some c) r d p = (c, refl, p)

  walk_way : {ks : List ℕ} {v : ℕ} → Walk t.runs t.source ks v → (c : C) → carried t (Some t.rules.start) ks ≡ Some c → Way t v c
  walk_way stay c p = let e : t.rules.start ≡ c = cc in subst (λ (z : C). Way t t.source z) e stays
  walk_way (go {ks = ks} k r w q) c p =
      let before : gone t.rules (carried t (Some t.rules.start) ks) (Some r) ≡ Some c = sym (carried_push (Some t.rules.start) ks k ∙ ap (gone t.rules (carried t (Some t.rules.start) ks)) q) ∙ p in
      let b = last_gone (carried t (Some t.rules.start) ks) r c before in
      goes k r (walk_way w b.0 b.1) q b.2

  pub route_way : (ks : List ℕ) (v : ℕ) (c : C) → Route t ks v c → Way t v c
  route_way ks v c w = walk_way w.walk c w.within

  pub route_stay : Route t [] t.source t.rules.start
  route_stay = record { walk = stay; within = refl }

  pub route_go : (ks : List ℕ) (k : ℕ) (r : Run W) (c d : C) → Route t ks r.tail c → slice_get t.runs k ≡ Some r → t.rules.along c r.weight ≡ Some d → Route t (ks ++ k ∷ []) r.head d
  route_go ks k r c d w p q = record { walk = go k r w.walk p; within = carried_push (Some t.rules.start) ks k ∙ rw (w.within, p) q }

  pub meets_push : (u : ℕ) (ks : List ℕ) (k : ℕ) → meets t.runs u (ks ++ k ∷ []) ≡ meets t.runs u ks ++ head_of (slice_get t.runs k) ∷ []
  meets_push u [] k = refl
  meets_push u (j ∷ ks) k = ap (λ (z : List ℕ). u ∷ z) (meets_push (head_of (slice_get t.runs j)) ks k)
