-- The label that is listed next is an open candidate, and it is not after any cost that is reached and open.
use Rattle.std.proofs.Common.{◌≡◌, ℕ, ◌<◌, ◌≤◌, false, T, ◌⊎◌, List, Some, None, Option, refl, ap, subst, inl, inr, ⊎_elim, arith}
use Rattle.std.specs.List.{slice_get}
use Rattle.gauge.specs.Laws.{Compares}
use Rattle.plan.specs.declared.runs.Run.{Run}
use Rattle.plan.specs.Sound.{Ends}
use Rattle.queue.specs.declared.entries.Entry.{Entry}
use Rattle.queue.specs.declared.entries.Held.{Held}
use Rattle.queue.specs.Order.{First, look}
use Rattle.queue.proofs.Looks.{look_first}
use Rattle.method.specs.declared.label.Label.{Label}
use Rattle.method.specs.Tasks.{Task, Lawful}
use Rattle.method.specs.Links.{entry_of}
use Rattle.method.specs.Candidates.{Candidate, Covered}
use Rattle.method.specs.Waiting.{OpenCandidate, Waits, waiting}
use Rattle.method.specs.Reference.{labelled, next}
use Rattle.method.proofs.Cover.{covered_or_open, open_decides}
use Rattle.method.proofs.Soon.{before_weak}
use Rattle.method.proofs.Waited.{waits}
use Rattle.method.proofs.Ways.{Way, stays, goes}

-- the source is a point, and every run leads from a point to a point
pub record Posed {C W : Type 0} (t : Task C W) : Type 0 where
  pub source_in : t.source < t.points
  pub ends_in : Ends t.points t.runs

-- there is a next label, and its cost is not after c
pub record InTime {C W : Type 0} (t : Task C W) (ls : List (Label C)) (c : C) : Type 0 where
  pub label : Label C
  pub next_is : next t ls ≡ Some label
  pub not_after : t.rules.before c label.cost ≡ false

module _ {C W : Type 0} (t : Task C W) (law : Lawful t.rules) where
  orders : Compares C t.rules.no_worse t.rules.before
  orders = law.compares

  pub candidate_below : Posed t → (ls : List (Label C)) (v : ℕ) (e : Entry C) → Candidate t ls v e → v < t.points
  candidate_below posed ls v e (inl s) = omega (arith, s.source, posed.source_in)
  candidate_below posed ls v e (inr x) = omega (arith, x.head, (posed.ends_in x.place x.by x.there).1)

  waiting_candidate : (ls : List (Label C)) (v : ℕ) (e : Entry C) → waiting t ls v ≡ Some e → OpenCandidate t ls v e
  waiting_candidate ls v e p = (subst (Waits t ls v) p (waits t orders ls v)).0

  -- no entry waits past the points
  waiting_past : Posed t → (ls : List (Label C)) (v : ℕ) → t.points ≤ v → waiting t ls v ≡ None
  waiting_past posed ls v h = by (waiting t ls v) refl
    where
      by : (o : Option (Entry C)) → waiting t ls v ≡ o → o ≡ None
      by None p = refl
      by (Some e) p = absurd (let low = candidate_below posed ls v e (waiting_candidate ls v e p).candidate in omega arith)

  looks : Posed t → (ls : List (Label C)) → First t.rules.before (waiting t ls) (look t.rules.before (waiting t ls) t.points)
  looks posed ls = look_first t.rules.no_worse t.rules.before orders (waiting t ls) t.points (waiting_past posed ls)

  labelled_held : (o : Option (Held C)) (l : Label C) → labelled o ≡ Some l → o ≡ Some (record { point = l.point; entry = entry_of l })
  labelled_held None l p = absurd (grind arith)
  labelled_held (Some h) l p = let e : record { point = h.point; cost = h.entry.cost; from = h.entry.from; run = h.entry.run } ≡ l = cc in
      λ i. Some (record { point = (e i).point; entry = entry_of (e i) })

  pub next_candidate : Posed t → (ls : List (Label C)) (l : Label C) → next t ls ≡ Some l → OpenCandidate t ls l.point (entry_of l)
  next_candidate posed ls l p =
      waiting_candidate ls l.point (entry_of l) (subst (First t.rules.before (waiting t ls)) (labelled_held (look t.rules.before (waiting t ls) t.points) l p) (looks posed ls)).there

  -- an open candidate is not before the next label
  pub next_in_time : Posed t → (ls : List (Label C)) (v : ℕ) (e : Entry C) → OpenCandidate t ls v e → InTime t ls e.cost
  next_in_time posed ls v e h = at (waiting t ls v) refl (waits t orders ls v)
    where
      first : (w : Entry C) → waiting t ls v ≡ Some w → t.rules.before e.cost w.cost ≡ false → (o : Option (Held C)) → look t.rules.before (waiting t ls) t.points ≡ o → First t.rules.before (waiting t ls) o → InTime t ls e.cost
      first w p n None q f = absurd (let none = f v in grind arith)
      first w p n (Some x) q f = record {
        label = record { point = x.point; cost = x.entry.cost; from = x.entry.from; run = x.entry.run };
        next_is = ap labelled q;
        not_after = (before_weak t.rules.no_worse t.rules.before orders).chain e.cost w.cost x.entry.cost n (let u = f.unbeaten v w p in grind arith);
      }

      at : (o : Option (Entry C)) → waiting t ls v ≡ o → Waits t ls v o → InTime t ls e.cost
      at None p q = absurd (q e h)
      at (Some w) p q = first w p (let n = q.1 e h in grind arith) (look t.rules.before (waiting t ls) t.points) refl (looks posed ls)

  -- a cost no worse does not come after
  pub no_worse_first : (a b : C) → T (t.rules.no_worse a b) → t.rules.before b a ≡ false
  no_worse_first a b h = grind (arith, law.compares.total a b, law.compares.better_first a b, law.compares.follows, law.compares.strict)

  in_time_weaker : (ls : List (Label C)) (a b : C) → T (t.rules.no_worse a b) → InTime t ls a → InTime t ls b
  in_time_weaker ls a b h k = record { label = k.label; next_is = k.next_is; not_after = (before_weak t.rules.no_worse t.rules.before orders).chain b a k.label.cost (no_worse_first a b h) k.not_after }

  pub covered_weaker : (ls : List (Label C)) (v : ℕ) (a b : C) → T (t.rules.no_worse a b) → Covered t.rules.no_worse ls v a → Covered t.rules.no_worse ls v b
  covered_weaker ls v a b h k = record { number = k.number; label = k.label; listed = k.listed; point = k.point; better = law.compares.transitive k.label.cost a b k.better h }

  -- a candidate is covered, or the next label is in time for it
  candidate_in_time : Posed t → (ls : List (Label C)) (v : ℕ) (e : Entry C) → Candidate t ls v e → Covered t.rules.no_worse ls v e.cost ⊎ InTime t ls e.cost
  candidate_in_time posed ls v e h = ⊎_elim inl
      (λ p. inr (next_in_time posed ls v e (record { candidate = h; is_open = (open_decides t.rules.no_worse ls v e.cost).0 p })))
      (covered_or_open t.rules.no_worse ls v e.cost)

  pub start_candidate : (ls : List (Label C)) → Candidate t ls t.source (record { cost = t.rules.start; from = None; run = None })
  start_candidate ls = inl (record { source = refl; cost = refl; from = refl; run = refl })

  pub label_candidate : (ls : List (Label C)) (i : ℕ) (l : Label C) (k : ℕ) (r : Run W) (c : C) → slice_get ls i ≡ Some l → slice_get t.runs k ≡ Some r → l.point ≡ r.tail → t.rules.along l.cost r.weight ≡ Some c →
      Candidate t ls r.head (record { cost = c; from = Some i; run = Some k })
  label_candidate ls i l k r c p q u a = inr (record { number = i; label = l; listed = p; place = k; by = r; there = q; leaves = u; head = refl; cost = a; from = refl; run = refl })

  -- what holds of every candidate, or else of what comes before it on the way, holds of every cost that is reached
  pub by_way : (ls : List (Label C)) (Late : C → Type 0) → ((a b : C) → T (t.rules.no_worse a b) → Late a → Late b) →
      ((v : ℕ) (e : Entry C) → Candidate t ls v e → Covered t.rules.no_worse ls v e.cost ⊎ Late e.cost) →
      {v : ℕ} {c : C} → Way t v c → Covered t.rules.no_worse ls v c ⊎ Late c
  by_way ls Late weaker each stays = each t.source (record { cost = t.rules.start; from = None; run = None }) (start_candidate ls)
  by_way ls Late weaker each (goes {c = c} {d = d} k r w p q) = ⊎_elim along (λ l. inr (weaker c d (law.carries.grows c d r.weight q) l)) (by_way ls Late weaker each w)
    where
      along : Covered t.rules.no_worse ls r.tail c → Covered t.rules.no_worse ls r.head d ⊎ Late d
      along h =
          let a = law.carries.keeps h.label.cost c d r.weight h.better q in
          ⊎_elim (λ x. inl (covered_weaker ls r.head a.0 d a.2 x)) (λ l. inr (weaker a.0 d a.2 l))
          (each r.head (record { cost = a.0; from = Some h.number; run = Some k }) (label_candidate ls h.number h.label k r a.0 h.listed p h.point a.1))

  -- a reached cost is covered, or the next label is in time for it
  pub claim : Posed t → (ls : List (Label C)) {v : ℕ} {c : C} → Way t v c → Covered t.rules.no_worse ls v c ⊎ InTime t ls c
  claim posed ls = by_way ls (InTime t ls) (in_time_weaker ls) (candidate_in_time posed ls)
