-- What stands in a heap's memory after a write.
use Rattle.std.proofs.Common.{◌≡◌, ℕ, ◌-◌, ◌<◌, cond, ◌&&◌, eqb, ltb, ◌≢◌, List, length, get_or, set, refl, ap, ◌∙◌, ⊎_elim, arith, length-set}
use Rattle.std.proofs.lemmas.List.{get_or_default, get_or-set_same, get_or-set_other, get_or-take}
use Rattle.std.proofs.lemmas.Bool.{cases_eq, eq-eqb, ne_eqb}
use Rattle.std.specs.List.{slice_range}
use Rattle.queue.specs.declared.entries.Held.{Held}
use Rattle.queue.specs.declared.heaps.slots.Slot.{Slot}
use Rattle.queue.specs.InHeap.{held_at}
use Rattle.queue.specs.Sifting.{Noted, Stood}

module _ {X Y : Type 0} (f : X → Y) (d : X) (xs : List X) (at : ℕ) (v : X) (inside : at < length xs) where
  -- a write is seen at its own place
  pub read_set : (i : ℕ) → f (get_or (set xs at v) i d) ≡ cond (eqb i at) (f v) (f (get_or xs i d))
  read_set i =
      ⊎_elim
      (λ (e : i ≡ at). rw (e, eq-eqb at at refl) (ap f (get_or-set_same xs at v d inside)))
      (λ (ne : i ≢ at). rw (ne_eqb i at ne) (ap f (get_or-set_other xs at i v d ne)))
      (cases_eq i at)

  -- and not at all by what it leaves the same
  pub read_kept : f v ≡ f (get_or xs at d) → (i : ℕ) → f (get_or (set xs at v) i d) ≡ f (get_or xs i d)
  read_kept same i =
      ⊎_elim
      (λ (e : i ≡ at). rw e (ap f (get_or-set_same xs at v d inside) ∙ same))
      (λ (ne : i ≢ at). ap f (get_or-set_other xs at i v d ne))
      (cases_eq i at)

module _ {C : Type 0} (d : Slot C) (s : List (Slot C)) where
  -- what stands at a place that is there is read the same whatever is read past the end
  pub read_held : (i : ℕ) (x : Slot C) → i < length s → held_at x s i ≡ held_at d s i
  read_held i x inside = ap (λ t. t.held) (get_or_default s i x d inside)

  -- what stands in the front of the memory
  pub read_front : (n i : ℕ) → i < n → get_or (slice_range s 0 n) i d ≡ get_or s i d
  read_front n i inside = get_or-take (n - 0) s i d (omega arith)

  -- a write and its note
  pub stood_is : (at : ℕ) (x : Held C) (y : Slot C) (new : List (Slot C)) → at < length s → Noted d (set s at (record { held = x; place = (get_or s at y).place })) x.point at new → Stood d s at x new
  stood_is at x y new inside n = record {
    room = n.room ∙ length-set s at _;
    held = λ i. n.held i ∙ read_set (λ t. t.held) d s at _ inside i;
    place = λ p. n.place p ∙ rw (length-set s at (record { held = x; place = (get_or s at y).place })) (ap (λ t. cond (eqb p x.point && ltb p (length s)) at t) (read_kept (λ t. t.place) d s at _ inside (ap (λ t. t.place) (get_or_default s at y d inside)) p));
  }
