-- Points from the capacity on have no entry. The meaning of each queue is given together with this fact.
use Rattle.std.specs.Prelude.{◌≡◌, ℕ, zero, suc, ◌<◌, ◌≤◌, Bool, true, false, cond, ◌≢◌, List, [], ◌∷◌, length, None, Option, nat_lt, slice_index_or, refl}
use Rattle.std.proofs.Common.{arith}
use Rattle.std.proofs.lemmas.List.{get_or_past}
use Rattle.std.proofs.lemmas.Bool.{ne_eqb}
use Rattle.queue.specs.declared.heaps.slots.Slot.{Slot}
use Rattle.queue.specs.InHeap.{Heaped, heap_entries, held_at}
use Rattle.queue.specs.InRow.{row_entries}

pub row_within : {E : Type 0} (places : List (Option E)) (p : ℕ) → length places ≤ p → row_entries places p ≡ None
row_within places p past = go (nat_lt p 65536)
  where
    go : (b : Bool) → cond b (slice_index_or places p None) None ≡ None
    go true = get_or_past places p None past
    go false = refl

-- a point that is at none of the places has no entry
pub none_anywhere : {C : Type 0} (s : List (Slot C)) (n p : ℕ) → n ≤ length s → ((d : Slot C) (i : ℕ) → i < n → (held_at d s i).point ≢ p) → heap_entries s n p ≡ None
none_anywhere s zero p fits none = refl
none_anywhere [] (suc n) p fits none = refl
none_anywhere (x ∷ s) (suc n) p fits none =
    rw (ne_eqb x.held.point p (none x 0 (omega arith))) (none_anywhere s n p (omega arith) (λ d i h. none d (suc i) (omega arith)))

pub heap_within : {C : Type 0} (before : C → C → Bool) (s : List (Slot C)) (n : ℕ) → Heaped before s n → (p : ℕ) → length s ≤ p → heap_entries s n p ≡ None
heap_within before s n heap p past = none_anywhere s n p heap.fits (λ d i h e. let low = (heap.noted d i h).0 in omega arith)
