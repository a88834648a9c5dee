-- How a heap keeps its entries in lent memory, and what it holds.
use Rattle.std.specs.Prelude.{◌≡◌, ℕ, ◌+◌, ◌*◌, ◌<◌, ◌≤◌, Bool, false, cond, List, [], ◌∷◌, length, take, Some, None, Option, ◌==◌, slice_index_or}
use Rattle.queue.specs.declared.entries.Entry.{Entry}
use Rattle.queue.specs.declared.entries.Held.{Held}
use Rattle.queue.specs.declared.heaps.slots.Slot.{Slot}
use Rattle.queue.specs.Order.{ahead}

-- place c stands right below place p, and p right above c: each place has two below it
abbrev pub Below : ℕ → ℕ → Type 0
Below p c = (2 * p < c) × (c ≤ 2 * p + 2)

-- the entry with its point that stands at place i (d is read past the end)
abbrev pub held_at : {C : Type 0} → Slot C → List (Slot C) → ℕ → Held C
held_at d slots i = (slice_index_or slots i d).held

-- where the entry of point p stands, as the place of that number notes it
abbrev pub noted_at : {C : Type 0} → Slot C → List (Slot C) → ℕ → ℕ
noted_at d slots p = (slice_index_or slots p d).place

-- the first `count` places are a heap
pub record Heaped {C : Type 0} (before : C → C → Bool) (slots : List (Slot C)) (count : ℕ) : Type 0 where
  pub fits : count ≤ length slots
  -- the point of each entry is below the capacity, and its place is noted
  pub noted : (d : Slot C) (i : ℕ) → i < count → ((held_at d slots i).point < length slots) × (noted_at d slots (held_at d slots i).point ≡ i)
  -- no entry goes before the one above it
  pub ordered : (d : Slot C) (p c : ℕ) → Below p c → c < count → ahead before (held_at d slots c) (held_at d slots p) ≡ false

-- the entry of point p, if it stands at one of these places
abbrev pub entry_among : {C : Type 0} → List (Slot C) → ℕ → Option (Entry C)
entry_among [] p = None
entry_among (x ∷ xs) p = cond (x.held.point == p) (Some x.held.entry) (entry_among xs p)

-- what a heap holds: the entries at its first `count` places
abbrev pub heap_entries : {C : Type 0} → List (Slot C) → ℕ → ℕ → Option (Entry C)
heap_entries slots count p = entry_among (take count slots) p
