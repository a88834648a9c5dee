-- How entries move inside a heap. Only private functions speak of this.
use Rattle.std.specs.Prelude.{◌≡◌, ℕ, ◌<◌, ◌≤◌, Bool, false, cond, ◌&&◌, ◌≢◌, List, length, Some, None, Option, ◌==◌, nat_lt}
use Rattle.queue.specs.declared.entries.Entry.{Entry}
use Rattle.queue.specs.declared.entries.Held.{Held}
use Rattle.queue.specs.declared.heaps.slots.Slot.{Slot}
use Rattle.queue.specs.Order.{ahead}
use Rattle.queue.specs.InHeap.{Below, Heaped, heap_entries, held_at, noted_at}

-- the place of a point's entry has been noted, if the point has a place of its own
pub record Noted {C : Type 0} (d : Slot C) (old : List (Slot C)) (point at : ℕ) (new : List (Slot C)) : Type 0 where
  pub room : length new ≡ length old
  pub held : (i : ℕ) → held_at d new i ≡ held_at d old i
  pub place : (p : ℕ) → noted_at d new p ≡ cond (p == point && nat_lt p (length old)) at (noted_at d old p)

-- x has been written to a place, and the place noted for its point
pub record Stood {C : Type 0} (d : Slot C) (old : List (Slot C)) (at : ℕ) (x : Held C) (new : List (Slot C)) : Type 0 where
  pub room : length new ≡ length old
  pub held : (i : ℕ) → held_at d new i ≡ cond (i == at) x (held_at d old i)
  pub place : (p : ℕ) → noted_at d new p ≡ cond (p == x.point && nat_lt p (length old)) at (noted_at d old p)

-- a heap with a gap: x is in hand and not yet at place h; the other places are a heap, but for the order between h and its neighbours
pub record Gap {C : Type 0} (before : C → C → Bool) (entries : ℕ → Option (Entry C)) (d : Slot C) (s : List (Slot C)) (count h : ℕ) (x : Held C) : Type 0 where
  pub fits : count ≤ length s
  pub inside : h < count
  pub own : x.point < length s
  pub noted : (i : ℕ) → i < count → i ≢ h → ((held_at d s i).point < length s) × (noted_at d s (held_at d s i).point ≡ i)
  pub other : (i : ℕ) → i < count → i ≢ h → (held_at d s i).point ≢ x.point
  pub ordered : (p c : ℕ) → Below p c → c < count → p ≢ h → c ≢ h → ahead before (held_at d s c) (held_at d s p) ≡ false
  -- what stands below the gap does not go before what stands above it
  pub across : (p c : ℕ) → Below p h → Below h c → c < count → ahead before (held_at d s c) (held_at d s p) ≡ false
  -- the entries are those at the other places and the one in hand
  pub in_hand : entries x.point ≡ Some x.entry
  pub listed : (i : ℕ) → i < count → i ≢ h → entries (held_at d s i).point ≡ Some (held_at d s i).entry
  pub all : (p : ℕ) (e : Entry C) → entries p ≡ Some e → p ≢ x.point → (i : ℕ) × (i < count) × (i ≢ h) × ((held_at d s i).point ≡ p)

-- the entry in hand does not go before the one above the gap
abbrev pub UnderAbove : {C : Type 0} → (C → C → Bool) → Slot C → List (Slot C) → ℕ → Held C → Type 0
UnderAbove before d s h x = (p : ℕ) → Below p h → ahead before x (held_at d s p) ≡ false

-- no entry below the gap goes before the one in hand
abbrev pub OverBelow : {C : Type 0} → (C → C → Bool) → Slot C → List (Slot C) → ℕ → ℕ → Held C → Type 0
OverBelow before d s count h x = (c : ℕ) → Below h c → c < count → ahead before (held_at d s c) x ≡ false

-- the gap has gone up from h to k, to where x does not go before the entry above
abbrev pub Raised : {C : Type 0} → (C → C → Bool) → List (Slot C) → ℕ → Held C → List (Slot C) → ℕ → Type 0
Raised {C} before old h x new k =
    (d : Slot C) (entries : ℕ → Option (Entry C)) (count : ℕ) → Gap before entries d old count h x →
    Gap before entries d new count k x × UnderAbove before d new k x

-- it has gone down from h to k, to where no entry below goes before x
abbrev pub Lowered : {C : Type 0} → (C → C → Bool) → ℕ → List (Slot C) → ℕ → Held C → List (Slot C) → ℕ → Type 0
Lowered {C} before count old h x new k =
    (d : Slot C) (entries : ℕ → Option (Entry C)) → Gap before entries d old count h x → UnderAbove before d old h x →
    Gap before entries d new count k x × UnderAbove before d new k x × OverBelow before d new count k x

-- x stands at its place, and what was a heap with a gap is one with those entries
abbrev pub Settled : {C : Type 0} → (C → C → Bool) → ℕ → List (Slot C) → ℕ → Held C → List (Slot C) → Type 0
Settled {C} before count old h x new =
    (entries : ℕ → Option (Entry C)) → ((d : Slot C) → Gap before entries d old count h x) →
    Heaped before new count × ((p : ℕ) → heap_entries new count p ≡ entries p)

-- of the places right below h, the one whose entry goes first, if there is any
pub record FirstBelow {C : Type 0} (before : C → C → Bool) (d : Slot C) (s : List (Slot C)) (count h c : ℕ) : Type 0 where
  pub below : Below h c
  pub inside : c < count
  pub leads : (q : ℕ) → Below h q → q < count → ahead before (held_at d s q) (held_at d s c) ≡ false

abbrev pub LeadsBelow : {C : Type 0} → (C → C → Bool) → Slot C → List (Slot C) → ℕ → ℕ → Option ℕ → Type 0
LeadsBelow before d s count h None = (q : ℕ) → Below h q → q < count → ⊥
LeadsBelow before d s count h (Some c) = FirstBelow before d s count h c

-- where the entry of a point stands among the first `count` places; where their places are noted, none tells that it stands nowhere
abbrev pub Standing : {C : Type 0} → Slot C → List (Slot C) → ℕ → ℕ → Option ℕ → Type 0
Standing d s count point None = count ≤ length s → ((i : ℕ) → i < count → ((held_at d s i).point < length s) × (noted_at d s (held_at d s i).point ≡ i)) → (i : ℕ) → i < count → (held_at d s i).point ≢ point
Standing d s count point (Some at) = (at < count) × ((held_at d s at).point ≡ point)

-- the entry of a point is that at the place, or there is none
abbrev pub EntryAt : {C : Type 0} → List (Slot C) → ℕ → ℕ → Option ℕ → Type 0
EntryAt s count point None = heap_entries s count point ≡ None
EntryAt {C} s count point (Some at) = (d : Slot C) → heap_entries s count point ≡ Some (held_at d s at).entry
