use Rattle.std.proofs.Common.{◌≡◌, ℕ, ◌<◌, ◌≤◌, length, Option}
use Rattle.queue.specs.declared.entries.Entry.{Entry}
use Rattle.queue.specs.declared.heaps.slots.Slot.{Slot}
use Rattle.queue.specs.Sifting.{Gap}
use Rattle.queue.proofs.heaps.sift.climb.Given as goal

-- the gap is where the loop stands
abbrev pub invariant-loop-at : goal.invariant-loop-at
invariant-loop-at g l =
    (l.at < length l.slots) × (length l.slots ≡ length l.initial.slots) × (l.at ≤ l.gap) ×
    ((d : Slot _) (entries : ℕ → Option (Entry _)) (count : ℕ) → Gap g.G.Gauge.earlier entries d l.initial.slots count l.gap l.held → Gap g.G.Gauge.earlier entries d l.slots count l.at l.held)

abbrev pub decreases-loop-at : goal.decreases-loop-at
decreases-loop-at g l = l.at
