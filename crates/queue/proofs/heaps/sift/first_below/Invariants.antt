use Rattle.std.proofs.Common.{◌≡◌, ℕ, ◌<◌, ◌≤◌, false}
use Rattle.queue.specs.declared.heaps.slots.Slot.{Slot}
use Rattle.queue.specs.InHeap.{held_at}
use Rattle.queue.specs.Order.{ahead}
use Rattle.queue.proofs.heaps.sift.first_below.Given as goal

-- of the places seen, none has an entry that goes before the first
abbrev pub invariant-loop-next : goal.invariant-loop-next
invariant-loop-next g l =
    (l.start ≤ l.first) × (l.first < l.end) × (l.start < l.next) ×
    ((d : Slot _) (q : ℕ) → l.start ≤ q → q < l.next → ahead g.G.Gauge.earlier (held_at d l.slots q) (held_at d l.slots l.first) ≡ false)
