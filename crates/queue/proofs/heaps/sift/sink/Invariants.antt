use Rattle.std.proofs.Common.{◌≡◌, ℕ, ◌-◌, ◌<◌, ◌≤◌, length, Option}
use Rattle.queue.specs.declared.entries.Entry.{Entry}
use Rattle.queue.specs.declared.heaps.slots.Slot.{Slot}
use Rattle.queue.specs.Sifting.{Gap, UnderAbove}
use Rattle.queue.proofs.heaps.sift.sink.Given as goal

-- the gap is where the loop stands
abbrev pub invariant-loop-next : goal.invariant-loop-next
invariant-loop-next g l =
    (l.at < l.count) × (length l.slots ≡ length l.initial.slots) × (l.count ≤ length l.slots) ×
    ((d : Slot _) (entries : ℕ → Option (Entry _)) → Gap g.G.Gauge.earlier entries d l.initial.slots l.count l.gap l.held → UnderAbove g.G.Gauge.earlier d l.initial.slots l.gap l.held →
    Gap g.G.Gauge.earlier entries d l.slots l.count l.at l.held × UnderAbove g.G.Gauge.earlier d l.slots l.at l.held)

abbrev pub decreases-loop-next : goal.decreases-loop-next
decreases-loop-next g l = l.count - l.at
