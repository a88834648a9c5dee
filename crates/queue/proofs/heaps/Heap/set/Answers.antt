use Rattle.std.proofs.Common.{length, arith}
use Rattle.queue.specs.declared.heaps.slots.Slot.{Slot}
use Rattle.queue.specs.InHeap.{Heaped, heap_entries}
use Rattle.queue.specs.Map.{after_put}
use Rattle.queue.specs.Sifting.{Gap}
use Rattle.queue.proofs.Openings.{gap_put, room_at}
use Rattle.queue.proofs.heaps.Heap.set.Given.{Over}
use Rattle.queue.proofs.heaps.Heap.set.Goals as goal

gaps : (g : Over) (c : goal.After-settle g) → Heaped g.G.Gauge.earlier c.args.self.now.slots.now c.args.self.now.used → (d : Slot _) → Gap g.G.Gauge.earlier (after_put (length c.args.self.now.slots.now) (heap_entries c.args.self.now.slots.now c.args.self.now.used) c.args.held.point c.args.held.entry) d c.args.self.now.slots.now c.max-self.result c.unwrap_or-at.result c.args.held
gaps g c heap d = gap_put _ g.G.Gauge.earlier g.met.G.Gauge.compares d c.args.self.now.slots.now c.args.self.now.used heap _ c.place_of.result c.unwrap_or-at.result c.max-self.result c.requires (c.place_of.ensures.standing d) c.unwrap_or-at.ensures c.max-self.ensures

pub returns-then-at-self-clause-heaped : goal.returns-then-at-self-clause-heaped
returns-then-at-self-clause-heaped g c = λ heap. (c.settle.ensures.heap _ (gaps g c heap)).0

pub returns-then-at-self-clause-entries : goal.returns-then-at-self-clause-entries
returns-then-at-self-clause-entries g c = λ heap. (c.settle.ensures.heap _ (gaps g c heap)).1

pub returns-else-at-self-clause-entries : goal.returns-else-at-self-clause-entries
returns-else-at-self-clause-entries g c = λ heap.
    let d : Slot _ = record { held = c.args.held; place = 0 } in
    let room = room_at _ g.G.Gauge.earlier g.met.G.Gauge.compares d c.args.self.now.slots.now c.args.self.now.used heap c.args.held.point c.place_of.result c.requires (c.place_of.ensures.standing d) in
    absurd (omega arith)
