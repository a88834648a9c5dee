use Rattle.std.proofs.Common.{◌≡◌, ◌≤◌, length, sym, arith}
use Rattle.queue.specs.declared.heaps.slots.Slot.{Slot}
use Rattle.queue.specs.InHeap.{Heaped, heap_entries, held_at}
use Rattle.queue.specs.Map.{after_take}
use Rattle.queue.specs.Sifting.{Gap}
use Rattle.queue.proofs.Openings.{gap_taken, none_left}
use Rattle.queue.proofs.Views.{read_held}
use Rattle.queue.proofs.heaps.Heap.remove_first.Given.{Over}
use Rattle.queue.proofs.heaps.Heap.remove_first.Goals as goal
use Rattle.queue.proofs.heaps.Heap.remove_first.Goals.{else-self-gt0-via-then-self-gt0+else-self, else-self-gt0-via-else-self-gt0}

gaps : (g : Over) (c : goal.After-settle g) → Heaped g.G.Gauge.earlier c.args.self.now.slots.now c.args.self.now.used → (d : Slot _) → Gap g.G.Gauge.earlier (after_take g.G.Gauge.earlier (length c.args.self.now.slots.now) (heap_entries c.args.self.now.slots.now c.args.self.now.used)) d c.args.self.now.slots.now c.saturating_sub-self.result 0 (held_at c.index-self-self.result c.args.self.now.slots.now c.saturating_sub-self.result)
gaps g c heap d = gap_taken _ g.G.Gauge.earlier g.met.G.Gauge.compares d c.args.self.now.slots.now c.args.self.now.used heap c.saturating_sub-self.result (omega arith) (omega arith) _ (read_held d c.args.self.now.slots.now c.saturating_sub-self.result c.index-self-self.result (omega arith))

pub returns-then-self-clause-heaped : goal.returns-then-self-clause-heaped
returns-then-self-clause-heaped g c = λ heap. (c.settle.ensures.heap _ (gaps g c heap)).0

pub returns-then-self-clause-entries : goal.returns-then-self-clause-entries
returns-then-self-clause-entries g c = λ heap. (c.settle.ensures.heap _ (gaps g c heap)).1

pub returns-else-self-gt0-clause-entries : goal.returns-else-self-gt0-clause-entries
returns-else-self-gt0-clause-entries g c = λ heap p.
    let few : c.args.self.now.used ≤ 1 = elim c.else-self-gt0.branch [
      | else-self-gt0-via-then-self-gt0+else-self w ↦ omega (arith, heap.fits, w.if-self-gt0.true, w.if-self.false)
      | else-self-gt0-via-else-self-gt0 w ↦ omega (arith, w.if-self-gt0.false)
    ] in
    let none : c.saturating_sub-self.result ≡ 0 = omega (arith, few) in
    rw none (sym (none_left _ g.G.Gauge.earlier g.met.G.Gauge.compares c.args.self.now.slots.now c.args.self.now.used heap few p))
