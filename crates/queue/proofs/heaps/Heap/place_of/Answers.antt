use Rattle.std.proofs.Common.{◌≡◌, eqb, get_or, None, sym, ap, ◌∙◌, subst, arith}
use Rattle.std.specs.Bool.{then_some}
use Rattle.queue.specs.declared.heaps.slots.Slot.{Slot}
use Rattle.queue.specs.InHeap.{noted_at}
use Rattle.queue.specs.Sifting.{Standing}
use Rattle.queue.specs.Within.{heap_within}
use Rattle.queue.proofs.Finds.{entry_at, noted_or_nowhere}
use Rattle.queue.proofs.Views.{read_front}
use Rattle.queue.proofs.heaps.Heap.place_of.Given.{Over}
use Rattle.queue.proofs.heaps.Heap.place_of.Goals as goal

pub returns-in_err-at-clause-entry : goal.returns-in_err-at-clause-entry
returns-in_err-at-clause-entry g c = λ heap. rw c.from_residual.ensures (heap_within g.G.Gauge.earlier c.args.self.now.slots.now c.args.self.now.used heap c.args.point (omega (arith, c.in_err-at.ensures.lookup)))

nowhere : (g : Over) (c : goal.After-from_residual-in_err-here g) (d : Slot _) → Standing d c.args.self.now.slots.now c.args.self.now.used c.args.point None
nowhere g c d fits noted i inside e =
    let is : c.in_ok-at.field-0.now.place ≡ i = ap (λ t. t.place) (c.in_ok-at.ensures.lookup.3.1 d ∙ ap (λ t. get_or c.args.self.now.slots.now t d) (c.from.ensures ∙ sym e)) ∙ (noted i inside).1 in
    omega (arith, is, inside, c.in_err-here.ensures.lookup.3, c.in_ok-held.ensures.0.3)

pub returns-in_err-here-clause-standing : goal.returns-in_err-here-clause-standing
returns-in_err-here-clause-standing g c = rw c.from_residual-in_err-here.ensures (nowhere g c)

pub returns-in_err-here-clause-entry : goal.returns-in_err-here-clause-entry
returns-in_err-here-clause-entry g c = λ heap. rw c.from_residual-in_err-here.ensures (entry_at c.args.self.now.slots.now c.args.self.now.used c.args.point None heap (nowhere g c))

stands : (g : Over) (c : goal.After-then_some g) (d : Slot _) → Standing d c.args.self.now.slots.now c.args.self.now.used c.args.point c.then_some.result
stands g c d =
    let at = c.in_ok-at.field-0.now.place in
    let s = c.args.self.now.slots.now in
    let own = c.in_ok-at.ensures.lookup in
    let front = c.in_ok-held.ensures in
    let read = c.in_ok-here.ensures.lookup in
    let is : at ≡ noted_at d s c.args.point = ap (λ t. t.place) (own.3.1 d ∙ ap (λ t. get_or s t d) c.from.ensures) in
    let here = read.3.1 d ∙ ap (λ l. get_or l at d) front.0.2 ∙ read_front d s c.args.self.now.used at (omega (arith, read.3.0, front.0.3)) in
    subst (Standing d s c.args.self.now.used c.args.point) (sym (c.then_some.ensures ∙ ap (λ t. then_some (eqb t.held.point c.args.point) at) here)) (noted_or_nowhere d s c.args.self.now.used c.args.point at is (omega (arith, read.3.0, front.0.3)))

pub returns-clause-standing : goal.returns-clause-standing
returns-clause-standing g c = stands g c

pub returns-clause-entry : goal.returns-clause-entry
returns-clause-entry g c = λ heap. entry_at c.args.self.now.slots.now c.args.self.now.used c.args.point c.then_some.result heap (stands g c)
