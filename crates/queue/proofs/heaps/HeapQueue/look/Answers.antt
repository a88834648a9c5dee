use Rattle.std.proofs.Common.{length, Some, sym, ap, ◌∙◌, subst, arith}
use Rattle.std.proofs.lemmas.List.{get_or-take, length-take-le}
use Rattle.queue.specs.InHeap.{Heaped, heap_entries}
use Rattle.queue.specs.Order.{Leads}
use Rattle.queue.specs.Within.{heap_within}
use Rattle.queue.proofs.Looks.{first_look}
use Rattle.queue.proofs.Openings.{look_none, root_first}
use Rattle.queue.proofs.heaps.HeapQueue.look.Goals as goal

pub returns-in_err-front-clause-answer : goal.returns-in_err-front-clause-answer
returns-in_err-front-clause-answer g c = λ heap.
    let s = c.args.self.now.slots.now in
    let used = length-take-le c.args.self.now.used s heap.fits in
    c.from_residual.ensures ∙ look_none _ g.G.Gauge.earlier g.met.G.Gauge.compares s c.args.self.now.used (omega (arith, used, c.in_err-front.ensures heap.fits))

pub returns : goal.returns
returns g c = record {
  answer = λ heap. first_look _ g.G.Gauge.earlier g.met.G.Gauge.compares (heap_entries c.args.self.now.slots.now c.args.self.now.used) (length c.args.self.now.slots.now) (Some c.in_ok-front.field-0.now.held)
      (heap_within g.G.Gauge.earlier c.args.self.now.slots.now c.args.self.now.used heap) (leads heap);
  first = leads;
}
  where
    leads : Heaped g.G.Gauge.earlier c.args.self.now.slots.now c.args.self.now.used → Leads g.G.Gauge.earlier (heap_entries c.args.self.now.slots.now c.args.self.now.used) c.in_ok-front.field-0.now.held
    leads heap =
        let s = c.args.self.now.slots.now in
        let d = c.in_ok-front.field-0.now in
        let item = c.in_ok-front.ensures heap.fits in
        let used = length-take-le c.args.self.now.used s heap.fits in
        let here = item.3.1 d ∙ get_or-take c.args.self.now.used s 0 d (omega (arith, item.3.0, used)) in
        subst (Leads g.G.Gauge.earlier _) (sym (ap (λ t. t.held) here)) (root_first _ g.G.Gauge.earlier g.met.G.Gauge.compares d s c.args.self.now.used heap (omega (arith, item.3.0, used)))
