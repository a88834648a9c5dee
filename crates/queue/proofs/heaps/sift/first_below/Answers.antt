use Rattle.std.proofs.Common.{◌≡◌, sym, ◌∙◌, arith}
use Rattle.queue.specs.declared.heaps.slots.Slot.{Slot}
use Rattle.queue.specs.InHeap.{held_at}
use Rattle.queue.specs.Order.{ahead}
use Rattle.queue.proofs.Gaps.{first_changed, first_kept}
use Rattle.queue.proofs.Looks.{ahead_self}
use Rattle.queue.proofs.Views.{read_held}
use Rattle.queue.proofs.heaps.sift.first_below.Goals as goal
use Rattle.queue.proofs.heaps.sift.first_below.Goals.{then-goes_before, else-goes_before}

pub returns-then-start-end-clause-leads : goal.returns-then-start-end-clause-leads
returns-then-start-end-clause-leads g c = λ d q b h. let span = (c.below-start.ensures.places q).0 (b, h) in absurd (omega (arith, span.0, span.1, c.if-start-end.true))

pub loop-next-init : goal.loop-next-init
loop-next-init g c = (
  omega arith,
  c.if-start-end.false,
  omega arith,
  λ d q low high. let e : q ≡ c.below-start.result.start = omega arith in rw e (ahead_self _ g.G.Gauge.earlier g.met.G.Gauge.compares (held_at d c.args.slots.now c.below-start.result.start)),
)

pub loop-next-preserved : goal.loop-next-preserved
loop-next-preserved g c =
    elim c.if-goes_before.branch [
      | then-goes_before w ↦ rw w.first-is (
        omega (arith, c.loop-next.invariant.2),
        omega arith,
        omega (arith, c.loop-next.invariant.2),
        λ d. first_changed _ g.G.Gauge.earlier g.met.G.Gauge.compares (held_at d c.args.slots.now) _ c.loop-next.first c.loop-next.next (c.loop-next.invariant.3 d)
            (told d ∙ w.if-goes_before.true),
      )
      | else-goes_before w ↦ rw w.first-is (
        c.loop-next.invariant.0,
        c.loop-next.invariant.1,
        omega (arith, c.loop-next.invariant.2),
        λ d. first_kept _ g.G.Gauge.earlier g.met.G.Gauge.compares (held_at d c.args.slots.now) _ c.loop-next.first c.loop-next.next (c.loop-next.invariant.3 d)
            (told d ∙ w.if-goes_before.false),
      )
    ]
  where
    told : (d : Slot _) → ahead g.G.Gauge.earlier (held_at d c.args.slots.now c.loop-next.next) (held_at d c.args.slots.now c.loop-next.first) ≡ c.goes_before.result
    told d = rw (sym (read_held d c.args.slots.now c.loop-next.next c.index-slots-next.result (omega arith)), sym (read_held d c.args.slots.now c.loop-next.first c.index-slots-first.result (omega arith))) (sym c.goes_before.ensures)

pub returns-clause-leads : goal.returns-clause-leads
returns-clause-leads g c = λ d.
    let found = (c.below-start.ensures.places c.loop-next.first).1 (c.loop-next.invariant.0, c.loop-next.invariant.1) in
    record {
      below = found.0;
      inside = found.1;
      leads = λ q b h. let span = (c.below-start.ensures.places q).0 (b, h) in c.loop-next.invariant.3 d q span.0 (omega (arith, span.1, c.loop-next-test.false));
    }
