use Rattle.std.proofs.Common.{sym, ◌∙◌, subst, arith}
use Rattle.queue.specs.InHeap.{held_at}
use Rattle.queue.specs.Sifting.{Stood}
use Rattle.queue.proofs.Gaps.{gap_down, under_moved}
use Rattle.queue.proofs.Levels.{above_less}
use Rattle.queue.proofs.Looks.{ahead_asym, ahead_trans_not}
use Rattle.queue.proofs.Views.{read_held}
use Rattle.queue.proofs.heaps.sift.sink.Goals as goal

pub loop-next-smaller : goal.loop-next-smaller
loop-next-smaller g c =
    let first = c.in-Some.ensures.leads (record { held = c.args.held; place = 0 }) in
    omega (arith, first.inside, above_less c.loop-next.at c.in-Some.next first.below)

pub loop-next-preserved : goal.loop-next-preserved
loop-next-preserved g c =
    let room = (c.stand.ensures (record { held = c.args.held; place = 0 })).room in (
      (c.in-Some.ensures.leads (record { held = c.args.held; place = 0 })).inside,
      room ∙ c.loop-next.invariant.1,
      omega (arith, room, c.loop-next.invariant.2),
      λ d entries gap under.
          let here = (c.loop-next.invariant.3 d entries gap under).0 in
          let first = c.in-Some.ensures.leads d in
          let less = above_less c.loop-next.at c.in-Some.next first.below in
          let moved = subst (λ t. Stood d c.loop-next.slots c.loop-next.at t c.stand.new.slots) (read_held d c.loop-next.slots c.in-Some.next c.index-slots-next.result (omega (arith, (c.in-Some.ensures.leads d).inside))) (c.stand.ensures d) in (
            gap_down g.G.Gauge.earlier entries d c.loop-next.slots c.args.count c.loop-next.at c.in-Some.next c.args.held here first.inside (omega (arith, less)) c.stand.new.slots moved first,
            under_moved g.G.Gauge.earlier d c.loop-next.slots c.loop-next.at c.in-Some.next c.args.held c.stand.new.slots moved first.below
                (ahead_asym _ g.G.Gauge.earlier g.met.G.Gauge.compares (held_at d c.loop-next.slots c.in-Some.next) c.args.held (rw (sym (read_held d c.loop-next.slots c.in-Some.next c.index-slots-next.result (omega (arith, (c.in-Some.ensures.leads d).inside)))) (sym c.goes_before.ensures ∙ c.if-not-goes_before.false))),
          ),
    )

pub returns-then-not-goes_before-clause-gap : goal.returns-then-not-goes_before-clause-gap
returns-then-not-goes_before-clause-gap g c = λ d entries gap under.
    let here = c.loop-next.invariant.3 d entries gap under in (
      here.0,
      here.1,
      λ q b h. ahead_trans_not _ g.G.Gauge.earlier g.met.G.Gauge.compares (held_at d c.loop-next.slots q) (held_at d c.loop-next.slots c.in-Some.next) c.args.held
          ((c.in-Some.ensures.leads d).leads q b h)
          (rw (sym (read_held d c.loop-next.slots c.in-Some.next c.index-slots-next.result (omega (arith, (c.in-Some.ensures.leads d).inside)))) (sym c.goes_before.ensures ∙ c.if-not-goes_before.true)),
    )

pub returns-in_default-clause-gap : goal.returns-in_default-clause-gap
returns-in_default-clause-gap g c = λ d entries gap under.
    let here = c.loop-next.invariant.3 d entries gap under in
    (here.0, here.1, λ q b h. absurd (c.in_default.ensures.leads d q b h))
