use Rattle.std.proofs.Common.{sym, ◌∙◌, subst, arith}
use Rattle.queue.specs.Sifting.{Stood}
use Rattle.queue.proofs.Gaps.{gap_up}
use Rattle.queue.proofs.Levels.{above_less, above_one}
use Rattle.queue.proofs.Looks.{ahead_trans_not}
use Rattle.queue.proofs.Views.{read_held}
use Rattle.queue.proofs.heaps.sift.climb.Goals as goal

pub loop-at-preserved : goal.loop-at-preserved
loop-at-preserved g c =
    let up = c.above-up.ensures in
    let less = above_less c.above-up.result c.loop-at.at up in
    let room = (c.stand.ensures (record { held = c.args.held; place = 0 })).room in (
      omega (arith, less, room, c.loop-at.invariant.0),
      room ∙ c.loop-at.invariant.1,
      omega (arith, less, c.loop-at.invariant.2),
      λ d entries count gap.
          let here = c.loop-at.invariant.3 d entries count gap in
          gap_up g.G.Gauge.earlier entries d c.loop-at.slots count c.loop-at.at c.above-up.result c.args.held here
          (omega (arith, less, here.inside)) (omega (arith, less)) c.stand.new.slots
          (subst (λ t. Stood d c.loop-at.slots c.loop-at.at t c.stand.new.slots) (read_held d c.loop-at.slots c.above-up.result c.index-slots-up.result (omega (arith, above_less _ _ c.above-up.ensures))) (c.stand.ensures d))
          (ahead_trans_not _ g.G.Gauge.earlier g.met.G.Gauge.compares) up,
    )

pub returns-after-loop-at-clause-gap : goal.returns-after-loop-at-clause-gap
returns-after-loop-at-clause-gap g c = λ d entries count gap. (c.loop-at.invariant.3 d entries count gap, λ p b. absurd (omega (arith, above_less p _ b)))

pub returns-then-not-goes_before-clause-gap : goal.returns-then-not-goes_before-clause-gap
returns-then-not-goes_before-clause-gap g c = λ d entries count gap. (
  c.loop-at.invariant.3 d entries count gap,
  λ p b.
      rw (above_one p c.above-up.result c.loop-at.at b c.above-up.ensures, sym (read_held d c.loop-at.slots c.above-up.result c.index-slots-up.result (omega (arith, above_less _ _ c.above-up.ensures))))
      (sym c.goes_before.ensures ∙ c.if-not-goes_before.true),
)
