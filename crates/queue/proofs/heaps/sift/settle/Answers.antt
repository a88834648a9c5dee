use Rattle.std.proofs.Common.{◌≤◌, length, arith}
use Rattle.queue.specs.declared.heaps.slots.Slot.{Slot}
use Rattle.queue.proofs.Gaps.{filled_all, filled_listed, filled_noted, filled_ordered}
use Rattle.queue.proofs.Finds.{entries_are}
use Rattle.queue.proofs.heaps.sift.settle.Goals as goal

pub returns-clause-heap : goal.returns-clause-heap
returns-clause-heap g c = λ entries gaps.
    let found = λ (d : Slot _).
    let up = c.climb-up.ensures.gap d entries c.args.count (gaps d) in
    c.sink-at.ensures.gap d entries up.0 up.1 in
    let d : Slot _ = record { held = c.args.held; place = 0 } in
    let fits : c.args.count ≤ length c.stand.new.slots = omega (arith, (c.stand.ensures d).room) in
    let s = c.sink-at.new.slots in
    let s' = c.stand.new.slots in
    let x = c.args.held in
    let before = g.G.Gauge.earlier in (
      record {
        fits = fits;
        noted = λ e. filled_noted before entries e s c.args.count c.sink-at.result x (found e).0 s' (c.stand.ensures e);
        ordered = λ e. filled_ordered before entries e s c.args.count c.sink-at.result x (found e).0 s' (c.stand.ensures e) (found e).1 (found e).2;
      },
      entries_are d s' c.args.count fits (filled_noted before entries d s c.args.count c.sink-at.result x (found d).0 s' (c.stand.ensures d)) entries
          (filled_listed before entries d s c.args.count c.sink-at.result x (found d).0 s' (c.stand.ensures d))
          (filled_all before entries d s c.args.count c.sink-at.result x (found d).0 s' (c.stand.ensures d)),
    )
