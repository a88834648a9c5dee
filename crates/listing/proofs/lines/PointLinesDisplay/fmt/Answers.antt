use Rattle.std.proofs.Common.{sym, rules}
use Rattle.std.proofs.Output.{has_written_append, has_written_of_eq}
use Rattle.listing.proofs.Steps.{runs_more}
use Rattle.listing.proofs.lines.PointLinesDisplay.fmt.Goals as goal

pub loop-i-preserved : goal.loop-i-preserved
loop-i-preserved g c plain =
    has_written_of_eq _ _ _ _ _ (sym (runs_more g.K.Kind.numbers c.args.self.now.first c.loop-i.i c.args.self.now.runs.now c.run-item.result c.loop-i-test.true c.run-item.is))
    (has_written_append _ _ _ _ _ _ (c.loop-i.invariant plain) (search rules))
