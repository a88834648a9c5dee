use Rattle.plan.proofs.Tails.{rest_in_order}
use Rattle.plan.proofs.plans.ask.first_not_below_from.Goals as goal

pub first_not_below-requires : goal.first_not_below-requires
first_not_below-requires g c = rest_in_order c.args.from c.args.runs.now c.requires.ordered
