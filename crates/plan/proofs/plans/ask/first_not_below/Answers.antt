use Rattle.std.proofs.Common.{ltb, rules}
use Rattle.std.proofs.lemmas.List.Sorted.{IsPartitionPoint-from_clause, IsPartitionedBy-ltb}
use Rattle.plan.proofs.Tails.{first_is, tails_rise}
use Rattle.plan.proofs.plans.ask.first_not_below.Goals as goal

pub returns : goal.returns
returns g c =
    let parted = IsPartitionedBy-ltb (λ r. r.tail) c.args.runs.now c.args.point (tails_rise c.args.runs.now c.requires) in
    first_is c.args.point c.args.runs.now _ c.partition_point.ensures.bound (IsPartitionPoint-from_clause (λ r. ltb r.tail c.args.point) _ _ c.partition_point.ensures.partitioned parted (λ a r q k. search rules))
