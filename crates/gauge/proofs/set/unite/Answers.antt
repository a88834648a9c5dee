use Rattle.std.proofs.Common.{refl}
use Rattle.gauge.specs.LawProofs.Zones.{or_unites, or_least}
use Rattle.gauge.proofs.set.unite.Goals as goal

pub returns : goal.returns
returns c = record { result = refl; zones = or_unites c.args.a c.args.b; least = or_least c.args.a c.args.b }
