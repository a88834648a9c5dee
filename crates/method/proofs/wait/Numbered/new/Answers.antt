use Rattle.std.proofs.lemmas.List.{take_min}
use Rattle.method.proofs.wait.Numbered.new.Goals as goal

pub returns-clause-labels : goal.returns-clause-labels
returns-clause-labels g c = rw c.min.ensures (take_min 4096 c.args.labels.now)
