use Rattle.queue.proofs.Views.{stood_is}
use Rattle.queue.proofs.heaps.slots.stand.Goals as goal

pub returns : goal.returns
returns g c = λ d. stood_is d c.args.slots.now c.args.at c.args.held c.index-slots-at.result _ c.requires (c.note.ensures d)
