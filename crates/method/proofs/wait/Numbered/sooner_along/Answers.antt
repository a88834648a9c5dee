use Rattle.std.proofs.Common.{rules, ◌∙◌, arith}
use borrow.Author.Tests.{tests}
use Rattle.std.proofs.lemmas.Iterator.Consumers.{YieldsList-from_filter_map, fold_from_yields_List, YieldsList-at}
use Rattle.method.specs.Tasks as tasks
use Rattle.method.specs.Candidates.{extended}
use Rattle.method.proofs.Turns.{YieldsList-numbered, fold_labels, or_open}
use Rattle.method.proofs.wait.Numbered.sooner_along.Goals as goal

pub returns : goal.returns
returns g c =
    let ρ = tasks.rules g.G.Gauge c.args.self.now.gauge.now in
    let ls = c.args.self.now.labels.now in
    let k = c.args.number in
    let r = c.args.run.now in
    fold_from_yields_List _ (or_open ρ ls r.head) c.args.best c.fold.result c.fold.ensures.ran
    (YieldsList-from_filter_map _ (λ p. extended ρ.along p.0 p.1 k r)
    (YieldsList-at c.filter_map.ensures.source (YieldsList-numbered ls c.zip.ensures.first c.zip.ensures.second.0 (omega arith)))
    c.filter_map.ensures.closure (λ x q f h. search (rules, tests)))
    (λ a x b q h. search (rules, tests))
    ∙ fold_labels ρ g.met.G.Gauge.compares ls k r 0 ls c.args.best
