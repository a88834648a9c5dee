use Rattle.std.proofs.Common.{rules, eqb, refl, ◌∙◌, sym, subst, arith}
use borrow.Author.Tests.{tests}
use Rattle.std.proofs.lemmas.Iterator.Consumers.{YieldsList-from_filter, fold_from_yields_List, YieldsList-at}
use Rattle.method.specs.Tasks as tasks
use Rattle.method.specs.Links.{counted}
use Rattle.method.specs.Waiting.{Waits}
use Rattle.method.proofs.Turns.{YieldsList-numbered, fold_runs, or_along}
use Rattle.method.proofs.Waited.{waits}
use Rattle.method.proofs.wait.waiting_entry.Goals as goal

pub returns : goal.returns
returns g c =
    let t = tasks.task c.args.plan.now c.args.source (tasks.rules g.G.Gauge c.args.gauge.now) in
    let laws = g.met.G.Gauge.compares in
    let ρ = tasks.rules g.G.Gauge c.new-numbered.result.gauge.now in
    let ls = c.new-numbered.result.labels.now in
    let found = fold_from_yields_List _ (or_along ρ ls) c.open_start-start.result c.fold.result c.fold.ensures.ran
    (YieldsList-from_filter _ (λ p. eqb p.1.head c.args.point)
    (YieldsList-at c.filter.ensures.source (YieldsList-numbered t.runs c.zip.ensures.first (c.zip.ensures.second.0 ∙ c.runs.ensures) (omega arith)))
    c.filter.ensures.closure (λ x b q h. search (rules, tests)))
    (λ a x b q h. search (rules, tests)) in
    let is = found ∙ fold_runs ρ laws ls c.args.point 0 t.runs c.open_start-start.result ∙ rw (c.open_start-start.ensures, c.new-numbered.ensures.labels, c.new-numbered.ensures.gauge) refl in
    record {
      answer = is;
      waits = subst (Waits t (counted c.args.labels.now) c.args.point) (sym is) (waits t laws (counted c.args.labels.now) c.args.point);
    }
