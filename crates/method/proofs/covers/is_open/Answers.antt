use Rattle.std.proofs.Common.{rules, ◌&&◌, ◌==◌, not, ap, ◌∙◌}
use borrow.Author.Tests.{tests}
use Rattle.std.proofs.lemmas.Iterator.{YieldsList-from_slice}
use Rattle.std.proofs.lemmas.Iterator.Search.{any_from_yields_List}
use Rattle.method.proofs.Cover.{open_decides, open_none}
use Rattle.method.proofs.covers.is_open.Goals as goal

pub returns : goal.returns
returns g c =
    let nw = g.G.Gauge.no_worse in
    let found = any_from_yields_List (λ l. l.point == c.args.point && nw l.cost c.args.cost) _ _ c.any.result c.any.ensures.ran (YieldsList-from_slice c.args.labels.now cc) (λ x b q k. search (rules, tests)) in
    let is = ap not found ∙ open_none nw c.args.labels.now c.args.point c.args.cost in
    record { result = is; means = rw is (open_decides nw c.args.labels.now c.args.point c.args.cost) }
