use Rattle.std.proofs.Common.{◌≡◌, length, sym, ◌∙◌, subst, rules}
use Rattle.std.proofs.lemmas.Iterator.{YieldsList-from_slice, YieldsList-from_take}
use Rattle.std.proofs.lemmas.Iterator.Consumers.{YieldsList-from_enumerate, YieldsList-from_filter_map, YieldsList-at}
use Rattle.queue.specs.InRow.{row_entries, row_held, first_of_two}
use Rattle.queue.specs.Within.{row_within}
use Rattle.queue.specs.Order.{First, look}
use Rattle.queue.proofs.Looks.{look_first}
use Rattle.queue.proofs.RowPlaces.{reduced, points_look}
use Rattle.queue.proofs.rows.RowQueue.look.Goals as goal

pub returns : goal.returns
returns g c = record { answer = λ _. answer; first = λ _. subst (First g.G.Gauge.earlier (row_entries c.args.self.now.places.now)) (sym answer) (look_first _ g.G.Gauge.earlier g.met.G.Gauge.compares (row_entries c.args.self.now.places.now) (length c.args.self.now.places.now) (row_within c.args.self.now.places.now)) }
  where
    answer : c.reduce.result ≡ look g.G.Gauge.earlier (row_entries c.args.self.now.places.now) (length c.args.self.now.places.now)
    answer = reduced _ (first_of_two g.G.Gauge.earlier) _ c.reduce.ensures.runs (λ x y r q k. search rules)
        (YieldsList-from_filter_map _ (λ p. row_held p.0 p.1) (YieldsList-at c.filter_map.ensures.source (YieldsList-from_enumerate (YieldsList-at c.enumerate.ensures.source (YieldsList-from_take 65536 (YieldsList-at c.take.ensures.source (YieldsList-from_slice c.args.self.now.places.now (cc))) c.take.ensures.count)) c.enumerate.ensures.count)) c.filter_map.ensures.closure (λ x r q k. search rules)) ∙ points_look g.G.Gauge.earlier c.args.self.now.places.now
