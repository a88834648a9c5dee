use Rattle.std.proofs.Common.{◌≡◌, ◌+◌, ◌++◌, length, sym, ap, ◌∙◌, rules, arith}
use Rattle.std.proofs.Output.{has_written_append, has_written_of_eq}
use Rattle.std.proofs.lemmas.Bool.Decides.{nat_tests}
use Rattle.plan.specs.Leave.{first_from, leaving_part}
use Rattle.listing.specs.Lines.{point_line, point_text, points_text, runs_text}
use Rattle.listing.proofs.Steps.{points_more}
use Rattle.listing.proofs.lines.ListingDisplay.fmt.Goals as goal

pub loop-point-preserved : goal.loop-point-preserved
loop-point-preserved g c plain =
    let runs = c.args.self.now.plan.now.runs.now in
    let point = c.loop-point.point in
    let numbers = g.K.Kind.numbers in
    let part : c.unwrap-runs.result.now ≡ leaving_part point runs = let answer = c.leaving.ensures.answer in grind (arith, nat_tests) in
    let text : points_text numbers runs (point + 1) 0 ≡ points_text numbers runs point 0 ++ (point_line point (length c.unwrap-runs.result.now) ++ runs_text numbers c.first_from-first.result c.unwrap-runs.result.now) =
    let here : 0 + point ≡ point = omega arith in
    points_more numbers runs point 0
    ∙ ap (λ p. points_text numbers runs point 0 ++ point_text numbers runs p) here
    ∙ ap (λ xs. points_text numbers runs point 0 ++ (point_line point (length xs) ++ runs_text numbers (first_from point runs) xs)) (sym part)
    ∙ ap (λ n. points_text numbers runs point 0 ++ (point_line point (length c.unwrap-runs.result.now) ++ runs_text numbers n c.unwrap-runs.result.now)) (sym c.first_from-first.ensures) in
    has_written_of_eq _ _ _ _ _ (sym text)
    (has_written_append _ _ _ _ _ _ (c.loop-point.invariant plain) (search rules))
