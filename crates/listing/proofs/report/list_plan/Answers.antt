use Rattle.std.proofs.Common.{sym, ◌∙◌}
use Rattle.std.proofs.lemmas.Result.{IfOk-weaker}
use Rattle.std.proofs.lemmas.Bool.{cond-true, cond-false}
use Rattle.planfile.specs.File.{is_drive}
use Rattle.listing.proofs.Tellings.{told_printed}
use Rattle.listing.proofs.report.list_plan.Goals as goal

pub returns-then-is_drive : goal.returns-then-is_drive
returns-then-is_drive c =
    IfOk-weaker c.told.result _ _
    (λ s t. told_printed c.list_drive.result _ _ c.list_drive.ensures t ∙ sym (cond-true (is_drive c.args.bytes.now) _ _ (sym c.is_drive.ensures ∙ c.if-is_drive.true)))
    c.told.ensures

pub returns : goal.returns
returns c =
    IfOk-weaker c.told-2.result _ _
    (λ s t. told_printed c.list_cable.result _ _ c.list_cable.ensures t ∙ sym (cond-false (is_drive c.args.bytes.now) _ _ (sym c.is_drive.ensures ∙ c.if-is_drive.false)))
    c.told-2.ensures
