use Rattle.std.proofs.Common.{◌≡◌, length, take, sym, ap, ◌∙◌, subst, arith}
use Rattle.std.proofs.lemmas.List.{length-take-le}
use Rattle.std.proofs.lemmas.Result.{err_from_is_err_and}
use Rattle.planfile.proofs.Told.{refused_runs, accepted_runs, table_runs}
use Rattle.planfile.specs.File.{file_table, points_in}
use Rattle.planfile.specs.Kinds.{word_of}
use Rattle.listing.specs.Outcome.{Answers}
use Rattle.listing.specs.Report.{runs_listed}
use Rattle.listing.proofs.Tellings.{table_listed}
use Rattle.listing.proofs.report.list_in.Goals as goal

pub returns-in_err-header : goal.returns-in_err-header
returns-in_err-header g c =
    let p = err_from_is_err_and c.from_residual.result c.from_residual.ensures.1 in
    let runs = refused_runs g.K.Kind.weighed c.args.bytes.now g.K.Kind.number (length c.args.table.now) c.in_err-header.field-0.0 (sym c.in_err-header.ensures.answer) in
    rw (p.1, p.2) (ap (runs_listed g.K.Kind.numbers (word_of g.K.Listed.kind) (points_in c.args.bytes.now)) runs)

pub slice_bounds-list_runs-end : goal.slice_bounds-list_runs-end
slice_bounds-list_runs-end g c =
    let read = accepted_runs g.K.Kind.weighed c.args.bytes.now g.K.Kind.number (length c.args.table.now) c.in_ok-header.header (sym c.in_ok-header.ensures.answer) in
    omega (arith, read.4)

pub slice_bounds-list_runs-end-2 : goal.slice_bounds-list_runs-end-2
slice_bounds-list_runs-end-2 g c =
    let read = accepted_runs g.K.Kind.weighed c.args.bytes.now g.K.Kind.number (length c.args.table.now) c.in_ok-header.header (sym c.in_ok-header.ensures.answer) in
    sym (length-take-le c.in_ok-header.header.runs c.read.new.table (omega (arith, read.4)))

pub returns : goal.returns
returns g c =
    let read = accepted_runs g.K.Kind.weighed c.args.bytes.now g.K.Kind.number (length c.args.table.now) c.in_ok-header.header (sym c.in_ok-header.ensures.answer) in
    let part = table_runs g.K.Kind.weighed c.args.bytes.now g.K.Kind.number c.args.table.now read.0 read.1 in
    let here : take c.in_ok-header.header.runs c.read.new.table ≡ read.0 =
    ap (take c.in_ok-header.header.runs) c.in_ok-header.ensures.after
    ∙ ap (λ n. take n (file_table g.K.Kind.number g.K.Kind.weighed c.args.bytes.now c.args.table.now)) (sym read.2) ∙ part in
    subst (λ a. Answers c.list_runs.result a)
    (table_listed g.K.Kind.number g.K.Kind.weighed g.K.Kind.numbers (word_of g.K.Listed.kind) c.args.bytes.now (length c.args.table.now) c.in_ok-header.header.points (take c.in_ok-header.header.runs c.read.new.table) read.0 read.1 here read.3)
    c.list_runs.ensures
