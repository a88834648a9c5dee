use Rattle.std.proofs.Common.{length, Ok, rules}
use Rattle.planfile.specs.File.{file_runs, file_answer, file_table}
use Rattle.planfile.proofs.Means.{answer_readable, answer_placed}
use Rattle.planfile.proofs.reader.read.Goals as goal

pub returns-in_err-header-clause-readable : goal.returns-in_err-header-clause-readable
unfolding file_answer
returns-in_err-header-clause-readable g c =
    answer_readable g.K.Kind.weighed c.args.bytes.now g.K.Kind.number (length c.args.table.now) _ (search rules)

pub returns-in_err-check_weights-clause-readable : goal.returns-in_err-check_weights-clause-readable
unfolding file_answer
returns-in_err-check_weights-clause-readable g c =
    answer_readable g.K.Kind.weighed c.args.bytes.now g.K.Kind.number (length c.args.table.now) _ (search rules)

pub returns-clause-readable : goal.returns-clause-readable
unfolding file_answer
returns-clause-readable g c =
    answer_readable g.K.Kind.weighed c.args.bytes.now g.K.Kind.number (length c.args.table.now) (Ok c.in_ok-header.header) (search rules)

pub returns-clause-placed : goal.returns-clause-placed
unfolding file_runs file_answer file_table
returns-clause-placed g c =
    answer_placed g.K.Kind.weighed c.args.bytes.now g.K.Kind.number c.args.table.now c.fill.new.table (Ok c.in_ok-header.header) (search rules) (search rules)
