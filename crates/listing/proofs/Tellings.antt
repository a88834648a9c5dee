-- What is printed of an answer.
use Rattle.std.proofs.Common.{◌≡◌, ℕ, List, Ok, Err, Result, String, sym, ap, ◌∙◌}
use Rattle.fault.specs.declared.row.Fault.{Fault}
use Rattle.listing.specs.declared.cause.Cause.{Cause}
use Rattle.listing.specs.declared.cause.Cause.TheVariants as cause
use Rattle.plan.specs.declared.runs.Run.{Run}
use Rattle.plan.specs.Make.{plan_answer}
use Rattle.planfile.specs.File.{file_runs, points_in}
use Rattle.planfile.specs.Weights.{Weighing}
use Rattle.listing.specs.Outcome.{Answers, Told}
use Rattle.listing.specs.Report.{list_answer, plan_listed, printed, runs_listed}

pub told_printed : {Z : Type 0} (r : Result (String Z) Cause) (answer : Result (List ℕ) Fault) (text : List ℕ) → Answers r answer → Told r text → text ≡ printed answer
told_printed (Ok s) answer text a t = t ∙ sym (ap printed a)
told_printed (Err (cause.File e)) answer text a t = t ∙ sym (ap printed a)
told_printed (Err (cause.Plan e)) answer text a t = t ∙ sym (ap printed a)
told_printed (Err (cause.Memory e)) answer text a t = absurd t

-- the plan over the runs that stand in a table is that of the file
pub table_listed : {W : Type 0} (kind : ℕ) (weighed : Weighing W) (numbers : W → List ℕ) (word bs : List ℕ) (room points : ℕ) (part runs : List (Run W)) →
    file_runs kind weighed bs room ≡ Ok runs → part ≡ runs → points ≡ points_in bs → plan_listed numbers word (plan_answer points part) ≡ list_answer kind weighed numbers word bs room
table_listed kind weighed numbers word bs room points part runs read same p =
    ap (λ xs. plan_listed numbers word (plan_answer points xs)) same
    ∙ ap (λ n. plan_listed numbers word (plan_answer n runs)) p
    ∙ sym (ap (runs_listed numbers word (points_in bs)) read)
