-- The listing of a plan file.
use Rattle.std.specs.Prelude.{ℕ, cond, List, Ok, Err, codes, Result}
use Rattle.fault.specs.declared.file.FileFault.{FileFault}
use Rattle.fault.specs.declared.plan.PlanFault.{PlanFault}
use Rattle.fault.specs.declared.row.Fault.{Fault}
use Rattle.fault.specs.Rows.{file_row, plan_row}
use Rattle.plan.specs.declared.runs.Run.{Run}
use Rattle.plan.specs.Make.{plan_answer, Drawn}
use Rattle.planfile.specs.File.{file_runs, is_drive, points_in}
use Rattle.planfile.specs.Weights.{Weighing, cable_reading, drive_reading, three}
use Rattle.listing.specs.Lines.{refused_text, plan_text}

-- the plan that was made, as text, or why it was refused
abbrev pub plan_listed : {W : Type 0} → (W → List ℕ) → List ℕ → Result (Drawn W) PlanFault → Result (List ℕ) Fault
plan_listed numbers word (Ok plan) = Ok (plan_text numbers word plan.points plan.runs)
plan_listed numbers word (Err e) = Err (plan_row e)

-- the plan over the runs that were read, or why the file was refused
abbrev pub runs_listed : {W : Type 0} → (W → List ℕ) → List ℕ → ℕ → Result (List (Run W)) FileFault → Result (List ℕ) Fault
runs_listed numbers word points (Ok runs) = plan_listed numbers word (plan_answer points runs)
runs_listed numbers word points (Err e) = Err (file_row e)

-- a file of one kind, read into a table of so many places
abbrev pub list_answer : {W : Type 0} → ℕ → Weighing W → (W → List ℕ) → List ℕ → List ℕ → ℕ → Result (List ℕ) Fault
list_answer kind weighed numbers word bs room = runs_listed numbers word (points_in bs) (file_runs kind weighed bs room)

-- a cable file: kind 1
unfoldable pub cable_answer : List ℕ → Result (List ℕ) Fault
cable_answer bs = list_answer 1 cable_reading three (codes "cable") bs 1024

-- a drive file: kind 2
unfoldable pub drive_answer : List ℕ → Result (List ℕ) Fault
drive_answer bs = list_answer 2 drive_reading three (codes "drive") bs 1024

-- the text printed: the listing, or the refusal as line 0
abbrev pub printed : Result (List ℕ) Fault → List ℕ
printed (Ok text) = text
printed (Err fault) = refused_text 0 fault

-- drive if the kind is 2, else cable
abbrev pub list_text : List ℕ → List ℕ
list_text bs = cond (is_drive bs) (printed (drive_answer bs)) (printed (cable_answer bs))
