-- The table of refusals: the layer, number and place of every fault. Printed refusals and promises rest on it.
use Rattle.std.specs.Prelude.{ℕ, List, ◌++◌, codes, decimal}
use Rattle.fault.specs.declared.row.Fault.{Fault}
use Rattle.fault.specs.declared.file.FileFault.{FileFault}
use Rattle.fault.specs.declared.file.FileFault.TheVariants as file
use Rattle.fault.specs.declared.plan.PlanFault.{PlanFault}
use Rattle.fault.specs.declared.plan.PlanFault.TheVariants as plan
use Rattle.fault.specs.declared.limit.LimitFault.{LimitFault}
use Rattle.fault.specs.declared.limit.LimitFault.TheVariants as limit

-- a row of the table: layer, number, place
abbrev pub row : ℕ → ℕ → ℕ → Fault
row layer number place = record { layer = layer; number = number; place = place }

-- layer 1, reading a file
abbrev pub file_row : FileFault → Fault
file_row (file.Short bytes) = row 1 1 bytes
file_row (file.Points points) = row 1 2 points
file_row (file.Runs runs) = row 1 3 runs
file_row (file.Kind kind) = row 1 4 kind
file_row (file.Long bytes) = row 1 5 bytes
file_row (file.Table runs) = row 1 6 runs
file_row (file.Unmeasured run) = row 1 7 run
file_row (file.Class run) = row 1 8 run

-- layer 2, making a plan
abbrev pub plan_row : PlanFault → Fault
plan_row (plan.Points points) = row 2 2 points
plan_row (plan.Runs runs) = row 2 3 runs
plan_row (plan.End run) = row 2 9 run
plan_row (plan.Order run) = row 2 10 run
plan_row (plan.Point point) = row 2 17 point

-- layer 3, setting limits
abbrev pub limit_row : LimitFault → Fault
limit_row (limit.Limit part) = row 3 11 part

-- a row as it is printed: layer, number and place, parted by one space
abbrev pub fault_text : Fault → List ℕ
fault_text fault = decimal fault.layer ++ (codes " " ++ (decimal fault.number ++ (codes " " ++ decimal fault.place)))
