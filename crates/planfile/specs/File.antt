-- What a plan file says, and when it is refused.
use Rattle.std.specs.Prelude.{ℕ, zero, suc, ◌+◌, ◌*◌, Bool, false, cond, not, ◌||◌, List, [], ◌∷◌, ◌++◌, length, drop, Ok, Err, Result, ◌==◌, nat_lt}
use Rattle.fault.specs.declared.file.FileFault.{FileFault}
use Rattle.fault.specs.declared.file.FileFault.TheVariants as file
use Rattle.plan.specs.declared.runs.Run.{Run}
use Rattle.planfile.specs.declared.kinds.WeightFault.{WeightFault}
use Rattle.planfile.specs.declared.kinds.WeightFault.TheVariants.{Unmeasured, Class}
use Rattle.planfile.specs.declared.reader.Header.{Header}
use Rattle.planfile.specs.Bytes.{u16le, u32le}
use Rattle.planfile.specs.Weights.{Weighing, and_then}

-- the bytes of a file with r runs: three numbers of two bytes, then per run two ends of two bytes, then per run three weights of four
abbrev pub size : ℕ → ℕ
size r = 6 + 16 * r

-- the number of points, the number of runs and the kind that a file states
abbrev pub points_in : List ℕ → ℕ
points_in bs = u16le bs 0

abbrev pub runs_in : List ℕ → ℕ
runs_in bs = u16le bs 2

abbrev pub kind_in : List ℕ → ℕ
kind_in bs = u16le bs 4

-- the file says that it is a drive plan
abbrev pub is_drive : List ℕ → Bool
is_drive bs = cond (nat_lt (length bs) 6) false (kind_in bs == 2)

-- the refusals of the first six bytes, of the lengths and of the room, in their order
abbrev pub header_answer : ℕ → List ℕ → ℕ → Result Header FileFault
header_answer kind bs room =
    cond (nat_lt (length bs) 6) (Err (file.Short (length bs)))
    (cond (nat_lt (points_in bs) 1 || nat_lt 256 (points_in bs)) (Err (file.Points (points_in bs)))
    (cond (nat_lt 1024 (runs_in bs)) (Err (file.Runs (runs_in bs)))
    (cond (not (kind_in bs == kind)) (Err (file.Kind (kind_in bs)))
    (cond (nat_lt (length bs) (size (runs_in bs))) (Err (file.Short (length bs)))
    (cond (nat_lt (size (runs_in bs)) (length bs)) (Err (file.Long (size (runs_in bs))))
    (cond (nat_lt room (runs_in bs)) (Err (file.Table (runs_in bs)))
    (Ok (record { points = points_in bs; runs = runs_in bs }))))))))

-- the refusal of a file whose run k has a weight with this fault
abbrev pub fault_at : ℕ → WeightFault → FileFault
fault_at k Unmeasured = file.Unmeasured k
fault_at k Class = file.Class k

-- run k with its weight, or the fault of its weight
abbrev pub run_with : {W : Type 0} → ℕ → ℕ → ℕ → Result W WeightFault → Result (Run W) FileFault
run_with k tail head (Ok w) = Ok (record { tail = tail; head = head; weight = w })
run_with k tail head (Err fault) = Err (fault_at k fault)

-- what the three numbers of run k of r stand for: the weights of all runs stand after the ends of all runs
abbrev pub weight_at : {W : Type 0} → Weighing W → List ℕ → ℕ → ℕ → Result W WeightFault
weight_at weighed bs r k =
    weighed (u32le bs (6 + 4 * r + 12 * k)) (u32le bs (6 + 4 * r + 12 * k + 4)) (u32le bs (6 + 4 * r + 12 * k + 8))

-- run k of r: the ends of all runs stand first
abbrev pub run_at : {W : Type 0} → Weighing W → List ℕ → ℕ → ℕ → Result (Run W) FileFault
run_at weighed bs r k =
    run_with k (u16le bs (6 + 4 * k)) (u16le bs (6 + 4 * k + 2)) (weight_at weighed bs r k)

-- n runs from number k on, or the fault of the first that is refused
abbrev pub runs_from : {W : Type 0} → Weighing W → List ℕ → ℕ → ℕ → ℕ → Result (List (Run W)) FileFault
runs_from weighed bs r zero k = Ok []
runs_from weighed bs r (suc n) k = and_then (run_at weighed bs r k) (λ x. and_then (runs_from weighed bs r n (k + 1)) (λ xs. Ok (x ∷ xs)))

-- whether something was refused, and nothing else
abbrev pub done : {A E : Type 0} → Result A E → Result Unit E
done (Ok x) = Ok tt
done (Err e) = Err e

-- the table with runs in its first places, or as it was after a refusal
abbrev pub filled : {W : Type 0} → Result (List (Run W)) FileFault → List (Run W) → List (Run W)
filled (Ok runs) table = runs ++ drop (length runs) table
filled (Err e) table = table

-- the runs of a file that is read into a table of so many places
unfoldable pub file_runs : {W : Type 0} → ℕ → Weighing W → List ℕ → ℕ → Result (List (Run W)) FileFault
file_runs kind weighed bs room = and_then (header_answer kind bs room) (λ h. runs_from weighed bs h.runs h.runs 0)

-- what reading answers
unfoldable pub file_answer : {W : Type 0} → ℕ → Weighing W → List ℕ → ℕ → Result Header FileFault
file_answer kind weighed bs room =
    and_then (header_answer kind bs room) (λ h. and_then (done (runs_from weighed bs h.runs h.runs 0)) (λ _. Ok h))

-- what the table then holds
unfoldable pub file_table : {W : Type 0} → ℕ → Weighing W → List ℕ → List (Run W) → List (Run W)
file_table kind weighed bs table = filled (file_runs kind weighed bs (length table)) table
