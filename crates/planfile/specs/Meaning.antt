-- What reading a plan file means, without the order of its tests: which files are read, and what the run table then holds.
use Rattle.std.specs.Prelude.{◌≡◌, ℕ, ◌+◌, ◌*◌, ◌<◌, ◌≤◌, true, List, length, is_ok, Some, Ok, Err, Result}
use Rattle.std.specs.List.{slice_get}
use Rattle.fault.specs.declared.file.FileFault.{FileFault}
use Rattle.plan.specs.declared.runs.Run.{Run}
use Rattle.planfile.specs.declared.reader.Header.{Header}
use Rattle.planfile.specs.Bytes.{u16le}
use Rattle.planfile.specs.Weights.{Weighing}
use Rattle.planfile.specs.File.{kind_in, points_in, runs_in, weight_at}

-- the files that are read: counts in range, the kind asked for, just the bytes that the runs need, room for them, and a weight for each
pub record Readable {W : Type 0} (kind : ℕ) (weighed : Weighing W) (bs : List ℕ) (room : ℕ) : Type 0 where
  pub counts : 6 ≤ length bs
  pub some_point : 1 ≤ points_in bs
  pub few_points : points_in bs ≤ 256
  pub few_runs : runs_in bs ≤ 1024
  pub right_kind : kind_in bs ≡ kind
  pub whole : length bs ≡ 6 + 16 * runs_in bs
  pub fits : runs_in bs ≤ room
  pub weights : (k : ℕ) → k < runs_in bs → is_ok (weight_at weighed bs (runs_in bs) k) ≡ true

-- x is run k of a file with r runs
pub record Stands {W : Type 0} (weighed : Weighing W) (bs : List ℕ) (r k : ℕ) (x : Run W) : Type 0 where
  pub tail : x.tail ≡ u16le bs (6 + 4 * k)
  pub head : x.head ≡ u16le bs (6 + 4 * k + 2)
  pub weight : weight_at weighed bs r k ≡ Ok x.weight

-- after an accepted file each run stands at the place of its number, and the places past them are as before;
-- after a refusal all places are as before
abbrev pub Placed : {W : Type 0} → Weighing W → List ℕ → Result Header FileFault → List (Run W) → List (Run W) → Type 0
Placed {W} weighed bs (Ok h) before after =
    ((k : ℕ) → k < h.runs → (x : Run W) × (slice_get after k ≡ Some x) × Stands weighed bs h.runs k x)
    × ((k : ℕ) → h.runs ≤ k → slice_get after k ≡ slice_get before k)
Placed weighed bs (Err e) before after = after ≡ before
