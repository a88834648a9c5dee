-- The number and the word of each kind of plan file.
use Rattle.std.specs.Prelude.{◌≡◌, ◌≢◌, ℕ, List, Result, MatchResult, codes}
use Rattle.planfile.specs.declared.plan_kind.PlanKind.{PlanKind}
use Rattle.planfile.specs.declared.plan_kind.PlanKind.TheVariants.{Cable, Drive}
use Rattle.planfile.specs.declared.plan_kind.UnknownKind.{UnknownKind}

-- the number that stands in a file of that kind
abbrev pub number_of : PlanKind → ℕ
number_of Cable = 1
number_of Drive = 2

-- n is the number of the kind
abbrev pub IsNumberOf : PlanKind → ℕ → Type 0
IsNumberOf kind n = n ≡ number_of kind

-- the result is the kind with number n, or an error with a number that no kind has
abbrev pub Numbered : ℕ → Result PlanKind UnknownKind → Type 0
Numbered n r = MatchResult r (λ kind. number_of kind ≡ n) (λ e. (e.0 ≡ n) × (n ≢ number_of Cable) × (n ≢ number_of Drive))

-- the word that a listing has for files of that kind
abbrev pub word_of : PlanKind → List ℕ
word_of Cable = codes "cable"
word_of Drive = codes "drive"
