-- What a result says of a defined answer, where memory may fail.
use Rattle.std.specs.Prelude.{◌≡◌, ℕ, List, Ok, Err, string_bytes, Result, String}
use Rattle.fault.specs.declared.row.Fault.{Fault}
use Rattle.fault.specs.Rows.{file_row, plan_row}
use Rattle.listing.specs.declared.cause.Cause.{Cause}
use Rattle.listing.specs.declared.cause.Cause.TheVariants as cause
use Rattle.listing.specs.Lines.{refused_text}

-- r is the answer, or says that there was no memory
abbrev pub Answers : {Z : Type 0} → Result (String Z) Cause → Result (List ℕ) Fault → Type 0
Answers (Ok s) answer = answer ≡ Ok (string_bytes s)
Answers (Err (cause.File e)) answer = answer ≡ Err (file_row e)
Answers (Err (cause.Plan e)) answer = answer ≡ Err (plan_row e)
Answers (Err (cause.Memory e)) answer = Unit {0}

-- the text says what r says; no text says that there was no memory
abbrev pub Told : {Z : Type 0} → Result (String Z) Cause → List ℕ → Type 0
Told (Ok s) text = text ≡ string_bytes s
Told (Err (cause.File e)) text = text ≡ refused_text 0 (file_row e)
Told (Err (cause.Plan e)) text = text ≡ refused_text 0 (plan_row e)
Told (Err (cause.Memory e)) text = ⊥
