-- What a row holds.
use Rattle.std.specs.Prelude.{ℕ, Bool, cond, List, Some, None, Option, nat_lt, slice_index_or}
use Rattle.queue.specs.declared.entries.Entry.{Entry}
use Rattle.queue.specs.declared.entries.Held.{Held}

-- the entry of point p is what stands at place p; point numbers are below 65,536
abbrev pub row_entries : {E : Type 0} → List (Option E) → ℕ → Option E
row_entries places p = cond (nat_lt p 65536) (slice_index_or places p None) None

-- an entry with its point, if there is one
abbrev pub held_of : {C : Type 0} → ℕ → Option (Entry C) → Option (Held C)
held_of p None = None
held_of p (Some e) = Some (record { point = p; entry = e })

-- what stands at place p, with its point
abbrev pub row_held : {C : Type 0} → ℕ → Option (Entry C) → Option (Held C)
row_held p place = cond (nat_lt p 65536) (held_of p place) None

-- of two entries the second if its cost comes before, or else the first
abbrev pub first_of_two : {C : Type 0} → (C → C → Bool) → Held C → Held C → Held C
first_of_two before first next = cond (before next.entry.cost first.entry.cost) next first
