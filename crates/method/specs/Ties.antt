-- Which of two entries of one point goes first: by cost in listing order (before), then by the rule for ties.
use Rattle.std.specs.Prelude.{ℕ, Bool, true, false, cond, not, ◌&&◌, ◌||◌, Some, None, Option, nat_lt}
use Rattle.queue.specs.declared.entries.Entry.{Entry}

-- none goes before any number, and a lower number before a higher one
abbrev pub lower : Option ℕ → Option ℕ → Bool
lower None None = false
lower None (Some b) = true
lower (Some a) None = false
lower (Some a) (Some b) = nat_lt a b

-- the rule for ties: the lower from goes first, and then the lower run
abbrev pub wins_tie : {C : Type 0} → Entry C → Entry C → Bool
wins_tie a b = lower a.from b.from || (not (lower b.from a.from) && lower a.run b.run)

-- a goes before b: its cost comes before, or neither cost does and it wins the tie
abbrev pub sooner : {C : Type 0} → (C → C → Bool) → Entry C → Entry C → Bool
sooner before a b = before a.cost b.cost || (not (before b.cost a.cost) && wins_tie a b)

-- the sooner of two entries, where there are two
abbrev pub sooner_of : {C : Type 0} → (C → C → Bool) → Option (Entry C) → Option (Entry C) → Option (Entry C)
sooner_of before None b = b
sooner_of before (Some a) None = Some a
sooner_of before (Some a) (Some b) = cond (sooner before b a) (Some b) (Some a)

-- an entry is sooner than the best so far, or there is none
abbrev pub improves_on : {C : Type 0} → (C → C → Bool) → Entry C → Option (Entry C) → Bool
improves_on before e None = true
improves_on before e (Some best) = sooner before e best
