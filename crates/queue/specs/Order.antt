-- Which entry of a queue goes first: by cost in listing order (before), then by lower point.
use Rattle.std.specs.Prelude.{◌≡◌, ℕ, zero, suc, Bool, false, cond, not, ◌&&◌, ◌||◌, Some, None, Option, nat_lt}
use Rattle.queue.specs.declared.entries.Entry.{Entry}
use Rattle.queue.specs.declared.entries.Held.{Held}

-- a goes before b: its cost comes before, or neither cost does and its point is lower
abbrev pub ahead : {C : Type 0} → (C → C → Bool) → Held C → Held C → Bool
ahead before a b =
    before a.entry.cost b.entry.cost ||
    (not (before b.entry.cost a.entry.cost) && nat_lt a.point b.point)

-- the entry of a point above those seen, if its cost comes before that of the first so far, or else the first so far
abbrev pub nearer : {C : Type 0} → (C → C → Bool) → ℕ → Option (Entry C) → Option (Held C) → Option (Held C)
nearer before p None first = first
nearer before p (Some e) None = Some (record { point = p; entry = e })
nearer before p (Some e) (Some f) = cond (before e.cost f.entry.cost) (Some (record { point = p; entry = e })) (Some f)

-- the first of the entries of the points below a number
abbrev pub look : {C : Type 0} → (C → C → Bool) → (ℕ → Option (Entry C)) → ℕ → Option (Held C)
look before entries zero = None
look before entries (suc p) = nearer before p (entries p) (look before entries p)

-- the same in words: an entry that is held and that no entry goes before, or none where none is held
pub record Leads {C : Type 0} (before : C → C → Bool) (entries : ℕ → Option (Entry C)) (first : Held C) : Type 0 where
  pub there : entries first.point ≡ Some first.entry
  pub unbeaten : (p : ℕ) (e : Entry C) → entries p ≡ Some e → ahead before (record { point = p; entry = e }) first ≡ false

abbrev pub First : {C : Type 0} → (C → C → Bool) → (ℕ → Option (Entry C)) → Option (Held C) → Type 0
First before entries None = (p : ℕ) → entries p ≡ None
First before entries (Some first) = Leads before entries first
