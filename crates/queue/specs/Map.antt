-- What a queue holds is a map from point numbers to entries. These are its changes.
use Rattle.std.specs.Prelude.{ℕ, Bool, cond, ◌&&◌, Some, None, Ok, Err, Option, Result, ◌==◌, nat_lt}
use Rattle.queue.specs.declared.entries.Entry.{Entry}
use Rattle.queue.specs.declared.entries.Held.{Held}
use Rattle.queue.specs.Order.{look}

-- a put is accepted, or hands back a point that is not below the capacity
abbrev pub put_answer : ℕ → ℕ → Result Unit ℕ
put_answer room point = cond (nat_lt point room) (Ok tt) (Err point)

-- the entries after a put: a point below the capacity has the new one, and all others are as before
abbrev pub after_put : {E : Type 0} → ℕ → (ℕ → Option E) → ℕ → E → ℕ → Option E
after_put room entries point entry p = cond (nat_lt point room && p == point) (Some entry) (entries p)

-- the entries without that of the point that was answered, if one was
abbrev pub without : {C : Type 0} → (ℕ → Option (Entry C)) → Option (Held C) → ℕ → Option (Entry C)
without entries None p = entries p
without entries (Some held) p = cond (p == held.point) None (entries p)

-- the entries after a take: that which look answers is gone
abbrev pub after_take : {C : Type 0} → (C → C → Bool) → ℕ → (ℕ → Option (Entry C)) → ℕ → Option (Entry C)
after_take before room entries p = without entries (look before entries room) p
