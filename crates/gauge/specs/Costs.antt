-- Costs that are one number up to a limit: totals and classes.
use Rattle.std.specs.Prelude.{ℕ, cond, Some, None, Option, nat_le}

-- the number, or none if it passes the limit; it may equal it
abbrev pub within : ℕ → ℕ → Option ℕ
within limit n = cond (nat_le n limit) (Some n) None
