-- Which places of a heap stand above and below which. This is all that depends on how many stand below each.
use Rattle.std.proofs.Common.{◌≡◌, ℕ, ◌-◌, ◌/◌, ◌<◌, arith}
use Rattle.queue.specs.InHeap.{Below}

pub above_less : (p c : ℕ) → Below p c → p < c
above_less p c b = omega (arith, b.0)

pub above_one : (p q c : ℕ) → Below p c → Below q c → p ≡ q
above_one p q c a b = omega (arith, a.0, a.1, b.0, b.1)

-- every place but the first has one above it
pub has_above : (c : ℕ) → 0 < c → (p : ℕ) × Below p c
has_above c h = ((c - 1) / 2, (omega arith, omega arith))
