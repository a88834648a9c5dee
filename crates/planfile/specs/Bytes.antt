-- Numbers of two and four bytes, the low byte first.
use Rattle.std.specs.Prelude.{ℕ, ◌+◌, ◌*◌, List, slice_index}

-- the two bytes at a place
abbrev pub u16le : List ℕ → ℕ → ℕ
u16le bs at = slice_index bs at + slice_index bs (at + 1) * 256

-- the four bytes at a place
abbrev pub u32le : List ℕ → ℕ → ℕ
u32le bs at = slice_index bs at + slice_index bs (at + 1) * 256 + slice_index bs (at + 2) * 65536 + slice_index bs (at + 3) * 16777216
