-- Bytes of a text that are read as one number.
use Rattle.std.specs.Prelude.{List, ℕ, ◌+◌, ◌*◌, get_or}

-- four bytes, the first the lowest
abbrev pub four_at : List ℕ → ℕ → ℕ
four_at s i = get_or s i 0 + 256 * get_or s (i + 1) 0 + 65536 * (get_or s (i + 2) 0 + 256 * get_or s (i + 3) 0)

-- and eight
abbrev pub eight_at : List ℕ → ℕ → ℕ
eight_at s i = four_at s i + 0x100000000 * four_at s (i + 4)
