-- Texts that come in pieces.
use Rattle.std.specs.Prelude.{◌≡◌, cond, List, [], ◌∷◌, ◌++◌, ℕ, suc, ◌+◌, ◌<◌, ◌≤◌, eqb, ltb, length, take, drop}

-- where the first newline stands, or the length
unfoldable pub newline_at : List ℕ → ℕ
newline_at [] = 0
newline_at (b ∷ piece) = cond (eqb b 0x0a) 0 (suc (newline_at piece))

-- how much of a piece its first line takes, with its newline
unfoldable pub taken_of : List ℕ → ℕ
taken_of piece = cond (ltb (newline_at piece) (length piece)) (newline_at piece + 1) (length piece)

-- The first line of a piece: how many bytes of it are there, and how many the piece gives up for it. Its newline is among these, or is not there yet.
pub record First (piece : List ℕ) (len taken : ℕ) : Type 0 where
  pub ends : len ≡ newline_at piece
  pub takes : taken ≡ taken_of piece
  pub inside : len ≤ length piece
  pub within : taken ≤ length piece
  pub some : 0 < length piece → 0 < taken
  pub unended : taken ≤ len → length piece ≤ len
  pub ended : len < taken → len < length piece

-- of a memory whose first len bytes are in use, what is in use after a part is added: as much of it as there is room for; the bytes past it stay
pub record Kept (held : List ℕ) (len : ℕ) (part : List ℕ) (end : ℕ) (left : List ℕ) : Type 0 where
  pub long : length left ≡ length held
  pub small : end ≤ length held
  pub kept : take end left ≡ take (length held) (take len held ++ part)
  pub past : drop end left ≡ drop end held
