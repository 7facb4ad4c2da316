-- The words of the defaults.
use Rattle.std.specs.Prelude.{List, [], ◌∷◌, ℕ}

-- the words after a reset but for the pins: no status bit, INT quiet
abbrev pub reset_words : (pins choice id part : ℕ) → List ℕ
reset_words pins choice id part =
    0 ∷ 0 ∷ 0 ∷ 0 ∷ pins ∷ 0 ∷ pins ∷ 0 ∷ 0 ∷ 0 ∷ pins ∷ 0 ∷ 0 ∷ pins ∷ pins ∷ 0 ∷ pins ∷ 0 ∷ 0 ∷ 0 ∷ 1 ∷ 0 ∷ 0 ∷ choice ∷ 0 ∷ id ∷ 0 ∷ part ∷ []
