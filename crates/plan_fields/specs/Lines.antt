-- What a line says: a start, a tab and a goal, in lowercase hex digits, two for a byte. Lines are given without their newline.
use Rattle.std.specs.Prelude.{Bool, true, false, cond, ◌&&◌, ◌||◌, List, [], ◌∷◌, ◌++◌, ℕ, ◌+◌, ◌*◌, eqb, ltb}
use Rattle.text.specs.Text.{digit_of, hex_text}

-- ---- the line, parted by its first tab
unfoldable pub has_tab : List ℕ → Bool
has_tab [] = false
has_tab (b ∷ line) = eqb b 0x09 || has_tab line

unfoldable pub before_tab : List ℕ → List ℕ
before_tab [] = []
before_tab (b ∷ line) = cond (eqb b 0x09) [] (b ∷ before_tab line)

unfoldable pub after_tab : List ℕ → List ℕ
after_tab [] = []
after_tab (b ∷ line) = cond (eqb b 0x09) line (after_tab line)

-- ---- pairs of digits
abbrev pub is_digit : ℕ → Bool
is_digit b = ltb (digit_of b) 16

-- digits, an even number of them, and nothing else
unfoldable pub in_pairs : List ℕ → Bool
in_pairs [] = true
in_pairs (a ∷ []) = false
in_pairs (a ∷ b ∷ s) = (is_digit a && is_digit b) && in_pairs s

-- the bytes that they stand for
unfoldable pub bytes_in : List ℕ → List ℕ
bytes_in [] = []
bytes_in (a ∷ []) = []
bytes_in (a ∷ b ∷ s) = (16 * digit_of a + digit_of b) ∷ bytes_in s

-- bytes as a line says them
unfoldable pub spelled : (bytes : List ℕ) → List ℕ
spelled [] = []
spelled (b ∷ bytes) = hex_text 2 b ++ spelled bytes

-- ---- the line: two fields of pairs, of however many, and the settings that they say
abbrev pub readable : (line : List ℕ) → Bool
readable line = has_tab line && (in_pairs (before_tab line) && in_pairs (after_tab line))

abbrev pub start_in : (line : List ℕ) → List ℕ
start_in line = bytes_in (before_tab line)

abbrev pub goal_in : (line : List ℕ) → List ℕ
goal_in line = bytes_in (after_tab line)
