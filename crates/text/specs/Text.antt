-- Text as bytes: words and lowercase hex digits.
use Rattle.std.specs.Prelude.{◌≡◌, Option, Some, None, Bool, false, true, cond, ◌&&◌, List, [], ◌∷◌, ◌++◌, ℕ, zero, suc, ◌+◌, ◌-◌, ◌*◌, ◌/◌, ◌%◌, ◌≤◌, eqb, leb, ltb, length}
use Rattle.std.proofs.lemmas.List.Edits.{sets}

-- whether the text begins with the word, and whether it is the word
unfoldable pub starts_with : (word text : List ℕ) → Bool
starts_with [] text = true
starts_with (w ∷ word) [] = false
starts_with (w ∷ word) (b ∷ text) = eqb b w && starts_with word text

unfoldable pub is_word : (word text : List ℕ) → Bool
is_word word text = eqb (length text) (length word) && starts_with word text

-- the number that a digit stands for: 0 to 9 are the bytes 30h to 39h, a to f are 61h to 66h; 16 for every other byte
unfoldable pub digit_of : ℕ → ℕ
digit_of b = cond (leb 0x30 b && leb b 0x39) (b - 0x30) (cond (leb 0x61 b && leb b 0x66) (b - 0x57) 16)

-- the number that the digits stand for, highest first, after those that stand for n
unfoldable pub number_of : ℕ → List ℕ → Option ℕ
number_of n [] = Some n
number_of n (b ∷ text) = cond (ltb (digit_of b) 16) (number_of (16 * n + digit_of b) text) None

abbrev pub up_to : (most : ℕ) → Option ℕ → Option ℕ
up_to most (Some n) = cond (leb n most) (Some n) None
up_to most None = None

-- so many digits, no more and no fewer, of a number that is most or less
unfoldable pub field_of : (count most : ℕ) → List ℕ → Option ℕ
field_of count most text = cond (eqb (length text) count) (up_to most (number_of 0 text)) None

-- if they are digits, their number is most or less
pub record Small (most : ℕ) (d : Option ℕ) : Type 0 where
  pub small : (n : ℕ) → d ≡ Some n → n ≤ most

-- the digit of a number below 16
abbrev pub digit_byte : ℕ → ℕ
digit_byte n = cond (ltb n 10) (0x30 + n) (0x57 + n)

-- the lowest digits of n, so many, highest first
unfoldable pub hex_text : (count n : ℕ) → List ℕ
hex_text zero n = []
hex_text (suc count) n = hex_text count (n / 16) ++ (digit_byte (n % 16) ∷ [])

-- what writing a text into out from at on leaves, and where it ends: every other byte stays
pub record Wrote (out : List ℕ) (at : ℕ) (text : List ℕ) (end : ℕ) (left : List ℕ) : Type 0 where
  pub ends : end ≡ at + length text
  pub holds : left ≡ sets out at text
