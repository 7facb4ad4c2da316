-- The fields of a line of the probe program, which is given without its newline.
use Rattle.std.specs.Prelude.{unwrap_or, Bool, true, false, cond, ◌&&◌, List, [], ◌∷◌, ◌++◌, ℕ, zero, suc, ◌+◌, ◌-◌, ◌^◌, eqb, ltb, get_or, take, drop, replicate}
use Rattle.text.specs.Text.{digit_of, field_of}

-- the digits of each field: registers; level, reference, held, edge; pointer, bus state, address choice; status, line; mode; the Device ID's number and place; an event's kind and argument
abbrev pub widths : List ℕ
widths = 256 ∷ 16 ∷ 16 ∷ 16 ∷ 16 ∷ 2 ∷ 2 ∷ 2 ∷ 16 ∷ 2 ∷ 2 ∷ 8 ∷ 2 ∷ 8 ∷ 16 ∷ []

-- the bytes of fields by their places, true for a tab and false for a digit: a tab, the first field's digits, a tab, and so on
unfoldable pub form : List ℕ → List Bool
form [] = []
form (w ∷ ws) = true ∷ replicate w false ++ form ws

-- whether the bytes are of this form: tabs and lowercase hex digits at their places, no more and no fewer
unfoldable pub has_form : List Bool → List ℕ → Bool
has_form [] [] = true
has_form [] (b ∷ line) = false
has_form (t ∷ ts) [] = false
has_form (t ∷ ts) (b ∷ line) = cond t (eqb b 0x09) (ltb (digit_of b) 16) && has_form ts line

-- no tab stands before the first field
abbrev pub line_form : List Bool
line_form = drop 1 (form widths)

abbrev pub readable : (line : List ℕ) → Bool
readable line = has_form line_form line

-- ---- the numbers of a readable line, all of whose fields are digits (`field_says`)
-- the number of so many digits from a place on
abbrev pub number_at : (line : List ℕ) → (at width : ℕ) → ℕ
number_at line at width = unwrap_or (field_of width (16 ^ width - 1) (take width (drop at line))) 0

-- so many bytes from a place on, two digits each
unfoldable pub bytes_at : (line : List ℕ) → (at count : ℕ) → List ℕ
bytes_at line at zero = []
bytes_at line at (suc count) = number_at line at 2 ∷ bytes_at line (at + 2) count

abbrev pub sum : List ℕ → ℕ
sum [] = 0
sum (n ∷ ns) = n + sum ns

-- field k begins after the fields before it and their tabs
abbrev pub number_in : (line : List ℕ) → (k : ℕ) → ℕ
number_in line k = number_at line (sum (take k widths) + k) (get_or widths k 0)
