-- The text of fields.
use Rattle.std.specs.Prelude.{List, [], ◌∷◌, ◌++◌, ℕ}
use Rattle.text.specs.Text.{hex_text}

-- bytes, two digits each
unfoldable pub bytes_text : List ℕ → List ℕ
bytes_text [] = []
bytes_text (b ∷ bytes) = hex_text 2 b ++ bytes_text bytes

-- numbers in fields of such widths, a tab before each
unfoldable pub fields_text : (widths numbers : List ℕ) → List ℕ
fields_text [] numbers = []
fields_text (w ∷ ws) [] = []
fields_text (w ∷ ws) (n ∷ numbers) = 0x09 ∷ hex_text w n ++ fields_text ws numbers
