-- Packed words say their part themselves; what follows for a row of theirs. Assumes nothing.
use mathlib.Core.Path.{◌≡◌, sym, ap, ◌∙◌}
use mathlib.Core.List.{List}
use Prim.Native.Nat.{ℕ, ◌-◌, ◌^◌, ◌≤◌}
use native.Mathlib.Omega.{arith}
use lib.ListN.{get_or}
use lib.Pow.{pow_pos}
use Rattle.map.specs.Map.{part_of}
use Rattle.words.specs.Words.{PinLevels}
use Rattle.words_rows.specs.Rows.{row_at, Known}
use Rattle.words_state.specs.Packed.{Packed, Standing}

module _ (c : ℕ) (w : List ℕ) (k : Packed c w) where
  -- of the part that they name
  pub named : Packed (get_or w 27 0) w
  named = rw k.part_is k

  pub stands : (row n : ℕ) → row ≡ row_at (part_of c) n → Standing row n w
  stands row n e = record { packed = named; row_is = e ∙ ap (λ (c : ℕ). row_at (part_of c) n) (sym k.part_is) }

  pub its_pins : (pins : ℕ) → pins ≡ 2 ^ (part_of c).width - 1 → pins ≡ 2 ^ (part_of (get_or w 27 0)).width - 1
  its_pins pins e = e ∙ ap (λ (c : ℕ). 2 ^ (part_of c).width - 1) (sym k.part_is)

-- the row of the register at the pointer is a known register's
pub known_row : (row : ℕ) (w : List ℕ) → Standing row (get_or w 21 0) w → Known row w
known_row row w s = record {
  part = get_or w 27 0;
  number = get_or w 21 0;
  known = s.packed.pointer_known;
  row_is = s.row_is;
  fit = s.packed.fit;
}

-- levels of no other pin than the part's
pub pin_levels : (c : ℕ) (w : List ℕ) → Packed c w → (pins new : ℕ) → pins ≡ 2 ^ (part_of c).width - 1 → new ≤ pins → PinLevels new w
pin_levels c w k pins new e h = record { part = c; small = omega (arith, e, pow_pos (part_of c).width); fit = k.fit }
