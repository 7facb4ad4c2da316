-- What the code's words say of a pin's edge field. Assumes nothing.
use mathlib.Core.Path.{◌≡◌, sym, ap, ◌∙◌}
use Prim.Native.Nat.{ℕ, ◌*◌, ◌/◌, ◌%◌, ◌<◌, ◌^◌}
use native.Mathlib.Nat.{mod-lt}
use native.Mathlib.Numerals.{add-one}
use native.Mathlib.Omega.{arith}
use lib.Bits.{bit_and, bit_or}
use Rattle.bits.specs.Bits.{bit, tabulate}
use Rattle.bits.proofs.Decide.{each}
use Rattle.bits.proofs.Laws.{bit_tabulate}
use Rattle.ports.specs.Ports.{evens_of, rising_bit, falling_bit}

-- the low bits of an edge register's four fields
pub evens_set : (b : ℕ) → b < 256
    → bit_or (bit_or (bit_or (bit_and b 1) (bit_and (b / 2 ^ 1) 2)) (bit_and (b / 2 ^ 2) 4)) (bit_and (b / 2 ^ 3) 8)
    ≡ evens_of b
unfolding bit tabulate
evens_set = each 256 _ _ tt

pub rising_bit_lem : (b i : ℕ) {e : ℕ} → e ≡ evens_of b → bit e (i % 4) ≡ rising_bit b i
rising_bit_lem b i q = ap (λ (x : ℕ). bit x (i % 4)) q ∙ bit_tabulate 4 (λ j. bit b (2 * j)) (i % 4) (mod-lt i (omega arith))

pub falling_bit_lem : (b i : ℕ) {e : ℕ} → e ≡ evens_of (b / 2) → bit e (i % 4) ≡ falling_bit b i
unfolding bit
falling_bit_lem b i q = rising_bit_lem (b / 2) i q ∙ ap (bit b) (sym (add-one (2 * (i % 4))))
