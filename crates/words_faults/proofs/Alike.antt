-- Two numbers compared bit by bit: no bit differs exactly if they are the same. Assumes nothing.
use mathlib.Core.Path.{◌≡◌, sym, ap, ◌∙◌}
use Prim.Native.Nat.{ℕ}
use native.Mathlib.Omega.{arith}
use lib.Bits.{bit_or, bit_xor, xor_self, xor_add_and, and_le_l, and_le_r}
use Rattle.words_spare.proofs.Laws.{or_zero, zero_or}

pub xor_zero : (a b : ℕ) → bit_xor a b ≡ 0 → a ≡ b
xor_zero a b e = omega (arith, e, xor_add_and a b, and_le_l a b, and_le_r a b)

pub stale_zero : (a b x y : ℕ) → bit_or (bit_xor a x) (bit_xor b y) ≡ 0 → (a ≡ x) × (b ≡ y)
stale_zero a b x y e =
    let both = or_zero (bit_xor a x) (bit_xor b y) e in
    (xor_zero a x both.0, xor_zero b y both.1)

pub zero_stale : (a b : ℕ) {x y : ℕ} → a ≡ x → b ≡ y → bit_or (bit_xor a x) (bit_xor b y) ≡ 0
zero_stale a b e f = zero_or (ap (bit_xor a) (sym e) ∙ xor_self a) (ap (bit_xor b) (sym f) ∙ xor_self b)
