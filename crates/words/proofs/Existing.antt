-- The bits of a written byte that exist, seen from the pins: those of its word. Assumes nothing.
use mathlib.Core.Path.{◌≡◌, refl, ap, ◌∙◌}
use mathlib.Core.Bool.{Bool, true, false, ◌&&◌}
use Prim.Native.Nat.{ℕ, ◌+◌, ◌-◌, ◌*◌, ◌/◌, ◌%◌, ◌^◌, ◌<◌, min}
use native.Mathlib.Nat.{div-add-mod', mod-lt}
use native.Mathlib.Omega.{arith}
use borrow.Author.Tests.{eqb-true, ltb-true, ltb-false}
use lib.Bits.{bit_and}
use lib.Pow.{pow_pos}
use lib.Dec.{ltb}
use Rattle.bits.specs.Bits.{bit}
use Rattle.bits.proofs.Laws.{bit-and, bit_ones, bit_high}
use Rattle.ports.specs.Ports.{in_port, in_edge}

-- two tests that ask the same
same_test : (a b c d : ℕ) → (a < b → c < d) → (c < d → a < b) → ltb a b ≡ ltb c d
same_test a b c d f g = go (ltb a b) refl (ltb c d) refl
  where
    go : (s : Bool) → ltb a b ≡ s → (t : Bool) → ltb c d ≡ t → s ≡ t
    go true p true q = refl
    go false p false q = refl
    go true p false q = absurd (omega (arith, f (ltb-true a b p), ltb-false c d q))
    go false p true q = absurd (omega (arith, g (ltb-true c d q), ltb-false a b p))

pub ones_bit : (room j : ℕ) → bit (2 ^ room - 1) j ≡ ltb j room
ones_bit room j = go (ltb j room) refl
  where
    go : (t : Bool) → ltb j room ≡ t → bit (2 ^ room - 1) j ≡ t
    go true e = bit_ones room j (ltb-true j room e)
    go false e = bit_high room (2 ^ room - 1) j (omega (arith, pow_pos room)) (ltb-false j room e)

module _ (v room d : ℕ) where
  kept_bit : (here : Bool) (j i size : ℕ) → (here ≡ true → ltb j room ≡ ltb i size) → (here && bit (bit_and v (2 ^ room - 1)) j) ≡ (here && (bit v j && ltb i size))
  kept_bit false j i size q = refl
  kept_bit true j i size q = bit-and v (2 ^ room - 1) j ∙ ap (λ (t : Bool). bit v j && t) (ones_bit room j ∙ q refl)

  -- a byte of a word
  pub port_exists : (size : ℕ) → room ≡ min 8 (size - 8 * d) → (i : ℕ) → (in_port d i && bit (bit_and v (2 ^ room - 1)) (i % 8)) ≡ (in_port d i && (bit v (i % 8) && ltb i size))
  port_exists size e i =
      let m : i % 8 < 8 = mod-lt i (omega arith) in
      kept_bit (in_port d i) (i % 8) i size (λ t.
      let q : i / 8 ≡ d = eqb-true (i / 8) d t in
      same_test (i % 8) room i size (λ h. omega (arith, h, e, q, m, div-add-mod' i 8)) (λ h. omega (arith, h, e, q, m, div-add-mod' i 8)))

  -- the low bit of a pin's field, r = 0, or the high bit, r = 1
  pub field_exists : (width r : ℕ) → r < 2 → room ≡ min 8 (2 * width - 8 * d) → (i : ℕ)
      → (in_edge d i && bit (bit_and v (2 ^ room - 1)) (2 * (i % 4) + r)) ≡ (in_edge d i && (bit v (2 * (i % 4) + r) && ltb i width))
  field_exists width r hr e i =
      let m : i % 4 < 4 = mod-lt i (omega arith) in
      kept_bit (in_edge d i) (2 * (i % 4) + r) i width (λ t.
      let q : i / 4 ≡ d = eqb-true (i / 4) d t in
      same_test (2 * (i % 4) + r) room i width (λ h. omega (arith, h, e, q, m, hr, div-add-mod' i 4)) (λ h. omega (arith, h, e, q, m, hr, div-add-mod' i 4)))
