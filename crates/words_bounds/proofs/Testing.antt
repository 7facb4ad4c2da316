-- The image test: the bits that may not be set, put together, are none exactly if each word is within its bounds. Assumes nothing.
use mathlib.Core.Path.{◌≡◌, sym, ap, ◌∙◌}
use mathlib.Core.List.{List}
use Prim.Native.Nat.{ℕ, ◌/◌, ◌%◌, ◌^◌, ◌<◌, ◌≤◌}
use native.Mathlib.Nat.{div-add-mod', mod-lt}
use native.Mathlib.Omega.{arith}
use lib.Bits.{bit_or, bit_xor, xor_self}
use lib.ListN.{get_or}
use Rattle.map.specs.Map.{part_of}
use Rattle.registers.specs.Interrupt.{worked_out}
use Rattle.words.specs.Words.{core_in, interrupt_in, Fit}
use Rattle.words_faults.proofs.Alike.{xor_zero}
use Rattle.words_spare.proofs.Laws.{or_zero, zero_or}
use Rattle.words_state.specs.Packed.{Bounded}

-- ---- the test
module _ (c : ℕ) (w : List ℕ) (spare stale : ℕ) where
  -- what the spare bits say: none exactly if the words fit the part
  abbrev pub Spares : Type 0
  Spares = (spare ≡ 0 → Fit (part_of c) w) × (Fit (part_of c) w → spare ≡ 0)

  -- and the stale bits: none exactly if what is kept of the interrupt is right
  abbrev pub Stale : Type 0
  Stale = Fit (part_of c) w
      → (stale ≡ 0 → interrupt_in w ≡ worked_out (part_of c) (core_in (part_of c) w)) × (interrupt_in w ≡ worked_out (part_of c) (core_in (part_of c) w) → stale ≡ 0)

  abbrev Odd : ℕ
  Odd = bit_or (bit_or (bit_or (get_or w 21 0 / 2 ^ 7) (get_or w 23 0 / 2 ^ 2)) (get_or w 24 0 / 2 ^ 1)) (get_or w 25 0 / 2 ^ 24)

  pub tested : Spares → Stale → get_or w 22 0 ≤ 11 → get_or w 26 0 ≤ 2 → bit_or (bit_or (bit_or spare Odd) stale) (bit_xor (get_or w 27 0) c) ≡ 0 → Bounded c w
  tested fits says bus place e =
      let its = or_zero (bit_or (bit_or spare Odd) stale) (bit_xor (get_or w 27 0) c) e in
      let all = or_zero (bit_or spare Odd) stale its.0 in
      let both = or_zero spare Odd all.0 in
      let fit = fits.0 both.0 in
      let e3 = or_zero (bit_or (bit_or (get_or w 21 0 / 2 ^ 7) (get_or w 23 0 / 2 ^ 2)) (get_or w 24 0 / 2 ^ 1)) (get_or w 25 0 / 2 ^ 24) both.1 in
      let e2 = or_zero (bit_or (get_or w 21 0 / 2 ^ 7) (get_or w 23 0 / 2 ^ 2)) (get_or w 24 0 / 2 ^ 1) e3.0 in
      let e1 = or_zero (get_or w 21 0 / 2 ^ 7) (get_or w 23 0 / 2 ^ 2) e2.0 in
      record {
        fit = fit;
        right = (says fit).0 all.1;
        pointer_small = let m : get_or w 21 0 % 128 < 128 = mod-lt (get_or w 21 0) (omega arith) in omega (arith, div-add-mod' (get_or w 21 0) 128, e1.0);
        mode_small = let m : get_or w 24 0 % 2 < 2 = mod-lt (get_or w 24 0) (omega arith) in omega (arith, div-add-mod' (get_or w 24 0) 2, e2.1);
        bus_small = omega arith;
        choice_small = let m : get_or w 23 0 % 4 < 4 = mod-lt (get_or w 23 0) (omega arith) in omega (arith, div-add-mod' (get_or w 23 0) 4, e1.1);
        id_small = let m : get_or w 25 0 % 16777216 < 16777216 = mod-lt (get_or w 25 0) (omega arith) in omega (arith, div-add-mod' (get_or w 25 0) 16777216, e3.1);
        place_small = omega arith;
        part_is = xor_zero (get_or w 27 0) c its.1;
      }

  pub passes : Spares → Stale → Bounded c w → bit_or (bit_or (bit_or spare Odd) stale) (bit_xor (get_or w 27 0) c) ≡ 0
  passes fits says b =
      let h21 = b.pointer_small in
      let h23 = b.choice_small in
      let h24 = b.mode_small in
      let h25 = b.id_small in
      let p : get_or w 21 0 / 128 ≡ 0 = omega (arith, div-add-mod' (get_or w 21 0) 128) in
      let r : get_or w 23 0 / 4 ≡ 0 = omega (arith, div-add-mod' (get_or w 23 0) 4) in
      let m : get_or w 24 0 / 2 ≡ 0 = omega (arith, div-add-mod' (get_or w 24 0) 2) in
      let i : get_or w 25 0 / 16777216 ≡ 0 = omega (arith, div-add-mod' (get_or w 25 0) 16777216) in
      zero_or (zero_or (zero_or (fits.1 b.fit) (zero_or (zero_or (zero_or p r) m) i)) ((says b.fit).1 b.right))
      (ap (bit_xor (get_or w 27 0)) (sym b.part_is) ∙ xor_self (get_or w 27 0))
