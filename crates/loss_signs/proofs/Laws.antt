-- One pin of a set, tested and cleared, as the rules have it. Assumes nothing.
use mathlib.Core.Path.{◌≡◌, refl, sym, ap, ◌∙◌}
use mathlib.Core.Bool.{Bool, true, false, not, ◌&&◌}
use Prim.Native.Nat.{ℕ, zero, suc, ◌+◌, ◌-◌, ◌*◌, ◌/◌, ◌%◌, ◌^◌, ◌<◌, ◌≤◌}
use native.Mathlib.Nat.{mod-lt, mod-eq_of_lt}
use native.Mathlib.Omega.{arith}
use borrow.Author.Tests.{eq-eqb, ne_eqb, ltb-true, ltb-false}
use lib.Dec.{eqb, ltb}
use lib.Pow.{pow-lt}
use Rattle.bits.specs.Bits.{bit, pos, without}
use Rattle.bits.proofs.Laws.{below, bit_without, bit_shr, bit_shl, bit_shl_low, bit_zero, tabulated}
use Rattle.map.specs.Map.{Part}
use Rattle.loss_rules.specs.Marks.{Marks, marks, mark_signed, signed, marks_fit}
use Rattle.loss_rules.proofs.Laws.{small_of}

pub pin_of_set : (set pin : ℕ) → eqb (set / 2 ^ pin % 2) 1 ≡ bit set pin
unfolding bit
pin_of_set set pin =
    let e : pin + 0 ≡ pin = omega arith in
    as_digit (set / 2 ^ pin % 2) (mod-lt (set / 2 ^ pin) (omega arith)) ∙ bit_shr set pin 0 ∙ ap (bit set) e
  where
    as_digit : (d : ℕ) → d < 2 → eqb d 1 ≡ pos d
    as_digit zero h = refl
    as_digit (suc zero) h = refl
    as_digit (suc (suc d)) h = absurd (omega arith)

from_pin : (pin j : ℕ) → bit 1 j ≡ eqb (pin + j) pin
unfolding bit
from_pin pin zero = sym (eq-eqb (pin + 0) pin (omega arith))
from_pin pin (suc j) = bit_zero j ∙ sym (ne_eqb (pin + suc j) pin (λ e. omega (arith, e)))

one_pin_lem : (pin i : ℕ) → bit (1 * 2 ^ pin) i ≡ eqb i pin
one_pin_lem pin i = go (ltb i pin) refl
  where
    go : (t : Bool) → ltb i pin ≡ t → bit (1 * 2 ^ pin) i ≡ eqb i pin
    go true h =
        let k : i < pin = ltb-true i pin h in
        bit_shl_low 1 pin i k ∙ sym (ne_eqb i pin (λ e. omega (arith, e, k)))
    go false h =
        let k : pin ≤ i = ltb-false i pin h in
        let e : pin + (i - pin) ≡ i = omega (arith, k) in
        ap (bit (1 * 2 ^ pin)) (sym e) ∙ bit_shl 1 pin (i - pin) ∙ from_pin pin (i - pin) ∙ ap (λ (n : ℕ). eqb n pin) e

pub cleared : (p : Part) (m : Marks) → marks_fit p m ≡ true → (pin : ℕ) → pin < 64 → marks (without m.set (1 * 2 ^ pin % 2 ^ 64)) m.healthy ≡ signed p pin m
unfolding signed mark_signed
cleared p m f pin h =
    let small : m.set < 2 ^ p.width = (small_of p m f).0 in
    let fits : 1 * 2 ^ pin < 2 ^ 64 = omega (arith, pow-lt h) in
    ap (λ (n : ℕ). marks n m.healthy)
    (tabulated p.width (search (below, small))
    (λ i hi. bit_without m.set (1 * 2 ^ pin % 2 ^ 64) i ∙ ap (λ (t : Bool). bit m.set i && not t) (ap (λ (n : ℕ). bit n i) (mod-eq_of_lt fits) ∙ one_pin_lem pin i)))
