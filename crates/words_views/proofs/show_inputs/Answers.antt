-- `words_views::show_inputs`: the input port bits of its pins (`shown_port`). Assumes nothing.
use mathlib.Core.Path.{◌≡◌, refl, sym, ap, ◌∙◌}
use mathlib.Core.Bool.{false, ◌||◌}
use Prim.Native.Nat.{ℕ, ◌<◌}
use native.Mathlib.Omega.{arith}
use lib.Dec.{eqb}
use Rattle.pins.specs.OnePin.{input_of}
use Rattle.map.specs.Map.{Kind, code, kind_at, part_of}
use Rattle.map.specs.Map.Kind.{Input, Status, InputStatus}
use Rattle.registers.specs.Registers.{one_pin, shown_as}
use Rattle.words.specs.Words.{core_in, slot_at, paired}
use Rattle.words.proofs.Sound.{sound}
use Rattle.words.proofs.Showing.{input_read, shown_port, shown_else}
use Rattle.words_rows.specs.Rows.{rule_at}
use Rattle.words_rows.proofs.Taken.{known_small, paired_by, low_rule}
use Rattle.words_views.proofs.show_inputs.Goals as goal

pub returns : goal.returns
unfolding shown_as
returns c =
    λ part n known e.
    let a = c.args in
    let p = part_of part in
    let w = a.words.now in
    let hn : n < 128 = known_small a.row part n known e in
    -- it is not one of two words
    let one : (k : ℕ) → k < 13 → (eqb k 8 || eqb k 14) ≡ false → code (kind_at p n) ≡ k → paired (slot_at p n) ≡ false =
    λ k small apart kind. paired_by part n (rule_at p n) hn refl k (low_rule part n (rule_at p n) hn refl k small kind) ∙ apart in (
      (λ kind. shown_else p (sound part) n hn w (ap (λ (k : Kind). eqb (code k) (code Status)) kind)
          (shown_port p (sound part) n hn w Input kind refl refl _ (c.port.ensures.0 part n hn e (one 1 (omega arith) refl (ap code kind))) (λ i. input_of (one_pin p (core_in p w) i)) refl _
          (λ i l. c.inputs.ensures i (omega (arith, l, (sound part).port_few)) ∙ sym (input_read p (sound part) w i l)) c.byte_of.ensures)),
      (λ kind. shown_else p (sound part) n hn w (ap (λ (k : Kind). eqb (code k) (code Status)) kind)
          (shown_port p (sound part) n hn w InputStatus kind refl refl _ (c.port.ensures.0 part n hn e (one 3 (omega arith) refl (ap code kind))) (λ i. input_of (one_pin p (core_in p w) i)) refl _
          (λ i l. c.inputs.ensures i (omega (arith, l, (sound part).port_few)) ∙ sym (input_read p (sound part) w i l)) c.byte_of.ensures)),
    )
