-- The columns depend on the words that are told: text that was written for these is every such device's. Assumes nothing.
use mathlib.Core.Path.{◌≡◌, refl, ap, sym, ◌∙◌}
use mathlib.Core.Bool.{Bool}
use mathlib.Core.List.{List}
use Prim.Native.Nat.{ℕ, ◌<◌, ◌≤◌}
use native.Mathlib.Omega.{arith}
use lib.Dec.{eqb}
use lib.ListN.{get_or}
use Rattle.bits.proofs.Laws.{tabulate_ext}
use Rattle.pins.specs.Pin.{is_low, is_high}
use Rattle.pins.specs.OnePin.{drive_of}
use Rattle.map.specs.Map.{Part, part_of}
use Rattle.registers.specs.Registers.{one_pin, int_asserted, driven_low, driven_high}
use Rattle.registers.proofs.Kept.{line_right, line_small}
use Rattle.device_rules.specs.Device.{out}
use Rattle.device_rules.specs.declared.Answer.{Answer}
use Rattle.words.specs.Words.{core_in, interrupt_in}
use Rattle.words.proofs.Sound.{sound}
use Rattle.words.proofs.Showing.{one_pin_lem}
use Rattle.words_state.specs.Packed.{state_in, Packed}
use Rattle.words_device.specs.Named.{Named}
use Rattle.text.specs.Text.{Wrote}
use Rattle.text.proofs.Laws.{wrote_as}
use Rattle.text_answers.specs.Answers.{Keeps, answer_line, shown_line}
use Rattle.text_answers.proofs.Laws.{told_line}
use Rattle.trace_columns.specs.Columns.{Told, KeepsOf, Fresh}
use Rattle.trace_columns.specs.declared.Causes.{Causes}
use Rattle.trace_columns.specs.declared.Columns.{Columns}

module _ (c : ℕ) (told : Causes) (v w : List ℕ) (tv : Told v told) (tw : Told w told) where
  drive_same : (i : ℕ) → i < (part_of c).width → drive_of (one_pin (part_of c) (core_in (part_of c) v) i) ≡ drive_of (one_pin (part_of c) (core_in (part_of c) w) i)
  drive_same i l =
      ap drive_of (one_pin_lem (part_of c) (sound c) v i l) ∙ rw (← tv.1, ← tv.2, ← tv.3, ← tv.4, tw.1, tw.2, tw.3, tw.4) refl
      ∙ sym (ap drive_of (one_pin_lem (part_of c) (sound c) w i l))

  low_same : driven_low (part_of c) (core_in (part_of c) v) ≡ driven_low (part_of c) (core_in (part_of c) w)
  unfolding driven_low
  low_same = tabulate_ext (part_of c).width (λ i l. ap is_low (drive_same i l))

  high_same : driven_high (part_of c) (core_in (part_of c) v) ≡ driven_high (part_of c) (core_in (part_of c) w)
  unfolding driven_high
  high_same = tabulate_ext (part_of c).width (λ i l. ap is_high (drive_same i l))

  int_same : Packed c v → Packed c w → int_asserted (part_of c) (core_in (part_of c) v) ≡ int_asserted (part_of c) (core_in (part_of c) w)
  int_same kv kw =
      sym (line_right (part_of c) (core_in (part_of c) v) (interrupt_in v) kv.right) ∙ ap (λ (n : ℕ). eqb n 0) (sym tv.0 ∙ tw.0)
      ∙ line_right (part_of c) (core_in (part_of c) w) (interrupt_in w) kw.right

  keeps_same : Packed c v → Packed c w → (kept : List ℕ) → KeepsOf (part_of c) w kept → KeepsOf (part_of c) v kept
  keeps_same kv kw kept k = rw (int_same kv kw, low_same, high_same) k

pub keeps_as : (p : Part) (words kept : List ℕ) {int : Bool} {low high : ℕ} → Keeps p kept int low high
    → int ≡ int_asserted p (core_in p words) → low ≡ driven_low p (core_in p words) → high ≡ driven_high p (core_in p words) → KeepsOf p words kept
keeps_as p words kept k e f g = rw (← e, ← f, ← g) k

-- told from a line that no device has, the text is of every device that has these words
pub fresh_none : (words : List ℕ) (c : Columns) → 2 ≤ c.told.line → Fresh words c
fresh_none words c none w k t =
    let p : Part = part_of (get_or words 27 0) in
    absurd (omega (arith, none, t.0, line_small p (core_in p w) (interrupt_in w) k.right))

-- written anew, the text is of every device that has these words
pub fresh_anew : (words : List ℕ) (c : Columns) → Named words → Told words c.told → KeepsOf (part_of (get_or words 27 0)) words c.text → Fresh words c
fresh_anew words c k t keeps w kw tw = keeps_same (get_or words 27 0) c.told w words tw t kw k c.text keeps

-- a line that is put with the text that is kept is the device's
pub kept_line : {words : List ℕ} (c : Columns) (a : Answer) {out₀ : List ℕ} {at end : ℕ} {left : List ℕ} → Named words → Fresh words c → Told words c.told
    → ((int : Bool) (low high : ℕ) → Keeps (part_of (get_or words 27 0)) c.text int low high → Wrote out₀ at (answer_line (part_of (get_or words 27 0)) a int low high) end left)
    → Wrote out₀ at (shown_line (part_of (get_or words 27 0)) (out a (state_in (part_of (get_or words 27 0)) words))) end left
kept_line {words} c a k b t put =
    let p : Part = part_of (get_or words 27 0) in
    wrote_as (told_line p a (state_in p words) _ _ _ refl refl refl) (put _ _ _ (b words k t))
