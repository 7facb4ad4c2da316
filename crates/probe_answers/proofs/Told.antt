-- An image's text and a line's are their parts one after the other, and the words of an image that fits show what the image does. Assumes nothing.
use mathlib.Core.Path.{◌≡◌, refl, ap, sym, ◌∙◌}
use mathlib.Core.Bool.{Bool, true}
use mathlib.Core.List.{List, [], ◌∷◌, ◌++◌}
use Prim.Native.Nat.{ℕ}
use types.Run.{OneOf}
use denote.Enum.Declared.{tag_of}
use Rattle.device_rules.specs.contracts.Answer.{the_type}
use Rattle.map.specs.Map.{Part, part_of}
use Rattle.registers.specs.Registers.{driven_low, driven_high, int_asserted}
use Rattle.device_rules.specs.Answers.{refusal_number}
use Rattle.device_rules.specs.declared.Answer.{Answer}
use Rattle.device_rules.specs.declared.Answer.TheVariants.{Nothing, Ack, Nak, Byte, Refused}
use Rattle.text.specs.Text.{Wrote}
use Rattle.text.proofs.Laws.{wrote_as, wrote_both}
use Rattle.text_answers.specs.Answers.{unless_refused, answer_text, newline, shown_text}
use Rattle.text_answers.proofs.Laws.{answered, told_text}
use Rattle.device_rules.specs.Device.{State, out as outcome}
use Rattle.device.specs.Held.{state_in, fits_in}
use Rattle.device.specs.declared.Device.{Device}
use Rattle.registers.specs.Interrupt.{worked_out}
use Rattle.words.specs.Words.{core_in, interrupt_in, Fit}
use Rattle.words_images.specs.Images.{Packs}
use Rattle.probe_answers.specs.Answers.{image_text, probe_line}

-- ---- an answer by the words that the image was packed into: a refusal shows nothing of them
module _ {d : Device} {fits : Bool} {v w : List ℕ} (k : Packs d.part (state_in d) fits v w) (int : Bool) (low high : ℕ)
    (i : interrupt_in w ≡ worked_out (part_of d.part) (core_in (part_of d.part) w) → int ≡ int_asserted (part_of d.part) (core_in (part_of d.part) w))
    (l : low ≡ driven_low (part_of d.part) (core_in (part_of d.part) w)) (h : Fit (part_of d.part) w → high ≡ driven_high (part_of d.part) (core_in (part_of d.part) w)) where
  abbrev p : Part
  p = part_of d.part

  fitting_text : (a : Answer) → fits_in d ≡ true → answer_text p a int low high ≡ shown_text p (outcome a (state_in d))
  fitting_text a e =
      let its = k.packed (k.judged ∙ e) in
      told_text p a (state_in d) int low high (i its.0.right ∙ ap (λ (x : State). int_asserted p x.regs) its.1) (l ∙ ap (λ (x : State). driven_low p x.regs) its.1)
      (h its.0.fit ∙ ap (λ (x : State). driven_high p x.regs) its.1)

  pub words_text : (a : Answer) → (refusal_number a ≡ 0 → fits_in d ≡ true) → answer_text p a int low high ≡ shown_text p (outcome a (state_in d))
  unfolding answer_text shown_text
  words_text Nothing f = fitting_text Nothing (f refl)
  words_text Ack f = fitting_text Ack (f refl)
  words_text Nak f = fitting_text Nak (f refl)
  words_text (Byte b) f = fitting_text (Byte b) (f refl)
  words_text (Refused n) f = refl

-- ---- the answer
module _ (p : Part) (answer : Answer) (s : State) {out middle left : List ℕ} {at end last : ℕ} (told : Wrote out at (shown_text p (outcome answer s)) end middle) where
  pub line_answered : OneOf (0 ∷ 1 ∷ 2 ∷ 3 ∷ []) (tag_of the_type answer) → {shown : List ℕ} {after : ℕ} → Wrote middle end (image_text s) after shown
      → Wrote shown after newline last left → Wrote out at (probe_line p (outcome answer s)) last left
  unfolding probe_line
  line_answered k image ended =
      wrote_as (ap (λ (x : List ℕ). shown_text p (outcome answer s) ++ (x ++ newline)) (answered answer k (image_text s))) (wrote_both told (wrote_both image ended))

  pub line_refused : {n : ℕ} → answer ≡ Refused n → Wrote middle end newline last left → Wrote out at (probe_line p (outcome answer s)) last left
  unfolding probe_line
  line_refused e ended =
      wrote_as (ap (λ (a : Answer). shown_text p (outcome answer s) ++ (unless_refused a (image_text s) ++ newline)) (sym e)) (wrote_both told ended)
