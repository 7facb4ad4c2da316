-- What is read field by field is the image that the line says, and the step on it is the line's answer. Assumes nothing.
use mathlib.Core.Path.{◌≡◌, ap, ap₂, ◌∙◌}
use mathlib.Core.Bool.{Bool, true, false}
use mathlib.Core.List.{List}
use Prim.Native.Nat.{ℕ, ◌<◌}
use Rattle.text_answers.specs.Answers.{refused_line}
use Rattle.map.specs.Map.{part_of}
use Rattle.registers.specs.Registers.{core}
use Rattle.registers.specs.Interrupt.{interrupt}
use Rattle.device_rules.specs.Device.{identity, state, out}
use Rattle.device_rules.specs.Refusals.{stepped}
use Rattle.probe_fields.specs.Fields.{readable, bytes_at, number_in}
use Rattle.probe_answers.specs.Answers.{probe_line}
use Rattle.device.specs.Held.{state_in, Steps}
use Rattle.device.specs.declared.Device.{Device}
use Rattle.device.specs.declared.Stepped.{Stepped}
use Rattle.device.proofs.Asking.{ruled}
use Rattle.probe_images.specs.Asked.{Answers}
use Rattle.probe_images.specs.Images.{image_in, kind_in, argument_in, probe_text}

-- ---- what the code gathers
pub image_is : (line : List ℕ) {file : List ℕ} {level reference held edge pointer bus choice status int mode number place : ℕ} → file ≡ bytes_at line 0 128
    → level ≡ number_in line 1 → reference ≡ number_in line 2 → held ≡ number_in line 3 → edge ≡ number_in line 4
    → pointer ≡ number_in line 5 → bus ≡ number_in line 6 → choice ≡ number_in line 7 → status ≡ number_in line 8 → int ≡ number_in line 9 → mode ≡ number_in line 10 → number ≡ number_in line 11
    → place ≡ number_in line 12
    → state (core file (record { level = level; reference = reference; held = held; edge = edge })) (interrupt status int) pointer mode bus choice (identity number place) ≡ image_in line
image_is line f l r h e p b c s i m n q =
    λ j. state (core (f j) (record { level = l j; reference = r j; held = h j; edge = e j })) (interrupt (s j) (i j)) (p j) (m j) (b j) (c j) (identity (n j) (q j))

pub step_is : (part : ℕ) → part < 2 → (line : List ℕ) {d : Device} {t : Stepped} {kind arg : ℕ} → state_in d ≡ image_in line → d.part ≡ part → kind ≡ kind_in line → arg ≡ argument_in line
    → Steps d kind arg t → Answers part line t
step_is part known line {d} {t} {kind} {arg} i p k a s =
    record { outcome = s.outcome ∙ ruled d kind arg known p i ∙ ap₂ (λ (k a : ℕ). stepped (part_of part) (image_in line) k a) k a; part_stays = s.part_stays ∙ p }

-- ---- what a line is answered
module _ (part : ℕ) (line : List ℕ) {t : Bool} (read : t ≡ readable line) where
  pub unreadable_text : t ≡ false → refused_line 7 ≡ probe_text (part_of part) line
  unfolding probe_text
  unreadable_text e = rw (← read, e)

  pub probed_text : t ≡ true → {s : Stepped} → Answers part line s → probe_line (part_of s.device.part) (out s.answer (state_in s.device)) ≡ probe_text (part_of part) line
  unfolding probe_text
  probed_text e {s} a = ap (λ (c : ℕ). probe_line (part_of c) (out s.answer (state_in s.device))) a.part_stays ∙ rw (← read, e, a.outcome)
