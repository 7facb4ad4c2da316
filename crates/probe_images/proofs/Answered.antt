-- Of a line that has begun 395 bytes say as much as all of it, and a step that is not refused leaves an image that fits. Assumes nothing.
use mathlib.Core.Path.{◌≡◌, refl, sym, ap, ◌∙◌}
use mathlib.Core.Bool.{Bool, true, false, ◌&&◌}
use mathlib.Core.List.{List, ◌++◌}
use Prim.Native.Nat.{ℕ, ◌<◌, ◌≤◌}
use native.Mathlib.Omega.{arith}
use borrow.Author.Tests.{lt-ltb, ltb-true, ltb-false}
use lib.Dec.{ltb}
use lib.ListN.{length, take}
use lib.Seq.{take_all, length-take-le}
use Rattle.map.specs.Map.{Part, part_of}
use Rattle.registers.proofs.Lawful.{lawful}
use Rattle.device_rules.specs.Device.{Outcome}
use Rattle.device_rules.specs.Answers.{refusal_number}
use Rattle.device_rules.specs.Refusals.{image_fits}
use Rattle.device_rules.proofs.Images.{broken}
use Rattle.device.specs.Held.{state_in, fits_in}
use Rattle.device.specs.declared.Stepped.{Stepped}
use Rattle.device_demands.proofs.Keeps.{image_of, well_formed, stepped_keeps}
use Rattle.text.specs.Text.{Wrote}
use Rattle.text.proofs.Laws.{wrote_as}
use Rattle.probe_fields.specs.Fields.{bytes_at}
use Rattle.probe_fields.proofs.Reading.{other_length}
use Rattle.text_pieces.specs.Pieces.{Kept}
use Rattle.text_pieces.proofs.Laws.{kept_most, take_again}
use Rattle.probe_images.specs.declared.begun.Line.{Line}
use Rattle.probe_images.specs.Asked.{Answers}
use Rattle.probe_images.specs.Begun.{Holds}
use Rattle.probe_images.specs.Images.{image_in, kind_in, argument_in, probe_text}

-- of a line over 394 bytes the first 395 say as much as all of it
probe_take : (p : Part) (text : List ℕ) → probe_text p (take 395 text) ≡ probe_text p text
unfolding probe_text
probe_take p text = go (ltb 394 (length text)) refl
  where
    go : (t : Bool) → ltb 394 (length text) ≡ t → probe_text p (take 395 text) ≡ probe_text p text
    go true e =
        let l : 394 < length text = ltb-true 394 (length text) e in
        rw (other_length text (λ q. omega arith), other_length (take 395 text) (λ q. omega (arith, length-take-le 395 text (omega arith))))
    go false e = let l : length text ≤ 394 = ltb-false 394 (length text) e in ap (probe_text p) (take_all 395 text (omega arith))

pub grown_holds : (line : Line) {part left : List ℕ} {end : ℕ} → length line.held ≡ 395 → Kept line.held line.len part end left
    → (small : end ≤ 395) (text : List ℕ) → Holds line text → Holds (record { held = left; len = end; small = small }) (text ++ part)
grown_holds line {part} all k small text h =
    record { small = small; kept = (kept_most 395 all k).0 ∙ ap (λ (x : List ℕ). take 395 (x ++ part)) h.kept ∙ take_again 395 text part }

pub held_answer : (p : Part) (line : Line) {out left : List ℕ} {at end : ℕ} → Wrote out at (probe_text p (take line.len line.held)) end left
    → (text : List ℕ) → Holds line text → Wrote out at (probe_text p text) end left
held_answer p line w text h = wrote_as (ap (probe_text p) h.kept ∙ probe_take p text) w

-- a step that is not refused leaves an image that fits
pub step_fits : (part : ℕ) → part < 2 → (line : List ℕ) {t : Stepped} → Answers part line t → refusal_number t.answer ≡ 0 → fits_in t.device ≡ true
unfolding bytes_at
step_fits part known line {t} e z = go (image_fits p (image_in line)) refl
  where
    p : Part
    p = part_of part

    after : image_fits p (state_in t.device) ≡ true → fits_in t.device ≡ true
    after q = ap (λ (c : ℕ). ltb c 2 && image_fits (part_of c) (state_in t.device)) e.part_stays ∙ simp (lt-ltb part 2 known, q)

    go : (b : Bool) → image_fits p (image_in line) ≡ b → fits_in t.device ≡ true
    go true q =
        after (ap (λ (o : Outcome). image_fits p o.after) e.outcome
        ∙ image_of p _ (stepped_keeps p (lawful part) (image_in line) (well_formed p (image_in line) q refl) (kind_in line) (argument_in line)).sound)
    go false q =
        let r : refusal_number t.answer ≡ 3 = ap (λ (o : Outcome). refusal_number o.answer) (e.outcome ∙ sym (broken p (image_in line) (kind_in line) (argument_in line) q)) in
        absurd (omega (arith, z, r))
