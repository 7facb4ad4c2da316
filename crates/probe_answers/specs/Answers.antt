-- The text of an image, and the line that a step on one is answered, for either part.
use Rattle.std.specs.Prelude.{List, [], ◌∷◌, ◌++◌, ℕ, drop}
use Rattle.map.specs.Map.{Part}
use Rattle.device_rules.specs.Device.{State, Outcome}
use Rattle.text_answers.specs.Answers.{unless_refused, newline, shown_text}
use Rattle.probe_fields.specs.Fields.{widths}
use Rattle.probe_texts.specs.Texts.{bytes_text, fields_text}

-- ---- the text of an image
-- the same fields as a line's, less the event's; a tab before each
unfoldable pub image_text : State → List ℕ
image_text s =
    0x09 ∷ bytes_text s.regs.file
    ++ fields_text (drop 1 widths)
    (s.regs.sets.level ∷ s.regs.sets.reference ∷ s.regs.sets.held ∷ s.regs.sets.edge
    ∷ s.pointer ∷ s.bus ∷ s.choice ∷ s.interrupt.status ∷ s.interrupt.line ∷ s.mode ∷ s.id.number ∷ s.id.place ∷ [])

-- ---- the answer
-- as a trace tells the event; then the image after it, which no refusal has, and the newline
unfoldable pub probe_line : Part → Outcome → List ℕ
probe_line p o = shown_text p o ++ (unless_refused o.answer (image_text o.after) ++ newline)
