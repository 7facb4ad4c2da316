-- The text of a line with marks: what is put in place of a newline, and how long it gets. Assumes nothing.
use mathlib.Core.Path.{◌≡◌, refl, ap, sym, ◌∙◌}
use mathlib.Core.Bool.{Bool, true, false, cond}
use mathlib.Core.List.{List, [], ◌∷◌, ◌++◌, append_assoc}
use Prim.Native.Nat.{ℕ, ◌+◌, ◌-◌, ◌<◌, ◌≤◌}
use native.Mathlib.Omega.{arith}
use borrow.Author.Tests.{eq-eqb, ne_eqb}
use lib.Dec.{eqb}
use lib.ListN.{length, length-append}
use Rattle.bits.proofs.Decide.{clash}
use Rattle.map.specs.Map.{Part, part_of}
use Rattle.device_rules.specs.Device.{Outcome}
use Rattle.device_rules.specs.declared.Answer.{Answer}
use Rattle.device_rules.specs.declared.Answer.TheVariants.{Nothing, Ack, Nak, Byte, Refused}
use Rattle.device_rules.specs.Answers.{answer_kind}
use Rattle.text.specs.Text.{hex_text, Wrote}
use Rattle.text.proofs.Laws.{over_last, wrote_both, wrote_as, wrote_length, hex_length}
use Rattle.text_answers.specs.Answers.{digits_of, unless_refused, newline, shown_text, shown_line, refused_line}
use Rattle.text_answers.proofs.Laws.{told_short, refused_short, digits_few}
use Rattle.loss_sets.specs.Refused.{number_of}
use Rattle.loss_sets.specs.declared.Refusal.{Refusal}
use Rattle.loss_sets.specs.declared.Refusal.TheVariants.{BadArgument, BrokenImage, NotHealthy}
use Rattle.watch_answers.specs.Marked.{marked_line, refusal_line}

-- a tab, digits and a newline, in place of a newline
pub marks_text : (p : Part) (set : ℕ) {lent one two three left : List ℕ} {at end start stop last digits : ℕ} (text : List ℕ) → digits ≡ digits_of p → Wrote lent at (text ++ newline) end one
    → Wrote one (end - 1) (0x09 ∷ []) start two → Wrote two start (hex_text digits set) stop three → Wrote three stop newline last left
    → Wrote lent at (text ++ ((0x09 ∷ hex_text (digits_of p) set) ++ newline)) last left
marks_text p set text e v a b c =
    rw (← e) (over_last text 0x0a 0x09 v (wrote_both (wrote_both a b) c))

unless_not : (a : Answer) (rest : List ℕ) → eqb (answer_kind a) 4 ≡ false → unless_refused a rest ≡ rest
unless_not Nothing rest h = refl
unless_not Ack rest h = refl
unless_not Nak rest h = refl
unless_not (Byte b) rest h = refl
unless_not (Refused n) rest h = clash true refl h

-- a trace's line with marks put to its end
pub with_marks : (p : Part) (o : Outcome) (set : ℕ) → eqb (answer_kind o.answer) 4 ≡ false → {lent middle left : List ℕ} {at end last : ℕ} → Wrote lent at (shown_line p o) end middle
    → ((lent : List ℕ) (at : ℕ) (text : List ℕ) → Wrote lent at (text ++ newline) end middle → Wrote lent at (text ++ ((0x09 ∷ hex_text (digits_of p) set) ++ newline)) last left)
    → Wrote lent at (marked_line p o set) last left
unfolding shown_line marked_line
with_marks p o set h {lent} {middle} {left} {at} w put =
    wrote_as
    (sym (append_assoc (shown_text p o) (0x09 ∷ hex_text (digits_of p) set) newline)
    ∙ ap (λ (more : List ℕ). (shown_text p o ++ more) ++ newline) (sym (unless_not o.answer (0x09 ∷ hex_text (digits_of p) set) h)))
    (put lent at (shown_text p o) w)

-- there is room for them
pub room_left : (part : ℕ) (o : Outcome) {lent left : List ℕ} {at end : ℕ} → Wrote lent at (shown_line (part_of part) o) end left → at + 36 ≤ length lent → (0 < end) × (end + 10 ≤ length left)
unfolding shown_line
room_left part o w room =
    (omega (arith, w.ends, length-append (shown_text (part_of part) o) newline), omega (arith, w.ends, wrote_length w, told_short part o, length-append (shown_text (part_of part) o) newline, room))

-- no line is longer than 36 bytes
pub marked_short : (part : ℕ) (o : Outcome) (set : ℕ) → length (marked_line (part_of part) o set) ≤ 36
unfolding marked_line shown_line
marked_short part o set =
    let p : Part = part_of part in
    let more : List ℕ = unless_refused o.answer (0x09 ∷ hex_text (digits_of p) set) in
    omega (
      arith,
      length-append (shown_text p o ++ more) newline,
      length-append (shown_text p o) more,
      length-append (shown_text p o) newline,
      told_short part o,
      few o.answer,
    )
  where
    few : (a : Answer) → length (unless_refused a (0x09 ∷ hex_text (digits_of (part_of part)) set)) ≤ 10
    few Nothing = omega (arith, hex_length (digits_of (part_of part)) set, digits_few part)
    few Ack = omega (arith, hex_length (digits_of (part_of part)) set, digits_few part)
    few Nak = omega (arith, hex_length (digits_of (part_of part)) set, digits_few part)
    few (Byte b) = omega (arith, hex_length (digits_of (part_of part)) set, digits_few part)
    few (Refused n) = omega arith

pub refusal_short : (n : ℕ) → length (refusal_line n) ≤ 11
unfolding refusal_line
refusal_short n = go (eqb n 13)
  where
    go : (t : Bool) → length (cond t (0x72 ∷ 0x65 ∷ 0x66 ∷ 0x75 ∷ 0x73 ∷ 0x65 ∷ 0x64 ∷ 0x09 ∷ 0x31 ∷ 0x33 ∷ newline) (refused_line n)) ≤ 11
    go true = omega arith
    go false = omega (arith, refused_short n)

pub thirteen : (n : ℕ) → n ≡ 13 → 0x72 ∷ 0x65 ∷ 0x66 ∷ 0x75 ∷ 0x73 ∷ 0x65 ∷ 0x64 ∷ 0x09 ∷ 0x31 ∷ 0x33 ∷ newline ≡ refusal_line n
unfolding refusal_line
thirteen n e = rw (eq-eqb n 13 e) refl

pub any_other : (n : ℕ) → (n ≡ 13 → ⊥) → refused_line n ≡ refusal_line n
unfolding refusal_line
any_other n h = rw (ne_eqb n 13 h) refl

pub other_number : (e : Refusal) → (e ≡ NotHealthy → ⊥) → number_of e ≡ 13 → ⊥
other_number BadArgument h z = omega arith
other_number BrokenImage h z = omega arith
other_number NotHealthy h z = h refl
