-- What trace answers to a line is one line, and so is its header: no newline but the last. Assumes nothing.
use mathlib.Core.Path.{◌≡◌, refl, ap, ◌∙◌}
use mathlib.Core.Bool.{Bool, true, false, cond}
use mathlib.Core.List.{List, [], ◌∷◌, ◌++◌}
use Prim.Native.Nat.{ℕ, zero, suc, ◌+◌, ◌/◌, ◌%◌}
use native.Mathlib.Omega.{arith}
use borrow.Author.Tests.{ne_eqb}
use lib.Dec.{ltb}
use lib.ListN.{length, length-append}
use Rattle.map.specs.Map.{Part, part_of}
use Rattle.registers.specs.Registers.{int_asserted, driven_low, driven_high}
use Rattle.device_rules.specs.Device.{Outcome, out}
use Rattle.device_rules.specs.declared.Answer.{Answer}
use Rattle.device_rules.specs.declared.Answer.TheVariants.{Nothing, Ack, Nak, Byte, Refused}
use Rattle.device_rules.specs.Refusals.{stepped}
use Rattle.device_rules.specs.PowerOn.{power_on}
use Rattle.text.specs.Text.{digit_byte, hex_text}
use Rattle.text_pieces.specs.Pieces.{newline_at}
use Rattle.text_answers.specs.Answers.{answer_word, digits_of, columns, unless_refused, answer_text, shown_text, shown_line}
use Rattle.std.specs.Prelude.{Option, Some, None}
use Rattle.trace_lines.specs.declared.Line.{Line}
use Rattle.trace_lines.specs.declared.Line.TheVariants.{Event, Device as MadeLine}
use Rattle.trace_session.specs.Tracing.Session.{NoDevice, With}
use Rattle.trace_session.specs.Tracing.{Session, traced}
use Rattle.trace_logs.specs.Logs.{header}
use Rattle.compare_lines.specs.Judging.{OneLine}
use Rattle.compare_lines.proofs.Laws.{newline_after}

abbrev Plain : List ℕ → Type 0
Plain s = newline_at s ≡ length s

both_plain : (s t : List ℕ) → Plain s → Plain t → Plain (s ++ t)
both_plain s t a b = newline_after s t a ∙ omega (arith, b, length-append s t)

byte_plain : (b : ℕ) → (b ≡ 0x0a → ⊥) → (s : List ℕ) → Plain s → Plain (b ∷ s)
unfolding newline_at
byte_plain b h s p = rw (ne_eqb b 0x0a h) (ap suc p)

digit_plain : (n : ℕ) → Plain (digit_byte n ∷ [])
unfolding newline_at
digit_plain n = byte_plain (digit_byte n) (go (ltb n 10)) [] refl
  where
    go : (t : Bool) → cond t (0x30 + n) (0x57 + n) ≡ 0x0a → ⊥
    go true e = omega (arith, e)
    go false e = omega (arith, e)

hex_plain : (count n : ℕ) → Plain (hex_text count n)
unfolding hex_text newline_at
hex_plain zero n = refl
hex_plain (suc count) n = both_plain (hex_text count (n / 16)) (digit_byte (n % 16) ∷ []) (hex_plain count (n / 16)) (digit_plain (n % 16))

refused_plain : (n : ℕ) → Plain (answer_word (Refused n))
unfolding answer_word newline_at
refused_plain n = both_plain (0x72 ∷ 0x65 ∷ 0x66 ∷ 0x75 ∷ 0x73 ∷ 0x65 ∷ 0x64 ∷ 0x09 ∷ []) (digit_byte (n % 16) ∷ []) refl (digit_plain (n % 16))

columns_plain : (p : Part) (int : Bool) (low high : ℕ) → Plain (columns p int low high)
unfolding columns
columns_plain p int low high =
    byte_plain (cond int 0x30 0x31) (level int) (0x09 ∷ hex_text (digits_of p) low ++ (0x09 ∷ hex_text (digits_of p) high))
    (byte_plain 0x09 (λ e. omega (arith, e)) (hex_text (digits_of p) low ++ (0x09 ∷ hex_text (digits_of p) high))
    (both_plain (hex_text (digits_of p) low) (0x09 ∷ hex_text (digits_of p) high) (hex_plain (digits_of p) low)
    (byte_plain 0x09 (λ e. omega (arith, e)) (hex_text (digits_of p) high) (hex_plain (digits_of p) high))))
  where
    level : (t : Bool) → ◌≡◌ {A = ℕ} (cond t 0x30 0x31) 0x0a → ⊥
    level true e = omega (arith, e)
    level false e = omega (arith, e)

text_plain : (p : Part) (answer : Answer) (int : Bool) (low high : ℕ) → Plain (answer_text p answer int low high)
unfolding answer_text answer_word newline_at
text_plain p answer int low high = go answer
  where
    after : Plain (0x09 ∷ columns p int low high)
    after = byte_plain 0x09 (λ e. omega (arith, e)) (columns p int low high) (columns_plain p int low high)

    go : (a : Answer) → Plain (answer_word a ++ unless_refused a (0x09 ∷ columns p int low high))
    go Nothing = both_plain (answer_word Nothing) (0x09 ∷ columns p int low high) refl after
    go Ack = both_plain (answer_word Ack) (0x09 ∷ columns p int low high) refl after
    go Nak = both_plain (answer_word Nak) (0x09 ∷ columns p int low high) refl after
    go (Byte b) = both_plain (hex_text 2 b) (0x09 ∷ columns p int low high) (hex_plain 2 b) after
    go (Refused n) = both_plain (answer_word (Refused n)) [] (refused_plain n) refl

shown_one : (p : Part) (o : Outcome) → OneLine (shown_line p o)
unfolding shown_line shown_text
shown_one p o = record {
  text = shown_text p o;
  plain = text_plain p o.answer (int_asserted p o.after.regs) (driven_low p o.after.regs) (driven_high p o.after.regs);
  is = refl;
}

pub answer_one : (x : Session) (l : Option Line) → OneLine (traced x l).line
unfolding traced
answer_one x None = record { text = answer_word (Refused 7); plain = refused_plain 7; is = refl }
answer_one x (Some (MadeLine made)) = shown_one (part_of made.part) (out Nothing (power_on (part_of made.part) made.choice made.levels 0))
answer_one NoDevice (Some (Event kind arg)) = record { text = answer_word (Refused 7); plain = refused_plain 7; is = refl }
answer_one (With part s) (Some (Event kind arg)) = shown_one (part_of part) (stepped (part_of part) s kind arg)

pub header_one : OneLine header
unfolding header newline_at
header_one = record {
  text = 0x61 ∷ 0x6e ∷ 0x73 ∷ 0x77 ∷ 0x65 ∷ 0x72 ∷ 0x09 ∷ 0x69 ∷ 0x6e ∷ 0x74 ∷ 0x09 ∷ 0x6c ∷ 0x6f ∷ 0x77 ∷ 0x09 ∷ 0x68 ∷ 0x69 ∷ 0x67 ∷ 0x68 ∷ [];
  plain = refl;
  is = refl;
}
