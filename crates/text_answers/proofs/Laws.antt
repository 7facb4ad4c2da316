-- An answer's text is its word and, unless it is a refusal, a tab and the columns; its line is that and a newline. Assumes nothing.
use mathlib.Core.Path.{◌≡◌, refl, ap, sym, ◌∙◌}
use mathlib.Core.Bool.{Bool, cond}
use mathlib.Core.Logic.{⊎_elim}
use mathlib.Core.List.{List, [], ◌∷◌, ◌++◌, append_assoc}
use Prim.Native.Nat.{ℕ, zero, suc, ◌+◌, ◌*◌, ◌≤◌}
use native.Mathlib.Omega.{arith}
use lib.ListN.{length, get_or, length-append}
use lib.Seq.{take_at, sets-eq}
use types.Run.{OneOf}
use denote.Enum.Declared.{tag_of}
use Rattle.map.specs.Map.{Part, part34, part_of}
use Rattle.registers.specs.Registers.{driven_low, driven_high, int_asserted}
use Rattle.device_rules.specs.Device.{State, Outcome, out}
use Rattle.device_rules.specs.contracts.Answer.{the_type}
use Rattle.device_rules.specs.declared.Answer.{Answer}
use Rattle.device_rules.specs.declared.Answer.TheVariants.{Nothing, Ack, Nak, Byte, Refused}
use Rattle.text.specs.Text.{hex_text, Wrote}
use Rattle.text.proofs.Laws.{wrote_both, wrote_as, hex_length}
use Rattle.text_answers.specs.Answers.{answer_word, digits_of, columns, unless_refused, answer_text, newline, answer_line, kept_of, Keeps, shown_text, shown_line, refused_line}

-- ---- the part
pub sister : (part : ℕ) → (part ≡ 0 → ⊥) → part_of part ≡ part34
sister zero h = absurd (h refl)
sister (suc n) h = refl

pub digits_few : (part : ℕ) → (6 ≤ digits_of (part_of part)) × (digits_of (part_of part) ≤ 9)
digits_few zero = (omega arith, omega arith)
digits_few (suc n) = (omega arith, omega arith)

pub columns_long : (p : Part) (int : Bool) (low high : ℕ) → length (columns p int low high) ≡ 2 * digits_of p + 3
unfolding columns
columns_long p int low high =
    let d : ℕ = digits_of p in
    omega (arith, length-append (hex_text d low) (0x09 ∷ hex_text d high), hex_length d low, hex_length d high)

-- the digits and what stands before and between them
pub columns_are : (p : Part) (int : Bool) (low high level count : ℕ) {out one two three left : List ℕ} {at start middle next end : ℕ} → level ≡ cond int 0x30 0x31 → count ≡ digits_of p
    → Wrote out at (level ∷ 0x09 ∷ []) start one → Wrote one start (hex_text count low) middle two → Wrote two middle (0x09 ∷ []) next three → Wrote three next (hex_text count high) end left
    → Wrote out at (columns p int low high) end left
unfolding columns
columns_are p int low high level count e d a b c f = rw (← e, ← d) (wrote_both a (wrote_both b (wrote_both c f)))

-- ---- an answer of one of the first four kinds is no refusal
pub answered : (answer : Answer) → OneOf (0 ∷ 1 ∷ 2 ∷ 3 ∷ []) (tag_of the_type answer) → (rest : List ℕ) → rest ≡ unless_refused answer rest
answered Nothing k rest = refl
answered Ack k rest = refl
answered Nak k rest = refl
answered (Byte b) k rest = refl
answered (Refused n) k rest = absurd (⊎_elim (λ e. omega arith) (⊎_elim (λ e. omega arith) (⊎_elim (λ e. omega arith) (λ e. omega arith))) k)

-- the bytes that the code puts for a byte that was read
pub byte_word : (b : ℕ) (digits : List ℕ) → digits ≡ hex_text 2 b → get_or digits 0 0 ∷ get_or digits 1 0 ∷ 0x09 ∷ [] ≡ hex_text 2 b ++ (0x09 ∷ [])
unfolding hex_text
byte_word b digits e = rw e

-- the word, and a tab where columns follow
abbrev worded : Answer → List ℕ
worded answer = answer_word answer ++ unless_refused answer (0x09 ∷ [])

pub word_short : (answer : Answer) → length (worded answer) ≤ 9
unfolding answer_word hex_text
word_short Nothing = omega arith
word_short Ack = omega arith
word_short Nak = omega arith
word_short (Byte b) = omega arith
word_short (Refused n) = omega arith

pub word_shorter : (answer : Answer) → OneOf (0 ∷ 1 ∷ 2 ∷ 3 ∷ []) (tag_of the_type answer) → length (worded answer) ≤ 4
unfolding answer_word hex_text
word_shorter Nothing k = omega arith
word_shorter Ack k = omega arith
word_shorter Nak k = omega arith
word_shorter (Byte b) k = omega arith
word_shorter (Refused n) k = absurd (⊎_elim (λ e. omega arith) (⊎_elim (λ e. omega arith) (⊎_elim (λ e. omega arith) (λ e. omega arith))) k)

worded_rest : (answer : Answer) → OneOf (0 ∷ 1 ∷ 2 ∷ 3 ∷ []) (tag_of the_type answer) → (rest : List ℕ) → worded answer ++ rest ≡ answer_word answer ++ unless_refused answer (0x09 ∷ rest)
worded_rest answer k rest =
    ap (λ (x : List ℕ). (answer_word answer ++ x) ++ rest) (sym (answered answer k (0x09 ∷ [])))
    ∙ append_assoc (answer_word answer) (0x09 ∷ []) rest
    ∙ ap (λ (x : List ℕ). answer_word answer ++ x) (answered answer k (0x09 ∷ rest))

worded_alone : (answer : Answer) {n : ℕ} → answer ≡ Refused n → (rest : List ℕ) → worded answer ≡ answer_word answer ++ unless_refused answer rest
worded_alone answer e rest =
    ap (λ (a : Answer). answer_word answer ++ unless_refused a (0x09 ∷ [])) e ∙ sym (ap (λ (a : Answer). answer_word answer ++ unless_refused a rest) e)

-- a text and a line, by their parts
module _ (p : Part) {out middle : List ℕ} {at end : ℕ} (answer : Answer) (word : Wrote out at (worded answer) end middle) where
  module _ (k : OneOf (0 ∷ 1 ∷ 2 ∷ 3 ∷ []) (tag_of the_type answer)) {left : List ℕ} {last : ℕ} where
    pub text_answered : (int : Bool) (low high : ℕ) → Wrote middle end (columns p int low high) last left → Wrote out at (answer_text p answer int low high) last left
    unfolding answer_text
    text_answered int low high rest = wrote_as (worded_rest answer k (columns p int low high)) (wrote_both word rest)

    pub line_answered : (kept : List ℕ) → Wrote middle end (kept_of p kept) last left → (int : Bool) (low high : ℕ) → Keeps p kept int low high
        → Wrote out at (answer_line p answer int low high) last left
    unfolding answer_line answer_text
    line_answered kept rest int low high keeps =
        let cols : List ℕ = columns p int low high in
        wrote_as (sym (append_assoc (worded answer) cols newline) ∙ ap (λ (x : List ℕ). x ++ newline) (worded_rest answer k cols)) (wrote_both word (wrote_as keeps rest))

  pub text_refused : {n : ℕ} → answer ≡ Refused n → (int : Bool) (low high : ℕ) → Wrote out at (answer_text p answer int low high) end middle
  unfolding answer_text
  text_refused e int low high = wrote_as (worded_alone answer e (0x09 ∷ columns p int low high)) word

  pub line_refused : {n : ℕ} → answer ≡ Refused n → {left : List ℕ} {last : ℕ} → Wrote middle end newline last left → (int : Bool) (low high : ℕ)
      → Wrote out at (answer_line p answer int low high) last left
  unfolding answer_line
  line_refused e rest int low high = wrote_both (text_refused e int low high) rest

-- the columns and a newline, written into a text that is kept
pub columns_kept : (p : Part) (kept : List ℕ) (int : Bool) (low high : ℕ) → 2 * digits_of p + 4 ≤ length kept → {end : ℕ} {left : List ℕ}
    → Wrote kept 0 (columns p int low high ++ newline) end left → Keeps p left int low high
columns_kept p kept int low high room w =
    let text : List ℕ = columns p int low high ++ newline in
    let long : length text ≡ 2 * digits_of p + 4 = omega (arith, length-append (columns p int low high) newline, columns_long p int low high) in
    ap (kept_of p) (w.holds ∙ sets-eq text kept 0 (omega (arith, long))) ∙ take_at text _ (2 * digits_of p + 4) long

module _ (part : ℕ) where
  text_short : (answer : Answer) (int : Bool) (low high : ℕ) → length (answer_text (part_of part) answer int low high) ≤ 2 * digits_of (part_of part) + 7
  unfolding answer_text answer_word hex_text
  text_short Nothing int low high = omega (arith, columns_long (part_of part) int low high)
  text_short Ack int low high = omega (arith, columns_long (part_of part) int low high)
  text_short Nak int low high = omega (arith, columns_long (part_of part) int low high)
  text_short (Byte b) int low high = omega (arith, columns_long (part_of part) int low high)
  text_short (Refused n) int low high = omega (arith, digits_few part)

  pub text_ends : {out left : List ℕ} {at end : ℕ} (answer : Answer) (int : Bool) (low high : ℕ) → Wrote out at (answer_text (part_of part) answer int low high) end left
      → end ≤ at + 2 * digits_of (part_of part) + 7
  text_ends answer int low high w = omega (arith, w.ends, text_short answer int low high)

  pub told_short : (o : Outcome) → length (shown_line (part_of part) o) ≤ 26
  unfolding shown_line shown_text
  told_short o =
      let int : Bool = int_asserted (part_of part) o.after.regs in
      let low : ℕ = driven_low (part_of part) o.after.regs in
      let high : ℕ = driven_high (part_of part) o.after.regs in
      omega (arith, length-append (answer_text (part_of part) o.answer int low high) newline, text_short o.answer int low high, digits_few part)

pub refused_short : (n : ℕ) → length (refused_line n) ≤ 10
unfolding answer_word
refused_short n = omega arith

-- an event's text and line
module _ (p : Part) (a : Answer) (s : State) (int : Bool) (low high : ℕ) (e : int ≡ int_asserted p s.regs) (f : low ≡ driven_low p s.regs) (g : high ≡ driven_high p s.regs) where
  pub told_text : answer_text p a int low high ≡ shown_text p (out a s)
  unfolding shown_text
  told_text = rw (e, f, g)

  pub told_line : answer_line p a int low high ≡ shown_line p (out a s)
  unfolding answer_line shown_line
  told_line = ap (λ (x : List ℕ). x ++ newline) told_text
