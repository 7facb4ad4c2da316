-- A line that is expected, and the answers that are left: one is the beginning of the other, or they part. Assumes nothing.
use mathlib.Core.Path.{◌≡◌, refl, ap, sym, ◌∙◌}
use mathlib.Core.Bool.{Bool, true, false, cond, ◌&&◌}
use mathlib.Core.List.{List, [], ◌∷◌, ◌++◌, append_assoc, append-nil}
use Prim.Native.Nat.{ℕ, suc, ◌+◌, ◌-◌, ◌<◌, ◌≤◌}
use native.Mathlib.Omega.{arith}
use borrow.Author.Tests.{eq-eqb, eqb-true, lt-ltb, le-ltb, ltb-true, ltb-false}
use lib.Dec.{eqb, ltb}
use lib.ListN.{length, take, drop, length-append, length-take}
use lib.Seq.{drop-length, take_all, take-length, take-append_seam, drop-append-add}
use Rattle.bits.proofs.Decide.{clash, and_left, and_right}
use Rattle.text.specs.Text.{starts_with, is_word}
use Rattle.text_pieces.specs.Pieces.{newline_at, taken_of}
use Rattle.text_answers.specs.Answers.{newline}
use Rattle.text_logs.specs.Lines.{lines_of}
use Rattle.compare_lines.specs.Comparing.{departs, ends_early, first_line, after_line, found, found_in}
use Rattle.compare_lines.specs.Judging.{OneLine, Takes, Decides}

-- ---- words
starts_on : (word more : List ℕ) → starts_with word (word ++ more) ≡ true
unfolding starts_with
starts_on [] more = refl
starts_on (w ∷ word) more = rw (eq-eqb w w refl) (starts_on word more)

starts_is : (word text : List ℕ) → starts_with word text ≡ true → text ≡ word ++ drop (length word) text
unfolding starts_with
starts_is [] text e = refl
starts_is (w ∷ word) [] e = clash false e refl
starts_is (w ∷ word) (b ∷ text) e =
    let q : b ≡ w = eqb-true b w (and_left (eqb b w) (starts_with word text) e) in
    ap (λ (x : ℕ). x ∷ text) q ∙ ap (λ (x : List ℕ). w ∷ x) (starts_is word text (and_right (eqb b w) (starts_with word text) e))

-- more text after as many bytes as the word has changes nothing
starts_more : (word text more : List ℕ) → length word ≤ length text → starts_with word (text ++ more) ≡ starts_with word text
unfolding starts_with
starts_more [] text more h = refl
starts_more (w ∷ word) [] more h = absurd (omega arith)
starts_more (w ∷ word) (b ∷ text) more h = ap (λ (t : Bool). eqb b w && t) (starts_more word text more (omega arith))

pub word_itself : (word : List ℕ) → is_word word word ≡ true
unfolding is_word
word_itself word = rw (eq-eqb (length word) (length word) refl) (ap (starts_with word) (sym (append-nil word)) ∙ starts_on word [])

pub word_is : (word text : List ℕ) → is_word word text ≡ true → text ≡ word
unfolding is_word
word_is word text e =
    let l : length text ≡ length word = eqb-true (length text) (length word) (and_left (eqb (length text) (length word)) (starts_with word text) e) in
    starts_is word text (and_right (eqb (length text) (length word)) (starts_with word text) e)
    ∙ ap (λ (n : ℕ). word ++ drop n text) (sym l) ∙ ap (λ (x : List ℕ). word ++ x) (drop-length text) ∙ append-nil word

-- ---- newlines
plain_tail : (b : ℕ) (s : List ℕ) → newline_at (b ∷ s) ≡ suc (length s) → (eqb b 0x0a ≡ false) × (newline_at s ≡ length s)
unfolding newline_at
plain_tail b s e = go (eqb b 0x0a) e
  where
    go : (t : Bool) → cond t 0 (suc (newline_at s)) ≡ suc (length s) → (t ≡ false) × (newline_at s ≡ length s)
    go true e = absurd (omega arith)
    go false e = (refl, omega arith)

pub newline_after : (s t : List ℕ) → newline_at s ≡ length s → newline_at (s ++ t) ≡ length s + newline_at t
unfolding newline_at
newline_after [] t e = omega arith
newline_after (b ∷ s) t e =
    let p = plain_tail b s e in
    rw p.0 (omega (arith, newline_after s t p.1))

-- the lines of a text that begins with a line
lines_first : (begun s rest : List ℕ) → newline_at s ≡ length s → lines_of begun (s ++ (0x0a ∷ rest)) ≡ (begun ++ s) ∷ lines_of [] rest
unfolding lines_of
lines_first begun [] rest e = ap (λ (x : List ℕ). x ∷ lines_of [] rest) (sym (append-nil begun))
lines_first begun (b ∷ s) rest e =
    let p = plain_tail b s e in
    rw p.0 (lines_first (begun ++ (b ∷ [])) s rest p.1 ∙ ap (λ (x : List ℕ). x ∷ lines_of [] rest) (append_assoc begun (b ∷ []) s))

-- a text that begins with a line and its newline, or is a line without one
module _ (s : List ℕ) (plain : newline_at s ≡ length s) where
  line_at : (rest : List ℕ) → newline_at (s ++ (0x0a ∷ rest)) ≡ length s
  unfolding newline_at
  line_at rest = newline_after s (0x0a ∷ rest) plain ∙ omega arith

  first_line_lem : (rest : List ℕ) → first_line (s ++ (0x0a ∷ rest)) ≡ s
  first_line_lem rest = rw (line_at rest) (take-append_seam s (0x0a ∷ rest))

  after_line_lem : (rest : List ℕ) → after_line (s ++ (0x0a ∷ rest)) ≡ rest
  unfolding taken_of
  after_line_lem rest =
      rw (line_at rest, lt-ltb (length s) (length (s ++ (0x0a ∷ rest))) (omega (arith, length-append s (0x0a ∷ rest)))) (drop-append-add s (0x0a ∷ rest) 1)

  first_unended : first_line s ≡ s
  first_unended = rw plain (take-length s)

  after_unended : after_line s ≡ []
  unfolding taken_of
  after_unended = rw (plain, le-ltb (length s) (length s) (omega arith)) (drop-length s)

-- a text with a newline is its first line, the newline, and the rest
line_and_rest : (s : List ℕ) → newline_at s < length s → s ≡ first_line s ++ (0x0a ∷ drop (suc (newline_at s)) s)
unfolding newline_at
line_and_rest [] h = absurd (omega arith)
line_and_rest (b ∷ s) h = go (eqb b 0x0a) refl h (line_and_rest s)
  where
    go : (t : Bool) → eqb b 0x0a ≡ t → cond t 0 (suc (newline_at s)) < suc (length s) → (newline_at s < length s → s ≡ first_line s ++ (0x0a ∷ drop (suc (newline_at s)) s))
        → b ∷ s ≡ take (cond t 0 (suc (newline_at s))) (b ∷ s) ++ (0x0a ∷ drop (suc (cond t 0 (suc (newline_at s)))) (b ∷ s))
    go true e l later = ap (λ (x : ℕ). x ∷ s) (eqb-true b 0x0a e)
    go false e l later = ap (λ (x : List ℕ). b ∷ x) (later (omega arith))

-- ---- one line of the definition
module _ (n : ℕ) (line : List ℕ) (expected : List (List ℕ)) where
  found_same : (answers : List ℕ) → 0 < length answers → first_line answers ≡ line → found n (line ∷ expected) answers ≡ found (suc n) expected (after_line answers)
  unfolding found
  found_same [] h e = absurd (omega arith)
  found_same (b ∷ answers) h e = rw (e, word_itself line) refl

  found_departs : (answers : List ℕ) → 0 < length answers → is_word line (first_line answers) ≡ false
      → found n (line ∷ expected) answers ≡ record { verdict = departs; agreed = n; left = answers }
  unfolding found
  found_departs [] h e = absurd (omega arith)
  found_departs (b ∷ answers) h e = rw e refl

-- ---- a line that is expected
module _ {line : List ℕ} (one : OneLine line) where
  expected_first : (expected : List ℕ) → lines_of [] (line ++ expected) ≡ one.text ∷ lines_of [] expected
  expected_first expected =
      ap (λ (x : List ℕ). lines_of [] (x ++ expected)) one.is ∙ ap (lines_of []) (append_assoc one.text newline expected)
      ∙ lines_first [] one.text expected one.plain

  line_long : length line ≡ length one.text + 1
  line_long = ap length one.is ∙ length-append one.text newline

  body_is : take (length line - 1) line ≡ one.text
  body_is =
      let e : length line - 1 ≡ length one.text = omega (arith, line_long) in
      ap (λ (k : ℕ). take k line) e ∙ ap (take (length one.text)) one.is ∙ take-append_seam one.text newline

  module _ (n : ℕ) (expected answers more : List ℕ) (all : length answers ≤ length line → more ≡ []) where
    next : starts_with line answers ≡ true → found_in n (line ++ expected) (answers ++ more) ≡ found_in (suc n) expected (drop (length line) answers ++ more)
    next e =
        let rest : List ℕ = drop (length line) answers ++ more in
        let split : answers ++ more ≡ one.text ++ (0x0a ∷ rest) =
        ap (λ (x : List ℕ). x ++ more) (starts_is line answers e) ∙ append_assoc line (drop (length line) answers) more
        ∙ ap (λ (x : List ℕ). x ++ rest) one.is ∙ append_assoc one.text newline rest in
        ap (λ (x : List (List ℕ)). found n x (answers ++ more)) (expected_first expected)
        ∙ ap (found n (one.text ∷ lines_of [] expected)) split
        ∙ found_same n one.text (lines_of [] expected) (one.text ++ (0x0a ∷ rest)) (omega (arith, length-append one.text (0x0a ∷ rest))) (first_line_lem one.text one.plain rest)
        ∙ ap (found (suc n) (lines_of [] expected)) (after_line_lem one.text one.plain rest)

    last : 0 < length answers → is_word (take (length line - 1) line) answers ≡ true
        → found_in n (line ++ expected) (answers ++ more) ≡ found_in (suc n) expected (drop (length answers) answers ++ more)
    last some e =
        let is : answers ≡ one.text = word_is (take (length line - 1) line) answers e ∙ body_is in
        let none : more ≡ [] = all (omega (arith, ap length is, line_long)) in
        let whole : answers ++ more ≡ one.text = ap (λ (x : List ℕ). answers ++ x) none ∙ append-nil answers ∙ is in
        ap (λ (x : List (List ℕ)). found n x (answers ++ more)) (expected_first expected)
        ∙ ap (found n (one.text ∷ lines_of [] expected)) whole
        ∙ found_same n one.text (lines_of [] expected) one.text (omega (arith, ap length is)) (first_unended one.text one.plain)
        ∙ ap (found (suc n) (lines_of [] expected)) (after_unended one.text one.plain ∙ sym (ap (λ (x : List ℕ). x ++ more) (drop-length answers) ∙ none))

    ends : length answers ≡ 0 → found_in n (line ++ expected) (answers ++ more) ≡ record { verdict = ends_early; agreed = n; left = answers ++ more }
    unfolding found
    ends z =
        let none : more ≡ [] = all (omega arith) in
        let empty : answers ++ more ≡ [] = ap (λ (x : List ℕ). answers ++ x) none ∙ append-nil answers ∙ nothing answers z in
        ap (λ (x : List (List ℕ)). found n x (answers ++ more)) (expected_first expected)
        ∙ rw empty refl
      where
        nothing : (s : List ℕ) → length s ≡ 0 → s ≡ []
        nothing [] e = refl
        nothing (b ∷ s) e = absurd (omega arith)

    -- the first line that is there is not this one
    module _ (some : 0 < length answers) (not_next : starts_with line answers ≡ false) (not_last : is_word (take (length line - 1) line) answers ≡ false) where
      -- the answers begin with the line exactly if those that are seen do
      starts_seen : starts_with line (answers ++ more) ≡ false
      starts_seen = go (ltb (length line) (length answers)) refl
        where
          go : (t : Bool) → ltb (length line) (length answers) ≡ t → starts_with line (answers ++ more) ≡ false
          go true e = let l : length line < length answers = ltb-true (length line) (length answers) e in starts_more line answers more (omega arith) ∙ not_next
          go false e = ap (λ (x : List ℕ). starts_with line (answers ++ x)) (all (ltb-false (length line) (length answers) e)) ∙ ap (starts_with line) (append-nil answers) ∙ not_next

      other_line : first_line (answers ++ more) ≡ one.text → ⊥
      other_line e = go (ltb (newline_at (answers ++ more)) (length (answers ++ more))) refl
        where
          seen : List ℕ
          seen = answers ++ more

          go : (t : Bool) → ltb (newline_at seen) (length seen) ≡ t → ⊥
          go true h =
              let rest : List ℕ = drop (suc (newline_at seen)) seen in
              let is : seen ≡ line ++ rest =
              line_and_rest seen (ltb-true (newline_at seen) (length seen) h) ∙ ap (λ (x : List ℕ). x ++ (0x0a ∷ rest)) e
              ∙ sym (append_assoc one.text newline rest) ∙ ap (λ (x : List ℕ). x ++ rest) (sym one.is) in
              clash (starts_with line seen) (ap (starts_with line) is ∙ starts_on line rest) starts_seen
          go false h =
              let is : seen ≡ one.text = sym (take_all (newline_at seen) seen (ltb-false (newline_at seen) (length seen) h)) ∙ e in
              let none : more ≡ [] = all (omega (arith, ap length is, length-append answers more, line_long)) in
              let itself : answers ≡ one.text = sym (ap (λ (x : List ℕ). answers ++ x) none ∙ append-nil answers) ∙ is in
              clash (is_word (take (length line - 1) line) answers) (ap (λ (x : List ℕ). is_word x answers) body_is ∙ ap (is_word one.text) itself ∙ word_itself one.text) not_last

      parts : found_in n (line ++ expected) (answers ++ more) ≡ record { verdict = departs; agreed = n; left = answers ++ more }
      parts =
          ap (λ (x : List (List ℕ)). found n x (answers ++ more)) (expected_first expected)
          ∙ found_departs n one.text (lines_of [] expected) (answers ++ more) (omega (arith, length-append answers more)) (differs (is_word one.text (first_line (answers ++ more))) refl)
        where
          differs : (t : Bool) → is_word one.text (first_line (answers ++ more)) ≡ t → is_word one.text (first_line (answers ++ more)) ≡ false
          differs true e = absurd (other_line (word_is one.text (first_line (answers ++ more)) e))
          differs false e = e

-- ---- what the code's four ends say
module _ (line answers : List ℕ) where
  -- the line without its newline, as the code names it
  body : length line - 1 - 0 ≡ length line - 1
  body = omega arith

  pub decides_ends : length answers ≡ 0 → Decides line answers ends_early
  decides_ends z = record { decides = λ one n expected more all. ends one n expected answers more all z }

  pub takes_next : starts_with line answers ≡ true → Takes line answers (length line)
  takes_next e = record {
    within = omega (arith, ap length (starts_is line answers e), length-append line (drop (length line) answers));
    short = omega arith;
    goes_on = λ one n expected more all. next one n expected answers more all e;
  }

  pub takes_last : 0 < length answers → is_word (take (length line - 1 - 0) line) answers ≡ true → Takes line answers (length answers)
  takes_last some e = record {
    within = omega arith;
    short = omega (arith, ap length (word_is (take (length line - 1 - 0) line) answers e), length-take (length line - 1 - 0) line);
    goes_on = λ one n expected more all. last one n expected answers more all some (rw body at e);
  }

  pub decides_parts : 0 < length answers → starts_with line answers ≡ false → is_word (take (length line - 1 - 0) line) answers ≡ false → Decides line answers departs
  decides_parts some next last = record { decides = λ one n expected more all. parts one n expected answers more all some next (rw body at last) }
