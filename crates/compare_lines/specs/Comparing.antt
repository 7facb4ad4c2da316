-- The answers of a bench against those that trace gives for the same events, line by line; the header is line one.
use Rattle.std.specs.Prelude.{cond, List, [], ◌∷◌, ℕ, suc, ◌+◌, ◌-◌, length, take, drop}
use Rattle.text.specs.Text.{is_word}
use Rattle.text_pieces.specs.Pieces.{newline_at, taken_of}
use Rattle.text_logs.specs.Lines.{lines_of}
use Rattle.trace_logs.specs.Logs.{answers_of}

-- ---- the four verdicts
abbrev pub agrees : ℕ
agrees = 0

abbrev pub departs : ℕ
departs = 1

abbrev pub ends_early : ℕ
ends_early = 2

abbrev pub left_over : ℕ
left_over = 3

-- the verdict, how many lines agree before it, and the answers from the line that is handed back on: nothing where none is
pub record Found : Type 0 where
  pub verdict : ℕ
  pub agreed : ℕ
  pub left : List ℕ

-- the first line of a text, without its newline, and what follows that newline
abbrev pub first_line : List ℕ → List ℕ
first_line text = take (newline_at text) text

abbrev pub after_line : List ℕ → List ℕ
after_line text = drop (taken_of text) text

-- These lines are expected, and so many agree already: the first that differs departs, before it is asked whether lines are missing or left over.
unfoldable pub found : (agreed : ℕ) → (expected : List (List ℕ)) → (answers : List ℕ) → Found
found n [] [] = record { verdict = agrees; agreed = n; left = [] }
found n [] (b ∷ answers) = record { verdict = left_over; agreed = n; left = b ∷ answers }
found n (line ∷ expected) [] = record { verdict = ends_early; agreed = n; left = [] }
found n (line ∷ expected) (b ∷ answers) =
    cond (is_word line (first_line (b ∷ answers))) (found (suc n) expected (after_line (b ∷ answers))) (record { verdict = departs; agreed = n; left = b ∷ answers })

-- what is found where this text is expected
abbrev pub found_in : (agreed : ℕ) → (expected answers : List ℕ) → Found
found_in n expected answers = found n (lines_of [] expected) answers

-- the definition: what is found in the answers to these events
abbrev pub compared : (events answers : List ℕ) → Found
compared events answers = found_in 0 (answers_of events) answers

-- the part of the answers that is handed back: a line without its newline, or the empty part at their end
abbrev pub part_from : (answers : List ℕ) → Found → ℕ
part_from answers f = length answers - length f.left

abbrev pub part_to : (answers : List ℕ) → Found → ℕ
part_to answers f = part_from answers f + newline_at f.left
