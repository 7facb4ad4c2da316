-- One line that is expected, and the answers that are left: what judging it promises.
use Rattle.std.specs.Prelude.{◌≡◌, List, [], ◌++◌, ℕ, suc, ◌≤◌, length, drop, Result, MatchResult}
use Rattle.text_pieces.specs.Pieces.{newline_at}
use Rattle.text_answers.specs.Answers.{newline}
use Rattle.compare_lines.specs.Comparing.{found_in}
use Rattle.compare_lines.specs.Verdicts.{number_of}
use Rattle.compare_lines.specs.declared.Verdict.{Verdict}

-- a line with its newline, and no other newline in it
pub record OneLine (line : List ℕ) : Type 0 where
  pub text : List ℕ
  pub plain : newline_at text ≡ length text
  pub is : line ≡ text ++ newline

-- The line is the next, or the last and unended, and takes so many bytes of these answers, which are all that are left unless they are longer than the line.
pub record Takes (line answers : List ℕ) (taken : ℕ) : Type 0 where
  pub within : taken ≤ length answers
  pub short : taken ≤ length line
  pub goes_on : OneLine line → (n : ℕ) (expected more : List ℕ) → (length answers ≤ length line → more ≡ [])
      → found_in n (line ++ expected) (answers ++ more) ≡ found_in (suc n) expected (drop taken answers ++ more)

-- The line decides: with this verdict, and all of these answers left.
pub record Decides (line answers : List ℕ) (verdict : ℕ) : Type 0 where
  pub decides : OneLine line → (n : ℕ) (expected more : List ℕ) → (length answers ≤ length line → more ≡ [])
      → found_in n (line ++ expected) (answers ++ more) ≡ record { verdict = verdict; agreed = n; left = answers ++ more }

-- What a line that is expected makes of these answers: the bytes that it takes, or the verdict.
abbrev pub Judges : (line answers : List ℕ) → Result ℕ Verdict → Type 0
Judges line answers judged = MatchResult judged (Takes line answers) (λ verdict. Decides line answers (number_of verdict))
