-- The lines of a text, and the text that answers them, given what answers one line.
use Rattle.std.specs.Prelude.{◌≡◌, cond, List, [], ◌∷◌, ◌++◌, ℕ, eqb}
use Rattle.text.specs.Text.{Wrote}

-- the line that answers, and what there is after it
pub record Reply (X : Type 0) : Type 0 where
  pub line : List ℕ
  pub after : X

-- the line written from at on, and what there is after it
pub record Says {X : Type 0} (t : Reply X) (out : List ℕ) (at end : ℕ) (left : List ℕ) (after : X) : Type 0 where
  pub says : Wrote out at t.line end left
  pub goes_on : after ≡ t.after

-- a last line without newline counts if it holds a byte
abbrev pub last_line : List ℕ → List (List ℕ)
last_line [] = []
last_line (b ∷ line) = (b ∷ line) ∷ []

-- the lines of a text, without their newlines, where the first has begun with these bytes
unfoldable pub lines_of : (begun text : List ℕ) → List (List ℕ)
lines_of begun [] = last_line begun
lines_of begun (b ∷ text) = cond (eqb b 0x0a) (begun ∷ lines_of [] text) (lines_of (begun ++ (b ∷ [])) text)

-- a line for each line
unfoldable pub answers_from : {X : Type 0} → (answer : X → List ℕ → Reply X) → X → List (List ℕ) → List ℕ
answers_from answer x [] = []
answers_from answer x (l ∷ lines) = (answer x l).line ++ answers_from answer (answer x l).after lines
