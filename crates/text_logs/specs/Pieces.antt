-- A log in pieces: what a piece gives, and what is carried to the next, given what answers one line.
use Rattle.std.specs.Prelude.{◌≡◌, cond, List, [], ◌∷◌, ◌++◌, ℕ, ◌≤◌, eqb, ltb, length, take}
use Rattle.text.specs.Text.{Wrote}
use Rattle.text_pieces.specs.Pieces.{newline_at}
use Rattle.text_logs.specs.Lines.{Reply}

-- what there is, and the line that has begun, of which 33 bytes are kept: it is too long whatever follows
pub record Reading (X : Type 0) : Type 0 where
  pub session : X
  pub begun : List ℕ

abbrev pub reading : {X : Type 0} → X → (begun : List ℕ) → Reading X
reading session begun = record { session = session; begun = begun }

abbrev pub grown : {X : Type 0} → Reading X → List ℕ → Reading X
grown r more = reading r.session (take 33 (r.begun ++ more))

-- answers, and where the reading stands after them
pub record Given (X : Type 0) : Type 0 where
  pub text : List ℕ
  pub after : Reading X

abbrev pub nothing : {X : Type 0} → Reading X → Given X
nothing r = record { text = []; after = r }

abbrev pub and_then : {X : Type 0} → List ℕ → Given X → Given X
and_then text g = record { text = text ++ g.text; after = g.after }

-- the answer of the line that has begun
abbrev pub answer_of : {X : Type 0} → (answer : X → List ℕ → Reply X) → Reading X → Reply X
answer_of answer r = answer r.session r.begun

-- it is answered, and the next begins
abbrev pub ended : {X : Type 0} → (answer : X → List ℕ → Reply X) → Reading X → Given X
ended answer r = record { text = (answer_of answer r).line; after = reading (answer_of answer r).after [] }

-- what a piece gives, byte by byte
unfoldable pub given : {X : Type 0} → (answer : X → List ℕ → Reply X) → Reading X → (piece : List ℕ) → Given X
given answer r [] = nothing r
given answer r (b ∷ piece) =
    cond (eqb b 0x0a) (and_then (ended answer r).text (given answer (ended answer r).after piece)) (given answer (grown r (b ∷ [])) piece)

-- the same by lines: what the first line of a piece gives, or all of a piece with no newline
unfoldable pub first_given : {X : Type 0} → (answer : X → List ℕ → Reply X) → Reading X → (piece : List ℕ) → Given X
first_given answer r piece =
    cond (ltb (newline_at piece) (length piece)) (ended answer (grown r (take (newline_at piece) piece))) (nothing (grown r piece))

-- at the end of the log: a line that has begun counts
unfoldable pub at_end : {X : Type 0} → (answer : X → List ℕ → Reply X) → Reading X → Given X
at_end answer r = cond (eqb (length r.begun) 0) (nothing r) (ended answer r)

-- what is given and what the end gives then
abbrev pub to_end : {X : Type 0} → (answer : X → List ℕ → Reply X) → Given X → List ℕ
to_end answer g = g.text ++ (at_end answer g.after).text

-- ---- a log that arrives in any pieces
unfoldable pub joined : (pieces : List (List ℕ)) → List ℕ
joined [] = []
joined (piece ∷ pieces) = piece ++ joined pieces

unfoldable pub given_all : {X : Type 0} → (answer : X → List ℕ → Reply X) → Reading X → (pieces : List (List ℕ)) → Given X
given_all answer r [] = nothing r
given_all answer r (piece ∷ pieces) = and_then (given answer r piece).text (given_all answer (given answer r piece).after pieces)

-- ---- what the code leaves
-- the answers written from at on, and where the reading stands after them
pub record Gives {X : Type 0} (g : Given X) (out : List ℕ) (at end : ℕ) (left : List ℕ) (after : Reading X) : Type 0 where
  pub wrote : Wrote out at g.text end left
  pub goes_on : after ≡ g.after
  pub small : length after.begun ≤ 33
