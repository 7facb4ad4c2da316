-- A log in pieces: what a piece gives, and what is carried to the next, as the trace program answers a line.
use Rattle.std.specs.Prelude.{List, [], ◌++◌, ℕ}
use Rattle.text_logs.specs.Pieces as pieces
use Rattle.trace_session.specs.Tracing.{Session, Traced, answer_to}
use Rattle.trace_session.specs.Tracing.Session.{NoDevice}
use Rattle.trace_logs.specs.Logs.{header}

-- what there is, and the line that has begun
abbrev pub Reading : Type 0
Reading = pieces.Reading Session

-- the answer of the line that has begun
abbrev pub answer_of : Reading → Traced
answer_of r = pieces.answer_of answer_to r

-- before the log: no device yet, and no line
abbrev pub opened : Reading
opened = pieces.reading NoDevice []

-- answers, and where the reading stands after them
abbrev pub Given : Type 0
Given = pieces.Given Session

-- it is answered, and the next begins
abbrev pub ended : Reading → Given
ended r = pieces.ended answer_to r

-- what a piece gives
abbrev pub given : Reading → (piece : List ℕ) → Given
given r piece = pieces.given answer_to r piece

-- what the first line of a piece gives, or all of a piece with no newline
abbrev pub first_given : Reading → (piece : List ℕ) → Given
first_given r piece = pieces.first_given answer_to r piece

-- at the end of the log: a line that has begun counts
abbrev pub at_end : Reading → Given
at_end r = pieces.at_end answer_to r

abbrev pub last_text : Reading → List ℕ
last_text r = (at_end r).text

-- what is given and what the end gives then
abbrev pub to_end : Given → List ℕ
to_end g = pieces.to_end answer_to g

-- what is written for a log that arrives in any pieces: the header, the answers of each piece, and at the end a last line's
unfoldable pub written : (pieces : List (List ℕ)) → List ℕ
written arrived = header ++ to_end (pieces.given_all answer_to opened arrived)
