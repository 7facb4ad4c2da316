-- A log in pieces: what a piece gives, and what is carried to the next, as the watch program answers a line.
use Rattle.std.specs.Prelude.{List, [], ◌++◌, ℕ}
use Rattle.text_logs.specs.Pieces as pieces
use Rattle.watch_session.specs.Watch.{Session, answer_to}
use Rattle.watch_session.specs.Watch.Session.{NoDevice}
use Rattle.watch_logs.specs.Logs.{header}

-- what there is, and the line that has begun
abbrev pub Reading : Type 0
Reading = pieces.Reading Session

-- before the log: no device yet, and no line
abbrev pub opened : Reading
opened = pieces.reading NoDevice []

-- answers, and where the reading stands after them
abbrev pub Given : Type 0
Given = pieces.Given Session

-- what a piece gives
abbrev pub given : Reading → (piece : List ℕ) → Given
given r piece = pieces.given answer_to r piece

-- what the first line of a piece gives, or all of a piece with no newline
abbrev pub first_given : Reading → (piece : List ℕ) → Given
first_given r piece = pieces.first_given answer_to r piece

-- what is given and what the end gives then
abbrev pub to_end : Given → List ℕ
to_end g = pieces.to_end answer_to g

-- what is written for a log that arrives in any pieces: the header, the answers of each piece, and at the end a last line's
unfoldable pub written : (pieces : List (List ℕ)) → List ℕ
written arrived = header ++ to_end (pieces.given_all answer_to opened arrived)
