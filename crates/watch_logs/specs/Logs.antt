-- A whole watched log: its text in, the answers' text out.
use Rattle.std.specs.Prelude.{List, [], ◌∷◌, ◌++◌, ℕ}
use Rattle.text_logs.specs.Lines.{lines_of, answers_from}
use Rattle.watch_session.specs.Watch.{answer_to}
use Rattle.watch_session.specs.Watch.Session.{NoDevice}

-- `answer`, `int`, `low`, `high` and `marks`, tabs between them, and a newline
unfoldable pub header : List ℕ
header =
    0x61 ∷ 0x6e ∷ 0x73 ∷ 0x77 ∷ 0x65 ∷ 0x72 ∷ 0x09 ∷ 0x69 ∷ 0x6e ∷ 0x74 ∷ 0x09 ∷ 0x6c ∷ 0x6f ∷ 0x77 ∷ 0x09 ∷ 0x68 ∷ 0x69 ∷ 0x67 ∷ 0x68
    ∷ 0x09 ∷ 0x6d ∷ 0x61 ∷ 0x72 ∷ 0x6b ∷ 0x73 ∷ 0x0a ∷ []

-- a line for each line
unfoldable pub answers_of : (log : List ℕ) → List ℕ
answers_of log = header ++ answers_from answer_to NoDevice (lines_of [] log)
