-- What is written for a log is a function of its text, whatever the pieces in which it arrives. Assumes nothing.
use mathlib.Core.Path.{◌≡◌, ap}
use mathlib.Core.List.{List, ◌++◌}
use Prim.Native.Nat.{ℕ}
use Rattle.text_logs.specs.Pieces.{joined}
use Rattle.text_logs.proofs.Whole as pieces
use Rattle.trace_session.specs.Tracing.{answer_to}
use Rattle.trace_session.specs.Tracing.Session.{NoDevice}
use Rattle.trace_session.specs.Bounds.{answer_cut}
use Rattle.trace_logs.specs.Logs.{header, answers_of}
use Rattle.trace_logs.specs.Pieces.{opened, given, to_end, written}

-- a log in one piece
pub one_piece : (log : List ℕ) → header ++ to_end (given opened log) ≡ answers_of log
unfolding answers_of
one_piece log = ap (λ (s : List ℕ). header ++ s) (pieces.one_piece answer_to answer_cut NoDevice log)

-- the theorem: the answers of the log that the pieces make
pub whole_log : (pieces : List (List ℕ)) → written pieces ≡ answers_of (joined pieces)
unfolding written answers_of
whole_log arrived = ap (λ (s : List ℕ). header ++ s) (pieces.in_pieces answer_to answer_cut NoDevice arrived)
