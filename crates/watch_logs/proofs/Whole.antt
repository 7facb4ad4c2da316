-- What is written for a log is a function of its text, whatever the pieces in which it arrives. Assumes nothing.
use mathlib.Core.Path.{◌≡◌, ap}
use mathlib.Core.List.{List, ◌++◌}
use Prim.Native.Nat.{ℕ}
use Rattle.text_logs.specs.Pieces.{joined}
use Rattle.text_logs.proofs.Whole as pieces
use Rattle.watch_session.specs.Watch.{answer_to}
use Rattle.watch_session.specs.Watch.Session.{NoDevice}
use Rattle.watch_logs.specs.Logs.{header, answers_of}
use Rattle.watch_logs.specs.Pieces.{written}
use Rattle.watch_session.specs.Bounds.{answer_cut}

-- the theorem: the answers of the log that the pieces make
pub whole_log : (pieces : List (List ℕ)) → written pieces ≡ answers_of (joined pieces)
unfolding written answers_of
whole_log arrived = ap (λ (s : List ℕ). header ++ s) (pieces.in_pieces answer_to answer_cut NoDevice arrived)
