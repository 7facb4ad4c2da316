-- `probe_program::answer_piece`: each turn takes a line off the piece, with its newline where that is there. Assumes nothing.
use Rattle.std.proofs.Common.{◌≤◌, length}
use Rattle.probe_program.proofs.answer_piece.Given as goal

abbrev pub invariant-loop-rest : goal.invariant-loop-rest
invariant-loop-rest g l = (length l.rest ≤ length l.piece) × (l.end ≤ 65536)

abbrev pub decreases-loop-rest : goal.decreases-loop-rest
decreases-loop-rest g l = length l.rest
