-- `plan_program::Lines::answer_piece`: each turn takes a line off the piece, with its newline where that is there. Assumes nothing.
use Rattle.std.proofs.Common.{◌≤◌, length}
use Rattle.plan_fields.specs.Asks.{Said}
use Rattle.plan_program.proofs.Lines.answer_piece.Given as goal

abbrev pub invariant-loop-rest : goal.invariant-loop-rest
invariant-loop-rest g l = (length l.rest ≤ length l.piece) × Said l.self.reading

abbrev pub decreases-loop-rest : goal.decreases-loop-rest
decreases-loop-rest g l = length l.rest
