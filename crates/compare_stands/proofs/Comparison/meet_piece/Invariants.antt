-- `Comparison::meet_piece`: what has begun of an event fits the room for it; each turn takes of the piece. Assumes nothing.
use Rattle.std.proofs.Common.{◌≤◌, length}
use Rattle.compare_stands.proofs.Comparison.meet_piece.Given as goal

abbrev pub invariant-loop-rest : goal.invariant-loop-rest
invariant-loop-rest g l = l.begun ≤ 33

abbrev pub decreases-loop-rest : goal.decreases-loop-rest
decreases-loop-rest g l = length l.rest
