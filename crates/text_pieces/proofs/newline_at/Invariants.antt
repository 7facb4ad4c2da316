-- `text_pieces::newline_at`: four bytes a turn, none of those before is a newline. Assumes nothing.
use mathlib.Core.Path.{◌≡◌}
use Prim.Native.Nat.{◌+◌, ◌-◌, ◌≤◌}
use lib.ListN.{length}
use Rattle.text_pieces.specs.Pieces.{newline_at}
use Rattle.text_pieces.proofs.newline_at.Given as goal

abbrev pub invariant-loop-left : goal.invariant-loop-left
invariant-loop-left l = (length l.left ≤ length l.piece) × (newline_at l.piece ≡ length l.piece - length l.left + newline_at l.left)

abbrev pub decreases-loop-left : goal.decreases-loop-left
decreases-loop-left l = length l.left
