-- `Answers::fill`: no answer is lost, and each read gave one more. Assumes nothing.
use Rattle.std.proofs.Common.{◌≤◌, length}
use Rattle.std.specs.Io.{StartsWith}
use Rattle.compare_answers.proofs.Answers.fill.Given as goal

abbrev pub invariant-loop : goal.invariant-loop
invariant-loop g l = (l.counter ≤ length l.self.left) × StartsWith l.self.left l.fn.self.left
