-- `Answers::fill_line`: no answer is lost. Assumes nothing.
use Rattle.std.specs.Io.{StartsWith}
use Rattle.compare_answers.proofs.Answers.fill_line.Given as goal

abbrev pub invariant-loop : goal.invariant-loop
invariant-loop g l = StartsWith l.self.left l.fn.self.left
