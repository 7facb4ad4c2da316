-- `compare_program::compare_files`: a read gives no more than there is room for. Assumes nothing.
use Rattle.std.proofs.Common.{◌≤◌}
use Rattle.compare_program.proofs.compare_files.Given as goal

abbrev pub invariant-loop : goal.invariant-loop
invariant-loop g l = l.count ≤ 16384
