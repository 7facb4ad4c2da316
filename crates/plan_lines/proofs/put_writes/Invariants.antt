-- `plan_lines::put_writes`: write by write, the text so far is that of the writes so far. Assumes nothing.
use mathlib.Core.Path.{◌≡◌}
use Rattle.std.specs.Slice.Iter.{chunks_exact_rest, chunks_exact_size}
use Rattle.plan_lines.proofs.Writing.{Writing}
use Rattle.plan_lines.proofs.put_writes.Given as goal

abbrev pub invariant-loop-pair : goal.invariant-loop-pair
invariant-loop-pair l = Writing l.initial.out l.at l.pairs l.out (chunks_exact_rest l.pair-iterator) l.end × (chunks_exact_size l.pair-iterator ≡ 2)
