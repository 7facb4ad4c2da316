-- `watch::main`: few bytes of a line have begun from piece to piece, and the answers have room. Assumes nothing.
use Rattle.std.proofs.Common.{◌≡◌, ◌≤◌, length}
use Rattle.watch.proofs.main.Given as goal

abbrev pub invariant-loop : goal.invariant-loop
invariant-loop l =
    (length l.piece ≡ 16384) × (length l.out ≡ 164206) × (length l.log.begun ≤ 33)
