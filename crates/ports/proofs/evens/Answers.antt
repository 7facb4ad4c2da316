-- `ports::evens`: tried at all 256 bytes (`evens_set`). Assumes nothing.
use mathlib.Core.Path.{◌≡◌}
use Prim.Native.Nat.{◌*◌, ◌<◌}
use Rattle.bits.specs.Bits.{bit}
use Rattle.bits.proofs.Laws.{tabulate_lt}
use Rattle.ports.specs.Ports.{evens_of}
use Rattle.ports.proofs.Fields.{evens_set}
use native.Mathlib.Omega.{arith}
use Rattle.ports.proofs.evens.Goals as goal

pub returns : goal.returns
returns c =
    let e : _ ≡ evens_of c.args.byte = evens_set c.args.byte c.ranges.byte.fits in
    let h : evens_of c.args.byte < 16 = tabulate_lt 4 (λ j. bit c.args.byte (2 * j)) in
    (e, omega (arith, e, h))
