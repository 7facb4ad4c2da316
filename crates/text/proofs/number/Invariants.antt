-- `text::number`: at each turn the number so far and the rest of the digits say what all digits say; so many digits bound it. Assumes nothing.
use mathlib.Core.Path.{◌≡◌}
use Prim.Native.Nat.{◌<◌, ◌^◌}
use lib.ListN.{drop}
use Rattle.text.specs.Text.{number_of}
use Rattle.text.proofs.number.Given as goal

abbrev pub invariant-loop-b : goal.invariant-loop-b
invariant-loop-b l = (l.n < 16 ^ l.b-index) × (number_of 0 l.s ≡ number_of l.n (drop l.b-index l.s))
