-- `text::starts`: at each turn the rest of the word and of the text decide as the whole did. Assumes nothing.
use mathlib.Core.Path.{◌≡◌}
use Prim.Native.Nat.{◌≤◌}
use lib.ListN.{length, drop}
use Rattle.text.specs.Text.{starts_with}
use Rattle.text.proofs.starts.Given as goal

abbrev pub invariant-loop-i : goal.invariant-loop-i
invariant-loop-i l = (length l.word ≤ length l.s) × (starts_with l.word l.s ≡ starts_with (drop l.i l.word) (drop l.i l.s))
