-- `text_begins::begins`: eight bytes that are the same take nothing away, eight that differ decide, and so do the last eight. Assumes nothing.
use mathlib.Core.Path.{◌≡◌}
use Prim.Native.Nat.{◌-◌, ◌≤◌}
use lib.ListN.{length, drop}
use Rattle.text.specs.Text.{starts_with}
use Rattle.text_begins.proofs.begins.Given as goal

abbrev pub invariant-loop-i : goal.invariant-loop-i
invariant-loop-i l = (l.i ≤ length l.word) × (8 ≤ length l.word) × (length l.word ≤ length l.s) × (starts_with l.word l.s ≡ starts_with (drop l.i l.word) (drop l.i l.s))

abbrev pub decreases-loop-i : goal.decreases-loop-i
decreases-loop-i l = length l.word - l.i
