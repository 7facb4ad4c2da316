-- `text::put_hex`: at each turn the digits stored from the right and those left are all digits. Assumes nothing.
use mathlib.Core.Path.{◌≡◌}
use lib.ListN.{length}
use lib.Seq.{sets}
use Rattle.text.specs.Text.{hex_text}
use Rattle.text.proofs.put_hex.Given as goal

abbrev pub invariant-loop-i : goal.invariant-loop-i
invariant-loop-i l = (length l.out ≡ length l.initial.out) × (sets l.out l.at (hex_text l.i l.rest) ≡ sets l.initial.out l.at (hex_text l.count l.n))
