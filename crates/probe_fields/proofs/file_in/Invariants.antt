-- `probe_fields::file_in`: at each turn the bytes stored and those left are all bytes of the line. Assumes nothing.
use mathlib.Core.Path.{◌≡◌}
use Prim.Native.Nat.{◌*◌, ◌-◌}
use lib.Seq.{sets}
use Rattle.probe_fields.specs.Fields.{bytes_at}
use Rattle.probe_fields.proofs.file_in.Given as goal

abbrev pub invariant-loop-i : goal.invariant-loop-i
invariant-loop-i l = sets l.file l.i (bytes_at l.line (2 * l.i) (128 - l.i)) ≡ sets l.initial.file 0 (bytes_at l.line 0 128)
