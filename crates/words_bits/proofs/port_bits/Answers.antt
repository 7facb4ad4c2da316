-- `words_bits::port_bits`: the byte at its port, cut to the bits that exist in its word (`port_exists`). Assumes nothing.
use mathlib.Core.Path.{ap₂, ◌∙◌}
use mathlib.Core.Bool.{◌&&◌}
use Prim.Native.Nat.{ℕ, ◌<◌}
use lib.Bits.{bit_and}
use Rattle.ports.specs.Ports.{in_port, port_bit}
use Rattle.map.specs.Map.{room_at, part_of}
use Rattle.words.specs.Words.{slot_at, digit_at, wide_of}
use Rattle.words.proofs.Sound.{sound, room_is}
use Rattle.words.proofs.Existing.{port_exists}
use Rattle.words_rows.proofs.Taken.{known_small}
use Rattle.words_bits.proofs.port_bits.Goals as goal

pub returns : goal.returns
returns c =
    λ part n known e one i.
    let a = c.args in
    let p = part_of part in
    let h : n < 128 = known_small a.row part n known e in
    c.at_port.ensures i
    ∙ ap₂ (λ (k m : ℕ). in_port k i && port_bit (bit_and a.value m) i) (c.port.ensures.0 part n h e one) (c.existing.ensures part n known e)
    ∙ port_exists a.value (room_at p n) (digit_at p n) (wide_of p (slot_at p n)) (rw one at (room_is p (sound part) n h)) i
