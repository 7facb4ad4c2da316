-- `words_bits::high_bits`: the high bits of its fields at its four pins, cut to the pins that exist (`field_exists`). Assumes nothing.
use mathlib.Core.Path.{ap₂, ◌∙◌}
use mathlib.Core.Bool.{◌&&◌}
use Prim.Native.Nat.{ℕ, ◌<◌}
use native.Mathlib.Omega.{arith}
use lib.Bits.{bit_and}
use Rattle.ports.specs.Ports.{in_edge, falling_bit}
use Rattle.map.specs.Map.{room_at, part_of}
use Rattle.words.specs.Words.{digit_at}
use Rattle.words.proofs.Sound.{sound, room_is}
use Rattle.words.proofs.Existing.{field_exists}
use Rattle.words_rows.proofs.Taken.{known_small}
use Rattle.words_bits.proofs.high_bits.Goals as goal

pub returns : goal.returns
returns c =
    λ part n known e two i.
    let a = c.args in
    let p = part_of part in
    let h : n < 128 = known_small a.row part n known e in
    c.falling_at.ensures i
    ∙ ap₂ (λ (k m : ℕ). in_edge k i && falling_bit (bit_and a.value m) i) (c.fourth.ensures.0 part n h e two) (c.existing.ensures part n known e)
    ∙ field_exists a.value (room_at p n) (digit_at p n) p.width 1 (omega arith) (rw two at (room_is p (sound part) n h)) i
