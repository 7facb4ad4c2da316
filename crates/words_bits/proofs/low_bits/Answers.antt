-- `words_bits::low_bits`: the low bits of its fields at its four pins, cut to the pins that exist (`field_exists`). Assumes nothing.
use mathlib.Core.Path.{ap₂, ◌∙◌}
use mathlib.Core.Bool.{◌&&◌}
use Prim.Native.Nat.{ℕ, ◌<◌}
use native.Mathlib.Omega.{arith}
use native.Mathlib.Nat.{add-zero}
use mathlib.Core.Path.{ap, sym}
use mathlib.Core.Bool.{Bool}
use Prim.Native.Nat.{◌-◌, ◌*◌, ◌%◌, ◌^◌}
use lib.Dec.{ltb}
use Rattle.bits.specs.Bits.{bit}
use lib.Bits.{bit_and}
use Rattle.ports.specs.Ports.{in_edge, rising_bit}
use Rattle.map.specs.Map.{room_at, part_of}
use Rattle.words.specs.Words.{digit_at}
use Rattle.words.proofs.Sound.{sound, room_is}
use Rattle.words.proofs.Existing.{field_exists}
use Rattle.words_rows.proofs.Taken.{known_small}
use Rattle.words_bits.proofs.low_bits.Goals as goal

pub returns : goal.returns
returns c =
    λ part n known e two i.
    let a = c.args in
    let p = part_of part in
    let h : n < 128 = known_small a.row part n known e in
    c.rising_at.ensures i
    ∙ ap₂ (λ (k m : ℕ). in_edge k i && rising_bit (bit_and a.value m) i) (c.fourth.ensures.0 part n h e two) (c.existing.ensures part n known e)
    ∙ ap (λ (x : Bool). in_edge (digit_at p n) i && x) (ap (bit (bit_and a.value (2 ^ room_at p n - 1))) (sym (add-zero (2 * (i % 4)))))
    ∙ field_exists a.value (room_at p n) (digit_at p n) p.width 0 (omega arith) (rw two at (room_is p (sound part) n h)) i
    ∙ ap (λ (j : ℕ). in_edge (digit_at p n) i && (bit a.value j && ltb i p.width)) (add-zero (2 * (i % 4)))
