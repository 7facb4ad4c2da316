-- `words_writes::write_edge`: the fields are merged into its two words, and the pins move by their rule. Assumes nothing.
use mathlib.Core.Path.{refl, sym, ap₂}
use mathlib.Core.Bool.{Bool}
use Prim.Native.Nat.{◌<◌}
use Rattle.pins.specs.Pin.{edge_written}
use Rattle.pins.specs.OnePin.{pin_after}
use Rattle.pins.specs.OnePin.Happening.{EdgeWritten}
use Rattle.ports.specs.Ports.{rising_bit, falling_bit}
use Rattle.map.specs.Map.{part_of}
use Rattle.map.specs.Map.Kind.{Edge}
use Rattle.registers.specs.Registers.{written_to}
use Rattle.words.proofs.Sound.{sound}
use Rattle.words.proofs.Holding.{within}
use Rattle.words_rows.proofs.Taken.{known_small, stored_by, paired_by, its_kind, its_word}
use Rattle.words_writes.proofs.Wrote.{pair_moved}
use Rattle.words_writes.proofs.write_edge.Goals as goal

pub returns : goal.returns
unfolding written_to pin_after
returns c =
    λ part n known e r fit.
    let a = c.args in
    let p = part_of part in
    let w = a.words.now in
    let v = a.value in
    let hv = c.ranges.value.fits in
    let hn : n < 128 = known_small a.row part n known e in
    let two = paired_by part n 8 hn (sym r) 8 refl in
    pair_moved p (sound part) w fit n v hn hv (stored_by part n 8 hn (sym r) 8 refl) 8 (its_word part n 8 hn (sym r) Edge refl refl) refl _ _ _
    (c.field_pins-here.ensures part n hn e two) (c.low_bits-low.ensures part n known e two)
    (c.high_bits-high.ensures part n known e two) Edge (its_kind part n 8 hn (sym r) Edge refl) refl
    (λ i. EdgeWritten (rising_bit v i) (falling_bit v i)) (λ i. refl) _ (λ i x y q. ap₂ (λ (a b : Bool). edge_written a b q) x y)
    (c.write_fields.ensures p.width (within p (sound part) w fit))
