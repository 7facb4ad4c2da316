-- `words_writes::write_strength`: the fields are merged into its two words, and no pin moves. Assumes nothing.
use mathlib.Core.Path.{refl, sym}
use Prim.Native.Nat.{◌<◌}
use Rattle.map.specs.Map.{part_of}
use Rattle.words.proofs.Sound.{sound}
use Rattle.words_rows.proofs.Taken.{known_small, rule_strength, stored_by, still_by, paired_by}
use Rattle.words_writes.proofs.Wrote.{pair_wrote}
use Rattle.words_writes.proofs.write_strength.Goals as goal

pub returns : goal.returns
returns c =
    λ part n known e r fit.
    let a = c.args in
    let w = a.words.now in
    let v = a.value in
    let hv = c.ranges.value.fits in
    let hn : n < 128 = known_small a.row part n known e in
    let two = paired_by part n 14 hn (sym r) 14 refl in
    rw c.put_pair.ensures
    (pair_wrote (part_of part) (sound part) w fit n v hn hv (stored_by part n 14 hn (sym r) 14 refl) 13 (sym (rule_strength part n hn r)) refl _ _ _
    (c.field_pins-here.ensures part n hn e two) (c.low_bits-low.ensures part n known e two)
    (c.high_bits-high.ensures part n known e two) (still_by part n 14 hn (sym r) 14 refl))
