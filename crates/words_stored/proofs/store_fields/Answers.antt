-- `words_stored::store_fields`: the fields are merged into the two words of their register (`pair_kept`). Assumes nothing.
use mathlib.Core.Path.{sym, ap, ◌∙◌}
use Rattle.map.specs.Map.{part_of}
use Rattle.words.specs.Words.{paired}
use Rattle.words.proofs.Sound.{sound}
use Rattle.words_rows.proofs.Taken.{stored_known}
use Rattle.words_writes.proofs.Wrote.{pair_kept}
use Rattle.words_stored.proofs.store_fields.Goals as goal

pub returns : goal.returns
returns c =
    λ part n hn e st es two fit.
    let a = c.args in
    let known = stored_known part n hn st in
    let both = ap paired (sym es) ∙ two in
    rw c.put_pair.ensures
    (pair_kept (part_of part) (sound part) a.words.now fit n a.value hn c.ranges.value.fits st a.first es two _ _ _
    (c.field_pins.ensures part n hn e both) (c.low_bits.ensures part n known e both) (c.high_bits.ensures part n known e both))
