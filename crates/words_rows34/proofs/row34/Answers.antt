-- `words_rows34::row34`: the table is tested once, entry by entry, against the row that the map gives, which antt computes. Assumes nothing.
use Rattle.bits.proofs.Decide.{each_entry}
use Rattle.map.specs.Map.{part34, kind_at, reserved, next}
use Rattle.words.specs.Words.{slot_at, digit_at}
use Rattle.words_rows.specs.Rows.{row_at}
use Rattle.words_rows34.specs.declared.TheConstants.{ROWS}
use Rattle.words_rows34.proofs.row34.Goals as goal

pub returns : goal.returns
unfolding row_at slot_at digit_at kind_at next reserved
returns c = each_entry 128 ROWS (row_at part34) tt c.args.n c.requires
