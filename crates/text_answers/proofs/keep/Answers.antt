-- `text_answers::keep`: the columns, and a newline behind them by one store (`columns_kept`). Assumes nothing.
use borrow.Author.Rules.{rules}
use native.Mathlib.Omega.{arith}
use Rattle.map.specs.Map.{part_of}
use mathlib.Core.Path.{◌≡◌, ◌∙◌}
use lib.ListN.{length}
use Rattle.text.proofs.Laws.{wrote_byte, wrote_length}
use Rattle.text_answers.proofs.Laws.{columns_kept, columns_long, digits_few}
use Rattle.text_answers.proofs.keep.Goals as goal

pub bounds-kept-end : goal.bounds-kept-end
bounds-kept-end c =
    let s = c.args in
    omega (arith, c.put_columns-end.ensures.ends, columns_long (part_of s.part) s.int s.low s.high, digits_few s.part)

pub returns : goal.returns
returns c =
    let s = c.args in
    let w = wrote_byte c.put_columns-end.ensures 0x0a in
    let all : length s.kept.now ≡ 22 = search rules in
    (columns_kept (part_of s.part) s.kept.now s.int s.low s.high (omega (arith, all, digits_few s.part)) w, wrote_length w ∙ all)
