-- `text_answers::put_columns`: INT's level and three texts behind it (`columns_are`). Assumes nothing.
use native.Mathlib.Omega.{arith}
use Rattle.map.specs.Map.{part_of}
use Rattle.text.proofs.Laws.{wrote_length}
use Rattle.text_answers.proofs.Laws.{columns_are}
use Rattle.text_answers.proofs.put_columns.Goals as goal

pub put_hex-middle-requires : goal.put_hex-middle-requires
put_hex-middle-requires c =
    omega (arith, c.put-start.ensures.ends, wrote_length c.put-start.ensures, c.digits_of-digits.ensures.1)

pub put-next-requires : goal.put-next-requires
put-next-requires c =
    omega (arith, c.put_hex-middle.ensures.1, wrote_length c.put_hex-middle.ensures.0, c.put-start.ensures.ends, wrote_length c.put-start.ensures, c.digits_of-digits.ensures.1)

pub put_hex-requires : goal.put_hex-requires
put_hex-requires c =
    omega (arith, c.put-next.ensures.ends, wrote_length c.put-next.ensures, c.put_hex-middle.ensures.1, wrote_length c.put_hex-middle.ensures.0, c.put-start.ensures.ends, wrote_length c.put-start.ensures, c.digits_of-digits.ensures.1)

pub returns : goal.returns
returns c =
    columns_are (part_of c.args.part) _ _ _ _ _ c.int_level-level.ensures c.digits_of-digits.ensures.0 c.put-start.ensures c.put_hex-middle.ensures.0 c.put-next.ensures c.put_hex.ensures.0
