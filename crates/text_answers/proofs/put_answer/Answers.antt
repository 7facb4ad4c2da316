-- `text_answers::put_answer`: the word, and the columns behind it unless it is a refusal's. Assumes nothing.
use native.Mathlib.Omega.{arith}
use Rattle.map.specs.Map.{part_of}
use Rattle.text.proofs.Laws.{wrote_length}
use Rattle.text_answers.proofs.Laws.{text_answered, text_refused, word_shorter}
use borrow.Enum.Refused.{opened}
use Rattle.text_answers.proofs.put_answer.Goals as goal

pub put_columns-requires : goal.put_columns-requires
put_columns-requires c =
    let w = c.put_word-end.ensures in
    omega (arith, w.ends, wrote_length w, word_shorter c.args.answer (opened c.in_default.in_default-own.keys2))

pub returns-in_default : goal.returns-in_default
returns-in_default c =
    text_answered (part_of c.args.part) _ c.put_word-end.ensures (opened c.in_default.in_default-own.keys2) _ _ _ c.put_columns.ensures

pub returns : goal.returns
returns c =
    text_refused (part_of c.args.part) _ c.put_word-end.ensures c.in-Refused.is _ _ _
