-- `text_answers::put_line`: the word, and behind it what is kept, or the newline where it is a refusal's. Assumes nothing.
use native.Mathlib.Omega.{arith}
use Rattle.map.specs.Map.{part_of}
use Rattle.text.proofs.Laws.{wrote_length}
use Rattle.text_answers.proofs.Laws.{line_answered, line_refused, word_short, word_shorter}
use borrow.Enum.Refused.{opened}
use Rattle.text_answers.proofs.put_line.Goals as goal

pub put_kept-requires : goal.put_kept-requires
put_kept-requires c =
    let w = c.put_word-end.ensures in
    (omega (arith, w.ends, wrote_length w, c.requires.0, word_shorter c.args.answer (opened c.in_default.in_default-own.keys2)), c.requires.1)

pub returns-in_default : goal.returns-in_default
returns-in_default c =
    line_answered (part_of c.args.part) _ c.put_word-end.ensures (opened c.in_default.in_default-own.keys2) _ c.put_kept.ensures

pub put-requires : goal.put-requires
put-requires c =
    let w = c.put_word-end.ensures in
    omega (arith, w.ends, wrote_length w, word_short c.args.answer)

pub returns : goal.returns
returns c =
    λ int low high keeps. line_refused (part_of c.args.part) _ c.put_word-end.ensures c.in-Refused.is c.put.ensures int low high
