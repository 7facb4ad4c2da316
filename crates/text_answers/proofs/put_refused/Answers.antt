-- `text_answers::put_refused`: the word, which no tab follows, and a newline. Assumes nothing.
use native.Mathlib.Omega.{arith}
use mathlib.Core.Path.{refl}
use Rattle.device_rules.specs.declared.Answer.TheVariants.{Refused}
use Rattle.text.proofs.Laws.{wrote_as, wrote_both, wrote_length}
use Rattle.text_answers.specs.Answers.{answer_word}
use Rattle.text_answers.proofs.Laws.{word_short}
use Rattle.text_answers.proofs.put_refused.Goals as goal

pub put-requires : goal.put-requires
put-requires c =
    let w = c.put_word-end.ensures in
    omega (arith, w.ends, wrote_length w, word_short (Refused c.args.number))

pub returns : goal.returns
unfolding answer_word
returns c =
    wrote_as refl (wrote_both c.put_word-end.ensures c.put.ensures)
