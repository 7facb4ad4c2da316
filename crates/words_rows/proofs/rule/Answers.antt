-- `words_rows::rule`: what a row was put together from, taken out again. Assumes nothing.
use Rattle.words_rows.proofs.Taken.{rule_of}
use Rattle.words_rows.proofs.rule.Goals as goal

pub returns : goal.returns
returns c = λ part n h e. rule_of c.args.row part n h e
