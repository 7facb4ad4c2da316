-- `words_rows::existing`: what a row was put together from, taken out again. Assumes nothing.
use Rattle.words_rows.proofs.Taken.{existing_of}
use Rattle.words_rows.proofs.existing.Goals as goal

pub returns : goal.returns
returns c = λ part n h e. existing_of c.args.row part n h e
