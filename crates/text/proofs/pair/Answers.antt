-- `text::pair`: both digits, and that the sums fit, were tried at every byte. Assumes nothing.
use borrow.Author.Rules.{rules}
use Rattle.text.proofs.Laws.{pair_first, pair_second, pair_fits}
use Rattle.text.proofs.pair.Goals as goal

pub overflow_mul-result : goal.overflow_mul-result
overflow_mul-result c = record { fits = (pair_fits c.args.b).0 }

pub overflow_add-result-2 : goal.overflow_add-result-2
overflow_add-result-2 c = record { fits = (pair_fits c.args.b).1 }

pub returns : goal.returns
returns c = (pair_first _ (search rules), pair_second _ (search rules))
