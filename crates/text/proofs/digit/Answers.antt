-- `text::digit`: each branch is a law that was tried at every byte. Assumes nothing.
use borrow.Author.Rules.{rules}
use Rattle.text.proofs.Laws.{digit_far, digit_none, digit_is}
use Rattle.text.proofs.digit.Goals as goal

pub returns-then-place-gt63 : goal.returns-then-place-gt63
returns-then-place-gt63 c = digit_far _ (search rules) c.if-place-gt63.true

pub returns-then-place-eq0 : goal.returns-then-place-eq0
returns-then-place-eq0 c = digit_none _ (search rules) (search rules) c.if-place-eq0.true

pub returns : goal.returns
returns c = digit_is _ (search rules) (search rules) c.if-place-eq0.false
