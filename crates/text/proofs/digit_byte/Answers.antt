-- `text::digit_byte`: the branch decides the test in `digit_byte`. Assumes nothing.
use borrow.Author.Tests.{lt-ltb, le-ltb}
use Rattle.text.proofs.digit_byte.Goals as goal

pub returns-then-n-lt10 : goal.returns-then-n-lt10
returns-then-n-lt10 c = simp (lt-ltb _ _ c.if-n-lt10.true)

pub returns : goal.returns
returns c = simp (le-ltb _ _ c.if-n-lt10.false)
