-- `host_answers::one_if`: by its two values. Assumes nothing.
use mathlib.Core.Path.{refl}
use Rattle.host_answers.proofs.one_if.Goals as goal

pub returns-then-t : goal.returns-then-t
returns-then-t c = rw c.if-t.true refl

pub returns : goal.returns
returns c = rw c.if-t.false refl
