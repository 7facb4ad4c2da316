-- `words_command::command`: a byte in Chosen, or refused for its argument. Assumes nothing.
use mathlib.Core.Path.{refl}
use native.Mathlib.Omega.{arith}
use borrow.Author.Tests.{lt-ltb, le-ltb}
use Rattle.device_rules.specs.declared.Answer.TheVariants.{Refused}
use Rattle.words_state.proofs.Left.{left_same, in_bus_lem, by_rule}
use Rattle.words_state.proofs.Judging.{taken, wrong_argument}
use Rattle.words_command.proofs.command.Goals as goal

pub returns-then-arg-gt255 : goal.returns-then-arg-gt255
returns-then-arg-gt255 c =
    let a = c.args in
    λ k packed e er. left_same k a.words.now packed (Refused 2) (wrong_argument k a.words.now packed 2 a.arg 2 refl refl (le-ltb a.arg 256 c.if-arg-gt255.true))

pub returns : goal.returns
returns c =
    let a = c.args in
    λ k packed e er. by_rule (in_bus_lem k a.words.now a.arg 2 e (c.byte_chosen.ensures k packed er))
    (taken k a.words.now packed 2 a.arg 2 refl refl (lt-ltb a.arg 256 (let h = c.if-arg-gt255.false in omega arith)))
