-- `words_command::is_command`: a byte, in Chosen. Assumes nothing.
use mathlib.Core.Path.{refl}
use mathlib.Core.Bool.{false}
use borrow.Author.Tests.{eqb-true, eqb-false}
use Rattle.bits.proofs.Decide.{clash}
use Rattle.words_command.proofs.is_command.Goals as goal

pub returns-then-kind-eq-BYTE : goal.returns-then-kind-eq-BYTE
returns-then-kind-eq-BYTE c = (λ r. (c.if-kind-eq-BYTE.true, eqb-true _ 2 r), λ r k b. eqb-false _ 2 r b)

pub returns : goal.returns
returns c = (λ r. clash false r refl, λ r k b. c.if-kind-eq-BYTE.false k)
