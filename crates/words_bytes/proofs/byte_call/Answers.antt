-- `words_bytes::byte_call`: each branch is one of the rule's. Assumes nothing.
use native.Mathlib.Omega.{arith}
use borrow.Author.Tests.{eq-eqb, ne_eqb}
use Rattle.device_rules.specs.Device.{byte_in}
use Rattle.device_rules.specs.declared.Answer.TheVariants.{Ack, Nak}
use Rattle.words_state.proofs.Left.{went}
use Rattle.words_bytes.proofs.byte_call.Goals as goal

pub returns-then-value-eq6 : goal.returns-then-value-eq6
unfolding byte_in
returns-then-value-eq6 c = λ k packed. went k c.args.words.now packed Ack 6 (omega arith) c.goes.ensures.0 c.goes.ensures.1 (simp (eq-eqb _ _ c.if-value-eq6.true))

pub returns : goal.returns
unfolding byte_in
returns c = λ k packed. went k c.args.words.now packed Nak 7 (omega arith) c.goes-2.ensures.0 c.goes-2.ensures.1 (simp (ne_eqb _ _ c.if-value-eq6.false))
