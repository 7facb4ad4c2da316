-- `words_asking::asked`: our byte with either lowest bit, or none. Assumes nothing.
use native.Mathlib.Omega.{arith}
use Rattle.device_rules.specs.Device.{byte_in}
use Rattle.device_rules.specs.declared.Answer.TheVariants.{Ack, Nak}
use Rattle.words_state.proofs.Left.{went}
use Rattle.words_asking.proofs.asked.Goals as goal

pub returns-then-byte-address : goal.returns-then-byte-address
unfolding byte_in
returns-then-byte-address c =
    λ k packed. went k c.args.words.now packed Ack 9 (omega arith) c.goes.ensures.0 c.goes.ensures.1 (simp c.if-byte-address.true)

pub returns : goal.returns
unfolding byte_in
returns c =
    λ k packed. went k c.args.words.now packed Nak 7 (omega arith) c.goes-2.ensures.0 c.goes-2.ensures.1 (simp c.if-byte-address.false)
