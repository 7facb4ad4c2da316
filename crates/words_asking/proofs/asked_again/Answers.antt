-- `words_asking::asked_again`: the telling begins, or it is an address byte. Assumes nothing.
use mathlib.Core.Path.{ap, ◌∙◌}
use native.Mathlib.Omega.{arith}
use borrow.Author.Tests.{eq-eqb, ne_eqb}
use lib.ListN.{set}
use Rattle.device_rules.specs.Device.{State, out, goes, byte_in}
use Rattle.device_rules.specs.Device.Bus.{Telling}
use Rattle.device_rules.specs.declared.Answer.TheVariants.{Ack}
use Rattle.words_state.proofs.Left.{packed_place, state_place, went, by_rule}
use Rattle.words_asking.proofs.asked_again.Goals as goal

pub returns-then-value-eq-ASKS_TO_TELL : goal.returns-then-value-eq-ASKS_TO_TELL
unfolding byte_in
returns-then-value-eq-ASKS_TO_TELL c =
    let w = c.args.words.now in
    λ k packed. went k (set w 26 0) (packed_place k w packed 0 (omega arith)) Ack 11 (omega arith) c.goes.ensures.0 c.goes.ensures.1
    (ap (λ (s : State). out Ack (goes s Telling)) (state_place k w packed 0) ∙ simp (eq-eqb _ _ c.if-value-eq-ASKS_TO_TELL.true))

pub returns : goal.returns
unfolding byte_in
returns c = λ k packed. by_rule (c.address.ensures k packed) (simp (ne_eqb _ _ c.if-value-eq-ASKS_TO_TELL.false))
