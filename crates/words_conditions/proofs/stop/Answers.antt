-- `words_conditions::stop`: from Armed a reset, else Idle. Assumes nothing.
use mathlib.Core.Path.{◌≡◌}
use native.Mathlib.Omega.{arith}
use borrow.Author.Tests.{eq-eqb, ne_eqb}
use lib.ListN.{get_or}
use Rattle.device_rules.specs.Device.{step}
use Rattle.device_rules.specs.declared.Answer.TheVariants.{Nothing}
use Rattle.words_state.proofs.Left.{went, by_rule}
use Rattle.words_conditions.proofs.stop.Goals as goal

pub returns-then-words-eq-ARMED : goal.returns-then-words-eq-ARMED
unfolding step
returns-then-words-eq-ARMED c =
    let armed : get_or c.args.words.now 22 0 ≡ 6 = c.if-words-eq-ARMED.true in
    λ k packed e. by_rule (c.reset.ensures k packed e) (simp (eq-eqb _ _ armed))

pub returns : goal.returns
unfolding step
returns c = λ k packed e. went k c.args.words.now packed Nothing 0 (omega arith) c.goes.ensures.0 c.goes.ensures.1 (simp (ne_eqb _ _ c.if-words-eq-ARMED.false))
