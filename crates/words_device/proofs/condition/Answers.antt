-- `words_device::condition`: START, or else STOP. Assumes nothing.
use native.Mathlib.Omega.{arith}
use mathlib.Core.Path.{refl}
use Rattle.words_state.proofs.Left.{by_rule}
use Rattle.words_state.proofs.Judging.{taken}
use Rattle.words_device.proofs.condition.Goals as goal

pub returns-then-kind-eq-START : goal.returns-then-kind-eq-START
returns-then-kind-eq-START c =
    let a = c.args in
    λ k arg packed e. by_rule (c.start.ensures k packed) (taken k a.words.now packed a.kind arg 0 c.if-kind-eq-START.true refl refl)

pub returns : goal.returns
returns c =
    let a = c.args in
    λ k arg packed e. by_rule (c.stop.ensures k packed e) (taken k a.words.now packed a.kind arg 1 (omega (arith, c.if-kind-eq-START.false, c.requires.2)) refl refl)
