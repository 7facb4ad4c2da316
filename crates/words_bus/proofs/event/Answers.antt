-- `words_bus::event`: each arm is its event's law, judged by its kind and argument. Assumes nothing.
use mathlib.Core.Path.{refl, sym, ap, ◌∙◌}
use Prim.Native.Nat.{◌^◌, ◌<◌}
use native.Mathlib.Omega.{arith}
use borrow.Author.Tests.{lt-ltb, le-ltb, lt-leb}
use lib.Pow.{pow_pos}
use Rattle.map.specs.Map.{part_of}
use Rattle.device_rules.specs.Device.{out, step}
use Rattle.device_rules.specs.declared.Answer.TheVariants.{Nothing, Refused}
use Rattle.device_rules.proofs.Stepping.{same_state}
use Rattle.registers.proofs.Kept.{kept_levelled}
use Rattle.words.specs.Words.{core_in, interrupt_in}
use Rattle.words_state.proofs.Left.{left_same, holds_left, by_rule}
use Rattle.words_state.proofs.Standing.{pin_levels}
use Rattle.words_state.proofs.Judging.{taken, wrong_argument, wrong_kind, none_of_six}
use Rattle.words_bus.proofs.event.Goals as goal

pub returns-then-arg-gt255 : goal.returns-then-arg-gt255
returns-then-arg-gt255 c =
    let a = c.args in
    λ k packed e er z. left_same k a.words.now packed (Refused 2)
    (wrong_argument k a.words.now packed a.kind a.arg 2 c.in-2.is refl (le-ltb a.arg 256 c.if-arg-gt255.true))

pub returns-then-arg-gt1 : goal.returns-then-arg-gt1
returns-then-arg-gt1 c =
    let a = c.args in
    λ k packed e er z. left_same k a.words.now packed (Refused 2)
    (wrong_argument k a.words.now packed a.kind a.arg 3 c.in-3.is refl (le-ltb a.arg 2 c.if-arg-gt1.true))

pub returns-then-pins-arg : goal.returns-then-pins-arg
returns-then-pins-arg c =
    let a = c.args in
    λ k packed e er z. left_same k a.words.now packed (Refused 2)
    (wrong_argument k a.words.now packed a.kind a.arg 4 c.in-4.is refl
    (le-ltb a.arg (2 ^ (part_of k).width) (let h = c.if-pins-arg.true in omega (arith, e, pow_pos (part_of k).width))))

pub returns-in-0 : goal.returns-in-0
returns-in-0 c =
    let a = c.args in
    λ k packed e er z. by_rule (c.start.ensures k packed) (taken k a.words.now packed a.kind a.arg 0 c.in-0.is refl refl)

pub returns-in-1 : goal.returns-in-1
returns-in-1 c =
    let a = c.args in
    λ k packed e er z. by_rule (c.stop.ensures k packed e) (taken k a.words.now packed a.kind a.arg 1 c.in-1.is refl refl)

pub returns-else-arg-gt255 : goal.returns-else-arg-gt255
returns-else-arg-gt255 c =
    let a = c.args in
    λ k packed e er z. by_rule (c.byte.ensures k packed (z c.in-2.is) er)
    (taken k a.words.now packed a.kind a.arg 2 c.in-2.is refl (lt-ltb a.arg 256 (let h = c.if-arg-gt255.false in omega arith)))

pub returns-else-arg-gt1 : goal.returns-else-arg-gt1
returns-else-arg-gt1 c =
    let a = c.args in
    λ k packed e er z. by_rule (c.fetch.ensures k packed er)
    (taken k a.words.now packed a.kind a.arg 3 c.in-3.is refl (lt-ltb a.arg 2 (let h = c.if-arg-gt1.false in omega arith)))

pub returns-else-pins-arg : goal.returns-else-pins-arg
unfolding step
returns-else-pins-arg c =
    let a = c.args in
    λ k packed e er z.
    let small : a.arg < 2 ^ (part_of k).width = (let h = c.if-pins-arg.false in omega (arith, e, pow_pos (part_of k).width)) in
    let w = a.words.now in
    let kept = kept_levelled (part_of k) (core_in (part_of k) w) (interrupt_in w) packed.right a.arg in
    holds_left k w _ packed _ (c.set_levels.ensures k packed small) Nothing
    (ap (out Nothing) (same_state refl (sym kept) refl refl refl refl refl)
    ∙ taken k a.words.now packed a.kind a.arg 4 c.in-4.is refl (lt-ltb a.arg (2 ^ (part_of k).width) small))

pub returns-in-5 : goal.returns-in-5
unfolding step
returns-in-5 c =
    let a = c.args in
    λ k packed e er z. by_rule (c.reset.ensures k packed e) (taken k a.words.now packed a.kind a.arg 5 c.in-5.is refl refl)

pub returns-in_default : goal.returns-in_default
returns-in_default c =
    let a = c.args in
    let rest = c.in_default.in_default-own.rest in
    λ k packed e er z. left_same k a.words.now packed (Refused 1)
    (wrong_kind k a.words.now packed a.kind a.arg
    (lt-leb a.kind 5 (none_of_six a.kind rest.0.0.0.0.0.1 rest.0.0.0.0.1 rest.0.0.0.1 rest.0.0.1 rest.0.1 rest.1)))

pub byte-requires : goal.byte-requires
byte-requires c =
    (c.requires.0, c.requires.2 c.in-2.is)

pub set_levels-requires : goal.set_levels-requires
set_levels-requires c =
    let a = c.args in
    pin_levels _ a.words.now c.requires.0.packed a.pins a.arg c.requires.1 (let h = c.if-pins-arg.false in omega arith)
