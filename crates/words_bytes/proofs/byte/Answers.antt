-- `words_bytes::byte`: each arm is the rule of its bus state. Assumes nothing.
use mathlib.Core.Path.{refl}
use native.Mathlib.Omega.{arith}
use Rattle.map.specs.Map.{part_of}
use Rattle.device_rules.specs.Device.{byte_in}
use Rattle.device_rules.specs.declared.Answer.TheVariants.{Nak}
use Rattle.device_rules.proofs.Stepping.{at_bus, no_byte}
use Rattle.words_state.specs.Packed.{state_in}
use Rattle.words_state.proofs.Left.{left_same, went, in_bus_lem}
use Rattle.words_bytes.proofs.byte.Goals as goal

pub returns-in-1 : goal.returns-in-1
unfolding byte_in
returns-in-1 c =
    let a = c.args in
    λ k packed z er. in_bus_lem k a.words.now a.value 1 c.in-1.is (c.address.ensures k packed)

pub returns-in-3 : goal.returns-in-3
returns-in-3 c =
    let a = c.args in
    λ k packed z er. in_bus_lem k a.words.now a.value 3 c.in-3.is (c.byte_filling.ensures k packed c.in-3.is er)

pub returns-in-5 : goal.returns-in-5
returns-in-5 c =
    let a = c.args in
    λ k packed z er. in_bus_lem k a.words.now a.value 5 c.in-5.is (c.byte_call.ensures k packed)

pub returns-in-0 : goal.returns-in-0
unfolding byte_in
returns-in-0 c =
    let a = c.args in
    λ k packed z er. left_same k a.words.now packed Nak (at_bus (part_of k) (state_in (part_of k) a.words.now) a.value 0 c.in-0.is refl)

pub returns-in-8 : goal.returns-in-8
returns-in-8 c =
    let a = c.args in
    λ k packed z er. in_bus_lem k a.words.now a.value 8 c.in-8.is (c.asked.ensures k packed)

pub returns-in-10 : goal.returns-in-10
returns-in-10 c =
    let a = c.args in
    λ k packed z er. in_bus_lem k a.words.now a.value 10 c.in-10.is (c.asked_again.ensures k packed)

pub returns-in_default : goal.returns-in_default
returns-in_default c =
    let a = c.args in
    let rest = c.in_default.in_default-own.rest in
    λ k packed z er. went k a.words.now packed Nak 7 (omega arith) c.goes.ensures.0 c.goes.ensures.1
    (no_byte (part_of k) (state_in (part_of k) a.words.now) a.value packed.bus_small rest.0.0.1 rest.0.0.0.0.0.1 z rest.0.0.0.0.1 rest.0.0.0.1 rest.0.1 rest.1)
