-- `words_conditions::start`: by the bus state. Assumes nothing.
use mathlib.Core.Path.{refl}
use native.Mathlib.Omega.{arith}
use Rattle.map.specs.Map.{part_of}
use Rattle.device_rules.specs.Device.{start_in}
use Rattle.device_rules.specs.declared.Answer.TheVariants.{Nothing}
use Rattle.device_rules.proofs.Stepping.{opened, reopened}
use Rattle.words_state.specs.Packed.{state_in}
use Rattle.words_state.proofs.Left.{went}
use Rattle.words_conditions.proofs.start.Goals as goal

pub returns-in-9 : goal.returns-in-9
unfolding start_in
returns-in-9 c =
    let w = c.args.words.now in
    λ k packed. went k w packed Nothing 10 (omega arith) c.goes.ensures.0 c.goes.ensures.1 (reopened (part_of k) (state_in (part_of k) w) 9 c.in-9.is refl)

pub returns-in-10 : goal.returns-in-10
unfolding start_in
returns-in-10 c =
    let w = c.args.words.now in
    λ k packed. went k w packed Nothing 10 (omega arith) c.goes-in-10.ensures.0 c.goes-in-10.ensures.1 (reopened (part_of k) (state_in (part_of k) w) 10 c.in-10.is refl)

pub returns-in_default : goal.returns-in_default
returns-in_default c =
    let w = c.args.words.now in
    λ k packed. went k w packed Nothing 1 (omega arith) c.goes-in_default.ensures.0 c.goes-in_default.ensures.1
    (opened (part_of k) (state_in (part_of k) w) c.in_default.in_default-own.rest.0.1 c.in_default.in_default-own.rest.1)
