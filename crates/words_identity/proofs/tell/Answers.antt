-- `words_identity::tell`: the byte at the place, and the place steps, or Deaf. Assumes nothing.
use mathlib.Core.Path.{refl, ap}
use native.Mathlib.Omega.{arith}
use Rattle.map.specs.Map.{part_of}
use Rattle.device_rules.specs.Device.{fetch_in}
use Rattle.device_rules.specs.declared.Answer.TheVariants.{Byte}
use Rattle.device_rules.proofs.Stepping.{same_state, same_identity, same_outcome, fetched_in_lem}
use Rattle.words_state.specs.Packed.{state_in}
use Rattle.words_state.proofs.Left.{went, told}
use Rattle.words_identity.proofs.tell.Goals as goal

pub returns-then-not-acknowledged : goal.returns-then-not-acknowledged
unfolding fetch_in
returns-then-not-acknowledged c =
    let a = c.args in
    let w = a.words.now in
    let deaf = c.if-not-acknowledged.true in
    λ k packed bus. went k w packed (Byte c.byte_told.result) 7 (omega arith) c.goes.ensures.0 c.goes.ensures.1
    (fetched_in_lem (part_of k) (state_in (part_of k) w) a.acknowledged 11 bus (same_outcome (ap Byte c.byte_told.ensures) (simp deaf refl)))

pub byte_told-requires : goal.byte_told-requires
byte_told-requires c = c.requires.place_small

pub returns : goal.returns
unfolding fetch_in
returns c =
    let a = c.args in
    let w = a.words.now in
    let on = c.if-not-acknowledged.false in
    λ k packed bus.
    (told k w packed (Byte c.byte_told.result) c.next_place.result c.next_place.ensures.1 refl
    (fetched_in_lem (part_of k) (state_in (part_of k) w) a.acknowledged 11 bus
    (same_outcome (ap Byte c.byte_told.ensures) (simp on (same_state refl refl refl refl refl refl (same_identity refl (c.next_place.ensures.0 packed.place_small)))))))
