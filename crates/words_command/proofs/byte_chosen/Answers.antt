-- `words_command::byte_chosen`: each branch is one of the rule's; the row given says whether the number is reserved. Assumes nothing.
use mathlib.Core.Path.{◌≡◌, sym, ◌∙◌}
use mathlib.Core.Bool.{true, false}
use Prim.Native.Nat.{◌/◌, ◌%◌, ◌<◌}
use native.Mathlib.Nat.{mod-eq_of_lt}
use native.Mathlib.Omega.{arith}
use borrow.Author.Tests.{eq-eqb, ne_eqb}
use Rattle.map.specs.Map.{reserved, part_of}
use Rattle.device_rules.specs.Device.{byte_in}
use Rattle.device_rules.specs.declared.Answer.TheVariants.{Ack, Nak}
use Rattle.words_state.proofs.Left.{went, chose, command_row}
use Rattle.words_command.proofs.byte_chosen.Goals as goal

pub returns-then-wanted-eq0 : goal.returns-then-wanted-eq0
unfolding byte_in
returns-then-wanted-eq0 c =
    let a = c.args in
    λ k packed e.
    let r : reserved (part_of k) (a.value % 128) ≡ true = sym (command_row k a.wanted a.value e) ∙ eq-eqb _ _ c.if-wanted-eq0.true in
    went k a.words.now packed Nak 7 (omega arith) c.goes.ensures.0 c.goes.ensures.1 (simp r)

pub returns : goal.returns
unfolding byte_in
returns c =
    let a = c.args in
    λ k packed e.
    let r : reserved (part_of k) (a.value % 128) ≡ false = sym (command_row k a.wanted a.value e) ∙ ne_eqb _ _ c.if-wanted-eq0.false in
    let small : a.value / 128 < 2 = omega arith in
    let bit-7 : a.value / 128 % 2 ≡ a.value / 128 = mod-eq_of_lt small in
    chose k a.words.now packed Ack (a.value % 128) (a.value / 128) 3 r small (omega arith) c.goes-2.ensures.0 c.goes-2.ensures.1 (simp (r, bit-7))
