-- `words_data::byte_filling`: the register is written, and the pointer steps. Assumes nothing.
use mathlib.Core.Path.{refl, sym, ap, ◌∙◌}
use native.Mathlib.Omega.{arith}
use lib.ListN.{get_or}
use Rattle.map.specs.Map.{part_of, onward}
use Rattle.map.proofs.Onward.{known_small, onward_known, in_group, over_map}
use Rattle.registers.proofs.Kept.{kept_written}
use Rattle.device_rules.specs.Device.{State, out, byte_in}
use Rattle.device_rules.specs.declared.Answer.TheVariants.{Ack}
use Rattle.device_rules.proofs.Stepping.{same_state}
use Rattle.words.specs.Words.{core_in, interrupt_in}
use Rattle.words.proofs.Sound.{mapped}
use Rattle.words.proofs.Images.{file_length}
use Rattle.words_rows.proofs.Taken.{next_of, next_known}
use Rattle.words_state.proofs.Left.{packed_becomes, holds_pointer}
use Rattle.words_state.proofs.Standing.{named}
use Rattle.words_data.proofs.byte_filling.Goals as goal

pub returns-then-words-eq0 : goal.returns-then-words-eq0
unfolding byte_in
returns-then-words-eq0 c =
    let a = c.args in
    let w = a.words.now in
    let n = get_or w 21 0 in
    λ k packed bus e.
    let known = packed.pointer_known in
    let hn = known_small (part_of k) n known in
    let kept = kept_written (part_of k) (core_in (part_of k) w) (interrupt_in w) packed.right (mapped k) (file_length (part_of k) w) n hn a.value in
    let becomes = c.write.ensures k packed e in
    let q = next_of a.row k n known e (c.successor.ensures k n hn e) in
    holds_pointer k w _ packed _ becomes Ack c.successor.result (rw q (next_known a.row k n known e))
    (ap (λ (s : State). out Ack s)
    (same_state refl (sym kept) (q ∙ in_group (part_of k) (get_or w 24 0) n (sym (becomes.rest 24 (omega arith)) ∙ c.if-words-eq0.true)) refl bus refl refl))

pub returns : goal.returns
unfolding byte_in
returns c =
    let a = c.args in
    let w = a.words.now in
    let n = get_or w 21 0 in
    λ k packed bus e.
    let known = packed.pointer_known in
    let hn = known_small (part_of k) n known in
    let kept = kept_written (part_of k) (core_in (part_of k) w) (interrupt_in w) packed.right (mapped k) (file_length (part_of k) w) n hn a.value in
    let becomes = c.write.ensures k packed e in
    let same = becomes.rest 21 (omega arith) in
    rw (c.steps_over_map.ensures.0, c.steps_over_map.ensures.1 k (packed_becomes k w packed becomes), same)
    (holds_pointer k w _ packed _ becomes Ack (onward (part_of k) n) (onward_known k n known)
    (ap (λ (s : State). out Ack s)
    (same_state refl (sym kept) (over_map (part_of k) (get_or w 24 0) n packed.mode_small (λ z. c.if-words-eq0.false (becomes.rest 24 (omega arith) ∙ z))) refl bus refl refl)))

pub steps_over_map-requires : goal.steps_over_map-requires
steps_over_map-requires c =
    let standing = c.requires.0 in
    let packed = standing.packed in
    named _ _ (packed_becomes _ c.args.words.now packed (c.write.ensures _ packed standing.row_is))
