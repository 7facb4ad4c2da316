-- `words_writes::write_register`: each arm is the law of its rule. Assumes nothing.
use mathlib.Core.Path.{refl, sym, ap, ◌∙◌}
use mathlib.Core.Bool.{Bool, not, ◌&&◌, ◌||◌}
use Prim.Native.Nat.{◌<◌}
use native.Mathlib.Omega.{arith}
use borrow.Author.Tests.{lt-ltb, le-ltb}
use lib.Dec.{ltb, eqb}
use lib.ListN.{get_or}
use Rattle.bits.specs.Bits.{bit}
use Rattle.pins.specs.Pin.{clear_written, mask_written, latch_written, configuration_written}
use Rattle.pins.specs.OnePin.{pin_after}
use Rattle.pins.specs.OnePin.Happening.{ClearWritten, MaskWritten, LatchWritten, ConfigurationWritten}
use Rattle.ports.specs.Ports.{port_bit}
use Rattle.map.specs.Map.{part_of}
use Rattle.map.specs.Map.Kind.{Configuration, Latch, Mask, Clear}
use Rattle.registers.specs.Registers.{written_to}
use Rattle.words.specs.Words.{paired}
use Rattle.words.proofs.Sound.{sound}
use Rattle.words.proofs.Holding.{within}
use Rattle.words_rows.proofs.Taken.{known_small, stored_by, still_by, paired_by, its_kind, stored_rule, still_rule, known_inside}
use Rattle.words_writes.proofs.Wrote.{rule_moved, only_moved, byte_wrote, nothing_wrote}
use Rattle.words_writes.proofs.write_register.Goals as goal

pub returns-in-4 : goal.returns-in-4
unfolding written_to pin_after
returns-in-4 c =
    λ part n known e fit.
    let a = c.args in
    let p = part_of part in
    let w = a.words.now in
    let v = a.value in
    let hv = c.ranges.value.fits in
    let hn : n < 128 = known_small a.row part n known e in
    let er = c.rule-rule.ensures part n hn e in
    rule_moved part w fit n v _ hn hv er Configuration c.in-4.is refl refl refl refl (omega arith) refl _ _
    (c.port_pins-here.ensures part n hn e) (c.port_bits-on.ensures part n known e) (λ i. ConfigurationWritten (port_bit v i)) (λ i. refl) _
    (λ i x q. ap (λ (c : Bool). configuration_written (bit (get_or w 5 0) i) (bit (get_or w 4 0) i) c q) x) (c.write_configuration.ensures p.width (within p (sound part) w fit))

pub returns-in-5 : goal.returns-in-5
unfolding written_to pin_after
returns-in-5 c =
    λ part n known e fit.
    let a = c.args in
    let p = part_of part in
    let w = a.words.now in
    let v = a.value in
    let hv = c.ranges.value.fits in
    let hn : n < 128 = known_small a.row part n known e in
    let er = c.rule-rule.ensures part n hn e in
    rule_moved part w fit n v _ hn hv er Latch c.in-5.is refl refl refl refl (omega arith) refl _ _
    (c.port_pins-here.ensures part n hn e) (c.port_bits-on.ensures part n known e) (λ i. LatchWritten (port_bit v i)) (λ i. refl) _
    (λ i x q. ap (λ (c : Bool). latch_written (bit (get_or w 4 0) i) (bit (get_or w 5 0) i) c q) x) (c.write_latch.ensures p.width (within p (sound part) w fit))

pub returns-in-6 : goal.returns-in-6
unfolding written_to pin_after
returns-in-6 c =
    λ part n known e fit.
    let a = c.args in
    let p = part_of part in
    let w = a.words.now in
    let v = a.value in
    let hv = c.ranges.value.fits in
    let hn : n < 128 = known_small a.row part n known e in
    let er = c.rule-rule.ensures part n hn e in
    rule_moved part w fit n v _ hn hv er Mask c.in-6.is refl refl refl refl (omega arith) refl _ _
    (c.port_pins-here.ensures part n hn e) (c.port_bits-on.ensures part n known e) (λ i. MaskWritten (port_bit v i)) (λ i. refl) _
    (λ i x q. ap (λ (c : Bool). mask_written c q) x) (c.write_mask.ensures p.width (within p (sound part) w fit))

pub returns-in-8 : goal.returns-in-8
returns-in-8 c =
    λ part n known e fit.
    let a = c.args in
    let p = part_of part in
    let w = a.words.now in
    let v = a.value in
    let hv = c.ranges.value.fits in
    let hn : n < 128 = known_small a.row part n known e in
    let er = c.rule-rule.ensures part n hn e in
    c.write_edge.ensures part n known e (sym er ∙ c.in-8.is) fit

pub returns-in-9 : goal.returns-in-9
unfolding written_to pin_after
returns-in-9 c =
    λ part n known e fit.
    let a = c.args in
    let p = part_of part in
    let w = a.words.now in
    let v = a.value in
    let hv = c.ranges.value.fits in
    let hn : n < 128 = known_small a.row part n known e in
    let er = c.rule-rule.ensures part n hn e in
    let one = paired_by part n _ hn er 9 c.in-9.is in
    only_moved p (sound part) w fit n v hn hv _ _ (c.port_pins-here.ensures part n hn e one) (c.port_bits-on.ensures part n known e one)
    Clear (its_kind part n _ hn er Clear c.in-9.is) refl refl (λ i. ClearWritten (port_bit v i)) (λ i. refl) _
    (λ i x q. ap (λ (c : Bool). clear_written c q) x) (c.write_clear.ensures p.width (within p (sound part) w fit))

pub returns-in-14 : goal.returns-in-14
returns-in-14 c =
    λ part n known e fit.
    let a = c.args in
    let p = part_of part in
    let w = a.words.now in
    let v = a.value in
    let hv = c.ranges.value.fits in
    let hn : n < 128 = known_small a.row part n known e in
    let er = c.rule-rule.ensures part n hn e in
    c.write_strength.ensures part n known e (sym er ∙ c.in-14.is) fit

pub returns-in-0-to-3 : goal.returns-in-0-to-3
returns-in-0-to-3 c =
    λ part n known e fit.
    let a = c.args in
    let p = part_of part in
    let w = a.words.now in
    let v = a.value in
    let hv = c.ranges.value.fits in
    let hn : n < 128 = known_small a.row part n known e in
    let er = c.rule-rule.ensures part n hn e in
    let low = c.in-0-to-3.if-rule-lt4-own.true in
    nothing_wrote p (sound part) w fit n v hn hv
    (stored_by part n _ hn er _ refl ∙ ap (λ (t : Bool). t && not (eqb c.rule-rule.result 9)) (le-ltb 3 c.rule-rule.result (omega arith)))
    (still_by part n _ hn er _ refl ∙ ap (λ (t : Bool). t || (eqb c.rule-rule.result 7 || ltb 9 c.rule-rule.result)) (lt-ltb c.rule-rule.result 4 (omega arith)))

pub returns-in_default : goal.returns-in_default
returns-in_default c =
    λ part n known e fit.
    let a = c.args in
    let p = part_of part in
    let w = a.words.now in
    let v = a.value in
    let hv = c.ranges.value.fits in
    let hn : n < 128 = known_small a.row part n known e in
    let er = c.rule-rule.ensures part n hn e in
    let rest = c.in_default.in_default-own.rest in
    let high : 3 < c.rule-rule.result = omega arith in
    let facts = stored_rule part n _ hn er high rest.0.0.1 rest.0.1 rest.1 in
    rw c.put.ensures
    (byte_wrote p (sound part) w fit n v hn hv facts.0 c.word.result (c.word.ensures.0 part n hn e)
    (ap paired (c.word.ensures.0 part n hn e) ∙ facts.1) _ _ (c.port_pins-here.ensures part n hn e facts.1)
    (c.port_bits-on.ensures part n known e facts.1) (still_rule part n _ hn er high rest.0.0.0.0.0.1 rest.0.0.0.0.1 rest.0.0.0.1 rest.0.0.1 rest.0.1))

pub put-requires : goal.put-requires
put-requires c =
    omega (arith, c.word.ensures.1, known_inside c.requires)
