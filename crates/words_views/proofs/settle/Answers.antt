-- `words_views::settle`: an input port register settles its pins (`input_fetched_lem`), another none. Assumes nothing.
use mathlib.Core.Path.{ap, ◌∙◌}
use Prim.Native.Nat.{ℕ, ◌<◌}
use native.Mathlib.Omega.{arith}
use Rattle.bits.specs.Bits.{bit}
use Rattle.pins.specs.Pin.{only, input_fetched}
use Rattle.pins.specs.AllPins.{map_pins}
use Rattle.pins.specs.declared.Sets.{Sets}
use Rattle.ports.specs.Ports.{in_port}
use Rattle.map.specs.Map.{part_of}
use Rattle.map.specs.Map.Kind.{Input}
use Rattle.words.proofs.Sound.{sound}
use Rattle.words.proofs.Holding.{within}
use Rattle.words.proofs.Seen.{input_fetched_lem, other_fetched}
use Rattle.words_rows.proofs.Taken.{known_small, its_kind, paired_by, low_rule}
use Rattle.words_views.proofs.settle.Goals as goal

pub returns-then-rule-eq-INPUT : goal.returns-then-rule-eq-INPUT
returns-then-rule-eq-INPUT c =
    λ part n known e fit.
    let a = c.args in
    let p = part_of part in
    let w = a.words.now in
    let hn : n < 128 = known_small a.row part n known e in
    let er = c.rule.ensures part n hn e in
    let one = paired_by part n _ hn er 1 c.if-rule-eq-INPUT.true in
    rw c.put_sets.ensures
    (input_fetched_lem p (sound part) w fit n hn (its_kind part n _ hn er Input c.if-rule-eq-INPUT.true) _
    (λ i. c.port_set.ensures i ∙ ap (λ (k : ℕ). in_port k i) (c.port.ensures.0 part n hn e one)) _
    (c.fetch_input-y.ensures p.width (rw c.sets_in-x.ensures (within p (sound part) w fit))
    ∙ ap (λ (x : Sets). map_pins p.width x (λ i. only (bit c.port_set.result i) input_fetched)) c.sets_in-x.ensures))

pub returns-else-rule-eq-INPUT : goal.returns-else-rule-eq-INPUT
returns-else-rule-eq-INPUT c =
    λ part n known e fit.
    let a = c.args in
    let hn : n < 128 = known_small a.row part n known e in
    other_fetched (part_of part) (sound part) a.words.now fit n hn (λ z. c.if-rule-eq-INPUT.false (low_rule part n _ hn (c.rule.ensures part n hn e) 1 (omega arith) z))
