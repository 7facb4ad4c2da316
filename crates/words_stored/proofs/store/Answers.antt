-- `words_stored::store`: by the rule, merged into one word or two, or nothing. Assumes nothing.
use mathlib.Core.Path.{refl, sym, ap, ◌∙◌}
use mathlib.Core.Bool.{Bool, not, ◌&&◌}
use Prim.Native.Nat.{◌<◌}
use native.Mathlib.Omega.{arith}
use borrow.Author.Tests.{le-ltb}
use lib.Dec.{eqb}
use Rattle.map.specs.Map.{part_of}
use Rattle.map.specs.Map.Kind.{Edge}
use Rattle.words.specs.Words.{paired}
use Rattle.words.proofs.Sound.{sound}
use Rattle.words_rows.proofs.Taken.{its_word, stored_by, rule_strength, stored_rule, stored_known, numbered_inside}
use Rattle.words_writes.proofs.Wrote.{byte_kept, nothing_kept}
use Rattle.words_stored.proofs.store.Goals as goal

pub returns-in-8 : goal.returns-in-8
returns-in-8 c =
    λ part n hn e fit.
    let er = c.rule-rule.ensures part n hn e in
    let r = c.in-8.is in
    c.store_fields.ensures part n hn e (stored_by part n _ hn er 8 r) (its_word part n _ hn er Edge r refl) refl fit

pub returns-in-14 : goal.returns-in-14
returns-in-14 c =
    λ part n hn e fit.
    let er = c.rule-rule.ensures part n hn e in
    let r = c.in-14.is in
    c.store_fields-in-14.ensures part n hn e (stored_by part n _ hn er 14 r) (sym (rule_strength part n hn (sym er ∙ r))) refl fit

pub returns-in-9 : goal.returns-in-9
returns-in-9 c =
    λ part n hn e fit.
    let a = c.args in
    let p = part_of part in
    let w = a.words.now in
    let v = a.value in
    let hv = c.ranges.value.fits in
    let er = c.rule-rule.ensures part n hn e in
    nothing_kept p (sound part) w fit n v hn hv (stored_by part n _ hn er 9 c.in-9.is)

pub returns-in-0-to-3 : goal.returns-in-0-to-3
returns-in-0-to-3 c =
    λ part n hn e fit.
    let a = c.args in
    let p = part_of part in
    let w = a.words.now in
    let v = a.value in
    let hv = c.ranges.value.fits in
    let er = c.rule-rule.ensures part n hn e in
    let low = c.in-0-to-3.if-rule-lt4-own.true in
    nothing_kept p (sound part) w fit n v hn hv (stored_by part n _ hn er _ refl ∙ ap (λ (t : Bool). t && not (eqb c.rule-rule.result 9)) (le-ltb 3 c.rule-rule.result (omega arith)))

pub returns-in_default : goal.returns-in_default
returns-in_default c =
    λ part n hn e fit.
    let a = c.args in
    let p = part_of part in
    let w = a.words.now in
    let v = a.value in
    let hv = c.ranges.value.fits in
    let er = c.rule-rule.ensures part n hn e in
    let rest = c.in_default.in_default-own.rest in
    let high : 3 < c.rule-rule.result = omega arith in
    let facts = stored_rule part n _ hn er high rest.0.0.1 rest.1 rest.0.1 in
    let es = c.word.ensures.0 part n hn e in
    rw c.put.ensures
    (byte_kept p (sound part) w fit n v hn hv facts.0 c.word.result es (ap paired es ∙ facts.1) _ _
    (c.port_pins.ensures part n hn e facts.1) (c.port_bits.ensures part n (stored_known part n hn facts.0) e facts.1))

pub put-requires : goal.put-requires
put-requires c =
    omega (arith, c.word.ensures.1, numbered_inside c.requires)
