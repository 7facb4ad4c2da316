-- `words_entries::entry`: by the rule, one byte of a word, two halves of two words, or nothing. Assumes nothing.
use mathlib.Core.Path.{refl, sym, ap, ◌∙◌}
use mathlib.Core.Bool.{Bool, not, ◌&&◌}
use Prim.Native.Nat.{◌<◌}
use native.Mathlib.Omega.{arith}
use borrow.Author.Tests.{le-ltb}
use lib.Dec.{eqb}
use Rattle.map.specs.Map.{part_of}
use Rattle.map.specs.Map.Kind.{Edge}
use Rattle.words.specs.Words.{paired}
use Rattle.words.proofs.Sound.{sound}
use Rattle.words.proofs.Showing.{no_entry, one_byte, two_byte}
use Rattle.words_rows.proofs.Taken.{its_word, stored_by, paired_by, rule_strength, stored_rule}
use Rattle.words_entries.proofs.entry.Goals as goal

pub returns-in-8 : goal.returns-in-8
returns-in-8 c =
    λ part n hn e.
    let a = c.args in
    let p = part_of part in
    let w = a.words.now in
    let er = c.rule-rule.ensures part n hn e in
    let r = c.in-8.is in
    two_byte p (sound part) n hn w (stored_by part n _ hn er 8 r) 8 (its_word part n _ hn er Edge r refl) _ (c.fourth-fourth.ensures.0 part n hn e (paired_by part n _ hn er 8 r)) refl _ _
    c.half.ensures.0 c.half-in-8.ensures.0 c.zip.ensures

pub returns-in-14 : goal.returns-in-14
returns-in-14 c =
    λ part n hn e.
    let a = c.args in
    let p = part_of part in
    let w = a.words.now in
    let er = c.rule-rule.ensures part n hn e in
    let r = c.in-14.is in
    two_byte p (sound part) n hn w (stored_by part n _ hn er 14 r) 13 (sym (rule_strength part n hn (sym er ∙ r))) _ (c.fourth-fourth.ensures.0 part n hn e (paired_by part n _ hn er 14 r)) refl _ _
    c.half-in-14.ensures.0 c.half-in-14-2.ensures.0 c.zip-in-14.ensures

pub returns-in-9 : goal.returns-in-9
returns-in-9 c =
    λ part n hn e.
    let a = c.args in
    let p = part_of part in
    let w = a.words.now in
    let er = c.rule-rule.ensures part n hn e in
    no_entry p (sound part) n hn w (stored_by part n _ hn er 9 c.in-9.is)

pub returns-in-0-to-3 : goal.returns-in-0-to-3
returns-in-0-to-3 c =
    λ part n hn e.
    let a = c.args in
    let p = part_of part in
    let w = a.words.now in
    let er = c.rule-rule.ensures part n hn e in
    let low = c.in-0-to-3.if-rule-lt4-own.true in
    no_entry p (sound part) n hn w (stored_by part n _ hn er _ refl ∙ ap (λ (t : Bool). t && not (eqb c.rule-rule.result 9)) (le-ltb 3 c.rule-rule.result (omega arith)))

pub returns-in_default : goal.returns-in_default
returns-in_default c =
    λ part n hn e.
    let a = c.args in
    let p = part_of part in
    let w = a.words.now in
    let er = c.rule-rule.ensures part n hn e in
    let rest = c.in_default.in_default-own.rest in
    let high : 3 < c.rule-rule.result = omega arith in
    let facts = stored_rule part n _ hn er high rest.0.0.1 rest.1 rest.0.1 in
    let es = c.word.ensures.0 part n hn e in
    one_byte p (sound part) n hn w facts.0 c.word.result es _ (c.port-port.ensures.0 part n hn e facts.1) (ap paired es ∙ facts.1) c.byte_of.ensures
