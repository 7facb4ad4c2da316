-- `words_views::show`: an input port by `show_inputs`, interrupt status as it is kept, else what is stored. Assumes nothing.
use mathlib.Core.Path.{◌∙◌}
use Prim.Native.Nat.{◌<◌}
use native.Mathlib.Omega.{arith}
use borrow.Author.Tests.{ne_eqb}
use Rattle.map.specs.Map.{part_of}
use Rattle.map.specs.Map.Kind.{Input, Status, InputStatus}
use Rattle.words.proofs.Sound.{sound}
use Rattle.words.proofs.Showing.{entry_shown, shown_else, shown_status}
use Rattle.words_rows.proofs.Taken.{known_small, its_kind, paired_by, low_rule}
use Rattle.words_views.proofs.show.Goals as goal

pub returns-in-1 : goal.returns-in-1
returns-in-1 c =
    λ part n known e fit.
    let a = c.args in
    let hn : n < 128 = known_small a.row part n known e in
    (c.show_inputs.ensures part n known e).0 (its_kind part n _ hn (c.rule-rule.ensures part n hn e) Input c.in-1.is)

pub returns-in-3 : goal.returns-in-3
returns-in-3 c =
    λ part n known e fit.
    let a = c.args in
    let hn : n < 128 = known_small a.row part n known e in
    (c.show_inputs-in-3.ensures part n known e).1 (its_kind part n _ hn (c.rule-rule.ensures part n hn e) InputStatus c.in-3.is)

pub returns-in-2 : goal.returns-in-2
returns-in-2 c =
    λ part n known e fit.
    let a = c.args in
    let hn : n < 128 = known_small a.row part n known e in
    let er = c.rule-rule.ensures part n hn e in
    let one = paired_by part n _ hn er 2 c.in-2.is in
    shown_status (part_of part) (sound part) n hn a.words.now (its_kind part n _ hn er Status c.in-2.is) _
    (c.port.ensures.0 part n hn e one) c.byte_of.ensures

pub returns-in_default : goal.returns-in_default
returns-in_default c =
    λ part n known e fit.
    let a = c.args in
    let p = part_of part in
    let w = a.words.now in
    let hn : n < 128 = known_small a.row part n known e in
    let er = c.rule-rule.ensures part n hn e in
    let rest = c.in_default.in_default-own.rest in
    shown_else p (sound part) n hn w (ne_eqb _ 2 (λ z. rest.1 (low_rule part n _ hn er 2 (omega arith) z)))
    (c.entry.ensures part n hn e
    ∙ entry_shown p (sound part) n hn w (λ z. rest.0.0.1 (low_rule part n _ hn er 1 (omega arith) z)) (λ z. rest.1 (low_rule part n _ hn er 2 (omega arith) z))
    (λ z. rest.0.1 (low_rule part n _ hn er 3 (omega arith) z)))
