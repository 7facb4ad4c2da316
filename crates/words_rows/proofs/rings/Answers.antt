-- `words_rows::rings`: the rules that move pins are those that can change a status bit (`rings_by`, `rings_rest`). Assumes nothing.
use mathlib.Core.Path.{sym}
use Rattle.words_rows.proofs.Taken.{rings_by, rings_rest}
use Rattle.words_rows.proofs.rings.Goals as goal

pub returns-in-4 : goal.returns-in-4
returns-in-4 c = λ part n h e. sym (rings_by part n _ h (c.rule-rule.ensures part n h e) 4 c.in-4.is)

pub returns-in-5 : goal.returns-in-5
returns-in-5 c = λ part n h e. sym (rings_by part n _ h (c.rule-rule.ensures part n h e) 5 c.in-5.is)

pub returns-in-6 : goal.returns-in-6
returns-in-6 c = λ part n h e. sym (rings_by part n _ h (c.rule-rule.ensures part n h e) 6 c.in-6.is)

pub returns-in-8 : goal.returns-in-8
returns-in-8 c = λ part n h e. sym (rings_by part n _ h (c.rule-rule.ensures part n h e) 8 c.in-8.is)

pub returns-in-9 : goal.returns-in-9
returns-in-9 c = λ part n h e. sym (rings_by part n _ h (c.rule-rule.ensures part n h e) 9 c.in-9.is)

pub returns-in_default : goal.returns-in_default
returns-in_default c =
    let rest = c.in_default.in_default-own.rest in
    λ part n h e. sym (rings_rest part n _ h (c.rule-rule.ensures part n h e) rest.0.0.0.0.1 rest.0.0.0.1 rest.0.0.1 rest.0.1 rest.1)
