use borrow.Author.Rules.{rules}
use native.Mathlib.Omega.{arith}
use mathlib.Core.Path.{refl, sym, ◌∙◌}
use Rattle.text.proofs.Laws.{starts_short}
use Rattle.text_begins.proofs.Laws.{eight_on, eight_differ, last_told}
use Rattle.text_begins.proofs.begins.Goals as goal

pub returns-then-s-len : goal.returns-then-s-len
returns-then-s-len c = sym (starts_short _ _ c.if-s-len.true)

pub loop-i-init : goal.loop-i-init
loop-i-init c = (search rules, search rules, search rules, refl)

pub returns-then-eight : goal.returns-then-eight
returns-then-eight c =
    let x = c.args in
    sym (eight_differ x.word.now x.s.now c.loop-i.i (omega (arith, c.loop-i-test.true)) (λ e. c.if-eight.true (c.eight.ensures ∙ e ∙ sym c.eight-in-loop-i.ensures)))

pub loop-i-preserved : goal.loop-i-preserved
loop-i-preserved c =
    let x = c.args in
    let e = sym c.eight.ensures ∙ c.if-eight.false ∙ c.eight-in-loop-i.ensures in
    let in_word = c.loop-i-test.true in (
      omega (arith, in_word),
      c.loop-i.invariant.1,
      c.loop-i.invariant.2,
      c.loop-i.invariant.3 ∙ eight_on x.word.now x.s.now (λ j. (c.type_inv.word j).fits) (λ j. (c.type_inv.s j).fits) c.loop-i.i (omega (arith, in_word)) (omega (arith, c.loop-i.invariant.2, in_word)) e,
    )

pub returns : goal.returns
returns c =
    let x = c.args in
    last_told x.word.now x.s.now (λ j. (c.type_inv.word j).fits) (λ j. (c.type_inv.s j).fits) c.loop-i.i c.loop-i.invariant.1 c.loop-i.invariant.2 (omega (arith, c.loop-i-test.false)) c.loop-i.invariant.3 _ _ c.eight-2.ensures c.eight-3.ensures
