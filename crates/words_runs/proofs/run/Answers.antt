-- `run`: what is done so far, and then the rest (`begin`, `turn`, `stop`, `finish`). Assumes nothing.
use borrow.Author.Rules.{rules}
use native.Mathlib.Omega.{arith}
use Rattle.words_state.proofs.Standing.{named}
use Rattle.words_runs.proofs.Running.{begin, turn, stop, finish}
use Rattle.words_runs.proofs.run.Goals as goal

pub loop-i-init : goal.loop-i-init
loop-i-init c = begin _ _ _ _ _ c.requires.0

pub take-answer-requires : goal.take-answer-requires
take-answer-requires c =
    let k = c.loop-i.invariant.packed in
    (named _ _ k, omega arith)

pub returns-in-loop-i : goal.returns-in-loop-i
returns-in-loop-i c =
    let a = c.args in
    λ p k. rw (c.from.ensures, ← k.part_is)
    (stop _ a.words.now a.events.now a.asked a.answers.now c.requires.2 c.loop-i.words c.loop-i.answers c.loop-i.i c.loop-i.invariant
    c.loop-i-test.true c.in-Refused.is (c.take-answer.ensures _ c.loop-i.invariant.packed))

pub loop-i-preserved : goal.loop-i-preserved
loop-i-preserved c =
    let a = c.args in
    rw c.put.ensures
    (turn _ a.words.now a.events.now a.asked a.answers.now c.requires.2 c.loop-i.words c.loop-i.answers c.loop-i.i c.loop-i.invariant
    c.loop-i-test.true (c.take-answer.ensures _ c.loop-i.invariant.packed) (search rules))

pub returns : goal.returns
returns c =
    let a = c.args in
    λ p k. rw (← k.part_is)
    (finish _ a.words.now a.events.now a.asked a.answers.now c.requires.2 c.loop-i.words c.loop-i.answers c.loop-i.i c.loop-i.invariant c.loop-i-test.false)
