-- `run`: as a burst without marks, and the marks beside it (`begin`, `turn`, `stop`, `finish` of both). Assumes nothing.
use borrow.Author.Rules.{rules}
use mathlib.Core.Path.{ap}
use native.Mathlib.Omega.{arith}
use lib.Dec.{eqb}
use Rattle.device_rules.specs.Answers.{answer_kind}
use Rattle.device_rules.specs.declared.Answer.{Answer}
use Rattle.words_state.proofs.Standing.{named}
use Rattle.words_runs.proofs.Running.{begin, turn, stop, finish}
use Rattle.loss_sets.specs.Sets.{marks_in}
use Rattle.loss_runs.proofs.Marking as marking
use Rattle.loss_runs.proofs.run.Goals as goal

pub loop-i-init : goal.loop-i-init
loop-i-init c =
    let a = c.args in
    (begin _ _ _ _ _ c.requires.0, marking.begin _ a.words.now (marks_in a.marks.now) a.events.now a.asked c.requires.3)

pub take-answer-requires : goal.take-answer-requires
take-answer-requires c =
    let k = c.loop-i.invariant.0.packed in
    (named _ _ k, omega arith)

pub loop-i-preserved : goal.loop-i-preserved
loop-i-preserved c =
    let a = c.args in
    let left = c.take-answer.ensures.0 _ c.loop-i.invariant.0.packed in (
      rw c.put.ensures
          (turn _ a.words.now a.events.now a.asked a.answers.now c.requires.2 c.loop-i.words c.loop-i.answers c.loop-i.i c.loop-i.invariant.0
          c.loop-i-test.true left (search rules)),
      marking.turn _ a.words.now (marks_in a.marks.now) a.events.now a.asked c.loop-i.words (marks_in c.loop-i.marks) c.loop-i.i c.loop-i.invariant.1
          c.loop-i-test.true left (c.take-answer.ensures.1 _ c.loop-i.invariant.0.packed c.loop-i.invariant.1.fits) (search rules),
    )

pub returns-in-loop-i : goal.returns-in-loop-i
returns-in-loop-i c =
    let a = c.args in
    let refused = c.in-Refused.is in
    let left = c.take-answer.ensures.0 _ c.loop-i.invariant.0.packed in (
      λ p k. rw (c.from.ensures, ← k.part_is)
          (stop _ a.words.now a.events.now a.asked a.answers.now c.requires.2 c.loop-i.words c.loop-i.answers c.loop-i.i c.loop-i.invariant.0
          c.loop-i-test.true refused left),
      λ p k. rw (← k.part_is)
          (marking.stop _ a.words.now (marks_in a.marks.now) a.events.now a.asked c.loop-i.words (marks_in c.loop-i.marks) c.loop-i.i c.loop-i.invariant.1
          c.loop-i-test.true left (c.take-answer.ensures.1 _ c.loop-i.invariant.0.packed c.loop-i.invariant.1.fits) (ap (λ (x : Answer). eqb (answer_kind x) 4) refused)),
    )

pub returns : goal.returns
returns c =
    let a = c.args in (
      λ p k. rw (← k.part_is)
          (finish _ a.words.now a.events.now a.asked a.answers.now c.requires.2 c.loop-i.words c.loop-i.answers c.loop-i.i c.loop-i.invariant.0 c.loop-i-test.false),
      λ p k. rw (← k.part_is)
          (marking.finish _ a.words.now (marks_in a.marks.now) a.events.now a.asked c.loop-i.words (marks_in c.loop-i.marks) c.loop-i.i c.loop-i.invariant.1 c.loop-i-test.false),
    )
