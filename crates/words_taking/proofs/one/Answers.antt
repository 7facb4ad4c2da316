-- `one`: the third word by `plain`, `upper` and `not_plain`. Assumes nothing.
use mathlib.Core.Bool.{true, false}
use borrow.Author.Tests.{le-leb, lt-leb}
use Rattle.words_device.proofs.Naming.{obeyed}
use Rattle.words_events.specs.Events.{sent, whole_of}
use Rattle.words_events.proofs.Doing.{plain, upper, not_plain}
use Rattle.words_taking.proofs.one.Goals as goal

pub returns-then-third-eq0 : goal.returns-then-third-eq0
returns-then-third-eq0 c =
    let a = c.args in
    λ p k. plain p a.words.now k (sent a.kind a.arg a.third) c.if-third-eq0.true (obeyed p _ k a.kind a.arg c.event.ensures)

pub returns-then-pins_of-gt-LOWER_HALF : goal.returns-then-pins_of-gt-LOWER_HALF
returns-then-pins_of-gt-LOWER_HALF c =
    let a = c.args in
    let e = sent a.kind a.arg a.third in
    λ p k. upper p a.words.now k e c.pins_of.result c.pins_of.ensures c.if-pins_of-gt-LOWER_HALF.true (obeyed p _ k a.kind (whole_of e) c.event-then-pins_of-gt-LOWER_HALF.ensures)

pub returns-then-kind-gt-LAST_KIND : goal.returns-then-kind-gt-LAST_KIND
returns-then-kind-gt-LAST_KIND c =
    let a = c.args in
    λ p k. not_plain p a.words.now k (sent a.kind a.arg a.third) c.pins_of.result c.pins_of.ensures c.if-third-eq0.false c.if-pins_of-gt-LOWER_HALF.false false (lt-leb _ _ c.if-kind-gt-LAST_KIND.true)

pub returns : goal.returns
returns c =
    let a = c.args in
    λ p k. not_plain p a.words.now k (sent a.kind a.arg a.third) c.pins_of.result c.pins_of.ensures c.if-third-eq0.false c.if-pins_of-gt-LOWER_HALF.false true (le-leb _ _ c.if-kind-gt-LAST_KIND.false)
