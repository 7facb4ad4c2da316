-- `probe_images::answer_line`: refusal 7 where the line is not readable, else the step that it asks; a step that is not refused leaves an image that fits. Assumes nothing.
use native.Mathlib.Omega.{arith}
use borrow.Author.Rules.{rules}
use mathlib.Core.Path.{sym, ◌∙◌}
use Rattle.text.proofs.Laws.{wrote_as}
use Rattle.text_answers.proofs.Laws.{refused_short}
use Rattle.probe_fields.proofs.Reading.{readable_long}
use Rattle.probe_images.proofs.Spoken.{unreadable_text, probed_text}
use Rattle.probe_images.proofs.Answered.{step_fits}
use Rattle.probe_images.proofs.answer_line.Goals as goal

pub returns-then-not-is_readable : goal.returns-then-not-is_readable
returns-then-not-is_readable c =
    let w = c.put_refused.ensures in
    (wrote_as (unreadable_text c.args.part _ c.is_readable.ensures c.if-not-is_readable.true) w, omega (arith, w.ends, refused_short 7))

pub step_in-s-requires : goal.step_in-s-requires
step_in-s-requires c = (search rules, readable_long _ (sym c.is_readable.ensures ∙ c.if-not-is_readable.false))

pub put_outcome-requires : goal.put_outcome-requires
put_outcome-requires c = (step_fits _ (search rules) _ c.step_in-s.ensures, search rules)

pub returns : goal.returns
returns c = (
  wrote_as (probed_text _ _ c.is_readable.ensures c.if-not-is_readable.false c.step_in-s.ensures) c.put_outcome.ensures.0,
  search rules,
)
