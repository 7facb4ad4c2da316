-- `probe_answers::put_outcome`: the answer, the image unless it is a refusal, and a newline: one text after the other. Assumes nothing.
use borrow.Author.Rules.{rules}
use Rattle.probe_answers.proofs.Told.{line_answered, line_refused}
use borrow.Enum.Refused.{opened}
use Rattle.probe_answers.proofs.put_outcome.Goals as goal

pub returns-in_default : goal.returns-in_default
returns-in_default c =
    (line_answered _ _ _ c.put_answer-told.ensures.0 (opened c.in_default.in_default-own.keys2) c.put_image-image.ensures.0 c.put.ensures, search rules)

pub returns : goal.returns
returns c =
    (line_refused _ _ _ c.put_answer-told.ensures.0 c.in-Refused.is c.put-2.ensures, search rules)
