-- `probe_images::answer`: the bytes that are held say as much as the whole line (`held_answer`). Assumes nothing.
use Rattle.probe_images.proofs.Answered.{held_answer}
use Rattle.probe_images.proofs.answer.Goals as goal

pub returns : goal.returns
returns c =
    (held_answer _ c.args.line c.answer_line.ensures.0, c.answer_line.ensures.1)
