-- `watch_answers::put_marks`: a tab, the digits and a newline from the newline on (`over_last`). Assumes nothing.
use Rattle.map.specs.Map.{part_of}
use Rattle.watch_answers.proofs.Lines.{marks_text}
use Rattle.watch_answers.proofs.put_marks.Goals as goal

pub returns : goal.returns
returns c = λ lent at text w. marks_text (part_of c.args.part) c.args.set text c.digits_of-digits.ensures.0 w c.put-start.ensures c.put_hex-last.ensures.0 c.put.ensures
