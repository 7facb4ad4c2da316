-- `probe_answers::put_image`: a tab, the registers and the fields behind them, one text after the other. Assumes nothing.
use borrow.Author.Rules.{rules}
use Rattle.text.proofs.Laws.{wrote_both}
use Rattle.probe_answers.specs.Answers.{image_text}
use Rattle.probe_answers.proofs.put_image.Goals as goal

pub returns : goal.returns
unfolding image_text
returns c =
    (wrote_both c.put-tab.ensures (wrote_both c.put_bytes-bytes.ensures.0 c.put_fields.ensures.0), search rules)
