-- `probe_texts::put_field`: a tab, and the digits behind it. Assumes nothing.
use borrow.Author.Rules.{rules}
use Rattle.text.proofs.Laws.{wrote_both}
use Rattle.probe_texts.proofs.put_field.Goals as goal

pub returns : goal.returns
returns c = (wrote_both c.put-end.ensures c.put_hex.ensures.0, search rules)
