-- `words_entries::zip`: tried at all half bytes (`zip_right`). Assumes nothing.
use Rattle.words.proofs.Showing.{zip_right}
use Rattle.words_entries.proofs.zip.Goals as goal

pub returns : goal.returns
returns c = zip_right c.args.lo c.args.hi c.requires.0 c.requires.1
