-- `text::put`: a part that is copied over is a run of stores. Assumes nothing.
use mathlib.Core.Path.{refl}
use Rattle.text.proofs.Laws.{copied_over}
use Rattle.text.proofs.put.Goals as goal

pub returns : goal.returns
returns c = let a = c.args in record { ends = refl; holds = copied_over a.out.now a.at a.text.now c.requires c.copy_from_slice.ensures.after }
