-- `words_fits::judged_as`: bounded words whose pointer has a row, and only those (`judged_out`, `judged_zero`, `judged_in`). Assumes nothing.
use mathlib.Core.Path.{refl}
use Rattle.words_fits.proofs.Parts.{judged_out, judged_zero, judged_in}
use Rattle.words_fits.proofs.judged_as.Goals as goal

pub returns-then-not-bounded : goal.returns-then-not-bounded
returns-then-not-bounded g c = (λ z. judged_out _ c.requires _ _ c.bounded.ensures c.if-not-bounded.true, λ some. absurd (some refl))

pub row_of-requires : goal.row_of-requires
row_of-requires g c = (c.bounded.ensures.0 c.if-not-bounded.false).pointer_small

pub returns : goal.returns
returns g c = (
  judged_zero _ c.requires _ _ c.bounded.ensures c.if-not-bounded.false _ c.row_of.ensures,
  judged_in _ c.requires _ _ c.bounded.ensures c.if-not-bounded.false _ c.row_of.ensures,
)
