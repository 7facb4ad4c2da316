-- `burst`: by its tests, in their order. Assumes nothing.
use mathlib.Core.Path.{sym, ◌∙◌}
use Rattle.bits.proofs.Decide.{clash}
use Rattle.words_state.proofs.Standing.{named}
use Rattle.words_burst.proofs.Calling.{enough, bad, nothing, no_image, image}
use Rattle.words_burst.proofs.burst.Goals as goal

pub returns-then-is_bad : goal.returns-then-is_bad
returns-then-is_bad c = bad _ _ _ _ _ _ (sym c.is_bad.ensures ∙ c.if-is_bad.true)

pub returns-then-asked-eq0 : goal.returns-then-asked-eq0
returns-then-asked-eq0 c =
    nothing _ _ _ _ _ _ (sym c.is_bad.ensures ∙ c.if-is_bad.false) c.if-asked-eq0.true

pub returns-then-not-fits : goal.returns-then-not-fits
returns-then-not-fits c =
    no_image _ _ _ _ _ _ (sym c.is_bad.ensures ∙ c.if-is_bad.false) c.if-asked-eq0.false (λ k. clash _ (c.fits.ensures.1 k) c.if-not-fits.true)

pub run-requires : goal.run-requires
run-requires c =
    let e = enough _ _ _ (sym c.is_bad.ensures ∙ c.if-is_bad.false) in
    let k = c.fits.ensures.0 c.if-not-fits.false in
    (named _ _ k, e.0, e.1)

pub returns : goal.returns
returns c =
    let k = c.fits.ensures.0 c.if-not-fits.false in
    image _ _ _ _ _ _ (sym c.is_bad.ensures ∙ c.if-is_bad.false) c.if-asked-eq0.false k (c.run.ensures _ k)
