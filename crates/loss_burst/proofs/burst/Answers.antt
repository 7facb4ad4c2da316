-- `burst`: by its tests, in their order. Assumes nothing.
use mathlib.Core.Path.{sym, ◌∙◌}
use Rattle.bits.proofs.Decide.{clash}
use Rattle.map.specs.Map.{part_of}
use Rattle.words_state.proofs.Standing.{named}
use Rattle.words_burst.proofs.Calling.{enough}
use Rattle.loss_burst.proofs.Calling.{eighth, nothing, unfit, no_image, image}
use Rattle.loss_burst.proofs.burst.Goals as goal

pub returns-then-is_bad : goal.returns-then-is_bad
returns-then-is_bad c = eighth _ _ _ _ _ _ _ (sym c.is_bad.ensures ∙ c.if-is_bad.true)

pub returns-then-asked-eq0 : goal.returns-then-asked-eq0
returns-then-asked-eq0 c = nothing _ _ _ _ _ _ _ (sym c.is_bad.ensures ∙ c.if-is_bad.false) c.if-asked-eq0.true

pub returns-then-not-fit : goal.returns-then-not-fit
returns-then-not-fit c =
    let part = c.args.part in
    unfit part _ _ _ _ _ _ (sym c.is_bad.ensures ∙ c.if-is_bad.false) c.if-asked-eq0.false
    (sym c.if-not-fit.true ∙ c.fit.ensures (part_of part) c.pins_of.ensures)

pub returns-then-not-fits : goal.returns-then-not-fits
returns-then-not-fits c =
    let part = c.args.part in
    no_image part _ _ _ _ _ _ (sym c.is_bad.ensures ∙ c.if-is_bad.false) c.if-asked-eq0.false
    (sym c.if-not-fit.false ∙ c.fit.ensures (part_of part) c.pins_of.ensures) (λ k. clash _ (c.fits.ensures.1 k) c.if-not-fits.true)

pub run-requires : goal.run-requires
run-requires c =
    let part = c.args.part in
    let e = enough _ _ _ (sym c.is_bad.ensures ∙ c.if-is_bad.false) in
    let k = c.fits.ensures.0 c.if-not-fits.false in
    let fits = sym (sym c.if-not-fit.false ∙ c.fit.ensures (part_of part) c.pins_of.ensures) in
    (named _ _ k, e.0, e.1, rw k.part_is fits)

pub returns : goal.returns
returns c =
    let part = c.args.part in
    let k = c.fits.ensures.0 c.if-not-fits.false in
    image part _ _ _ _ _ _ (sym c.is_bad.ensures ∙ c.if-is_bad.false) c.if-asked-eq0.false
    (sym c.if-not-fit.false ∙ c.fit.ensures (part_of part) c.pins_of.ensures) k (c.run.ensures.0 _ k) (c.run.ensures.1 _ k)
