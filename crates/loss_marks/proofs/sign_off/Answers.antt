-- `loss_marks::sign_off`: by its four tests, in their order. Assumes nothing.
use mathlib.Core.Path.{sym, ◌∙◌, subst}
use Prim.Native.Nat.{ℕ, ◌<◌, ◌≤◌}
use native.Mathlib.Omega.{arith}
use Rattle.bits.proofs.Decide.{clash}
use Rattle.map.specs.Map.{part_of}
use Rattle.loss_marks.proofs.Signing.{broken, unfit, no_pin, unwell, signs}
use Rattle.loss_marks.proofs.sign_off.Goals as goal

pub returns-then-not-fits : goal.returns-then-not-fits
returns-then-not-fits c = broken _ _ _ _ (λ k. clash _ (c.fits.ensures.1 k) c.if-not-fits.true)

pub returns-then-not-fit : goal.returns-then-not-fit
returns-then-not-fit c =
    let k = c.fits.ensures.0 c.if-not-fits.false in
    unfit c.args.part _ _ _ k (sym c.if-not-fit.true ∙ c.fit.ensures (part_of c.args.part) c.pins_of.ensures)

pub returns-then-width_of-pin : goal.returns-then-width_of-pin
returns-then-width_of-pin c =
    let k = c.fits.ensures.0 c.if-not-fits.false in
    let f = sym c.if-not-fit.false ∙ c.fit.ensures (part_of c.args.part) c.pins_of.ensures in
    no_pin c.args.part _ _ _ k f (subst (λ (n : ℕ). n ≤ c.args.pin) c.width_of.ensures.0 c.if-width_of-pin.true)

pub is_well-requires : goal.is_well-requires
is_well-requires c =
    omega (arith, c.if-width_of-pin.false, c.width_of.ensures.1)

pub returns-then-not-is_well : goal.returns-then-not-is_well
returns-then-not-is_well c =
    let k = c.fits.ensures.0 c.if-not-fits.false in
    let f = sym c.if-not-fit.false ∙ c.fit.ensures (part_of c.args.part) c.pins_of.ensures in
    let there = subst (λ (n : ℕ). c.args.pin < n) c.width_of.ensures.0 c.if-width_of-pin.false in
    unwell c.args.part _ _ _ k f there (sym c.if-not-is_well.true ∙ c.is_well.ensures)

pub clear-requires : goal.clear-requires
clear-requires c =
    omega (arith, c.if-width_of-pin.false, c.width_of.ensures.1)

pub returns : goal.returns
returns c =
    let k = c.fits.ensures.0 c.if-not-fits.false in
    let f = sym c.if-not-fit.false ∙ c.fit.ensures (part_of c.args.part) c.pins_of.ensures in
    let there = subst (λ (n : ℕ). c.args.pin < n) c.width_of.ensures.0 c.if-width_of-pin.false in
    signs c.args.part _ _ _ k f there (sym c.if-not-is_well.false ∙ c.is_well.ensures) c.clear.ensures
