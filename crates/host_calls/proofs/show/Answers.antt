-- `show`: 3 before 2; else the byte of the register's row (`shown_here`). Assumes nothing.
use mathlib.Core.Path.{sym, ap, ◌∙◌}
use mathlib.Core.List.{[], ◌∷◌}
use Prim.Native.Nat.{ℕ, ◌<◌}
use borrow.Author.Tests.{eq-eqb, ne_eqb}
use native.Mathlib.Omega.{arith}
use Rattle.bits.proofs.Decide.{clash}
use Rattle.words_rows.proofs.Taken.{row_zero, word_there}
use Rattle.host_words.proofs.Laws.{shown_here, no_register, not_shown, above}
use Rattle.host_calls.proofs.show.Goals as goal

pub returns-then-not-fits : goal.returns-then-not-fits
returns-then-not-fits c = not_shown _ _ _ _ (λ k. clash _ (c.fits.ensures.1 k) c.if-not-fits.true)

pub returns-then-number-gt-LAST_NUMBER : goal.returns-then-number-gt-LAST_NUMBER
returns-then-number-gt-LAST_NUMBER c =
    no_register _ _ _ _ (c.fits.ensures.0 c.if-not-fits.false) (above _ c.args.number (omega (arith, c.if-number-gt-LAST_NUMBER.true)))

pub returns-then-row-eq0 : goal.returns-then-row-eq0
returns-then-row-eq0 c =
    let n = c.args.number in
    let part = c.args.part in
    let small : n < 128 = omega (arith, c.if-number-gt-LAST_NUMBER.false) in
    no_register _ _ _ _ (c.fits.ensures.0 c.if-not-fits.false)
    (sym (row_zero _ part n small c.row_of-row.ensures) ∙ eq-eqb _ 0 c.if-row-eq0.true)

pub show-requires : goal.show-requires
show-requires c =
    let n = c.args.number in
    let part = c.args.part in
    let small : n < 128 = omega (arith, c.if-number-gt-LAST_NUMBER.false) in
    omega (arith, word_there _ part n small c.row_of-row.ensures)

pub returns : goal.returns
returns c =
    let n = c.args.number in
    let part = c.args.part in
    let small : n < 128 = omega (arith, c.if-number-gt-LAST_NUMBER.false) in
    let e = c.row_of-row.ensures in
    let k = c.fits.ensures.0 c.if-not-fits.false in
    let known = sym (row_zero _ part n small e) ∙ ne_eqb _ 0 c.if-row-eq0.false in
    shown_here _ _ _ _ _ k known (ap (λ (b : ℕ). b ∷ []) (c.show.ensures part n known e k.fit))
