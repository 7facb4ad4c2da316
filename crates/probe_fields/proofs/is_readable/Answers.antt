use native.Mathlib.Omega.{arith}
use borrow.Author.Rules.{rules}
use mathlib.Core.Path.{◌≡◌, ap, sym, ◌∙◌}
use Prim.Native.Nat.{ℕ}
use lib.ListN.{drop}
use Rattle.probe_fields.specs.Fields.{has_form, line_form}
use Rattle.probe_fields.proofs.Reading.{other_length, form_ends, form_on, form_done}
use Rattle.probe_fields.proofs.is_readable.Goals as goal

pub returns-then-line-ne394 : goal.returns-then-line-ne394
returns-then-line-ne394 c = sym (other_length _ c.if-line-ne394.true)

pub returns-then-not-byte_fits : goal.returns-then-not-byte_fits
returns-then-not-byte_fits c =
    sym (c.loop-i.invariant ∙ form_ends _ _ (search rules) (search rules) c.is_tab.ensures c.byte_fits.ensures c.if-not-byte_fits.true)

pub loop-i-preserved : goal.loop-i-preserved
loop-i-preserved c =
    c.loop-i.invariant ∙ form_on _ _ (search rules) (search rules) c.is_tab.ensures c.byte_fits.ensures c.if-not-byte_fits.false

pub returns : goal.returns
returns c =
    let line = c.args.line.now in
    let e : c.loop-i.i ≡ 394 = omega arith in
    sym (c.loop-i.invariant ∙ ap (λ (k : ℕ). has_form (drop k line_form) (drop k line)) e ∙ form_done line (search rules))
