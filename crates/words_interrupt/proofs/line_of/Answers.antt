-- `words_interrupt::line_of`: asserted is 0, quiet is 1. Assumes nothing.
use mathlib.Core.Path.{sym, ap, ◌∙◌}
use mathlib.Core.Bool.{Bool, cond}
use Prim.Native.Nat.{ℕ}
use Rattle.words_interrupt.proofs.line_of.Goals as goal

pub returns-then-int_asserted : goal.returns-then-int_asserted
returns-then-int_asserted c = λ w h. sym (ap (λ (b : Bool). cond {A = ℕ} b 0 1) (sym (c.int_asserted.ensures w h) ∙ c.if-int_asserted.true))

pub returns : goal.returns
returns c = λ w h. sym (ap (λ (b : Bool). cond {A = ℕ} b 0 1) (sym (c.int_asserted.ensures w h) ∙ c.if-int_asserted.false))
