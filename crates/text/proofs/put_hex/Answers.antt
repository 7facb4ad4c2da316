use native.Mathlib.Omega.{arith}
use borrow.Author.Rules.{rules}
use mathlib.Core.Path.{◌≡◌, refl, ap, sym, ◌∙◌}
use Prim.Native.Nat.{ℕ, suc, ◌+◌, ◌-◌}
use lib.Seq.{sets}
use Rattle.text.specs.Text.{hex_text}
use Rattle.text.proofs.Laws.{hex_length, hex_more}
use Rattle.text.proofs.put_hex.Goals as goal

pub loop-i-preserved : goal.loop-i-preserved
loop-i-preserved c =
    let a = c.args in
    let e : suc (c.loop-i.i - 1) ≡ c.loop-i.i = omega arith in (
      search rules,
      rw c.low_digit.ensures
          (hex_more c.loop-i.out a.at (c.loop-i.i - 1) c.loop-i.rest ∙ ap (λ (k : ℕ). sets c.loop-i.out a.at (hex_text k c.loop-i.rest)) e ∙ c.loop-i.invariant.1),
    )

pub returns : goal.returns
unfolding hex_text
returns c =
    let a = c.args in
    let e : c.loop-i.i ≡ 0 = omega arith in (
      record { ends = ap (λ (k : ℕ). a.at + k) (sym (hex_length a.count a.n)); holds = rw (e, hex_text) at c.loop-i.invariant.1 },
      refl,
    )
