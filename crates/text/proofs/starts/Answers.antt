use native.Mathlib.Omega.{arith}
use borrow.Author.Rules.{rules}
use mathlib.Core.Path.{◌≡◌, refl, sym, ◌∙◌}
use lib.ListN.{length}
use lib.Seq.{drop-length}
use Rattle.text.specs.Text.{starts_with}
use Rattle.text.proofs.Laws.{starts_short, starts_differ, starts_same}
use Rattle.text.proofs.starts.Goals as goal

pub returns-then-s-word : goal.returns-then-s-word
returns-then-s-word c = sym (starts_short _ _ c.if-s-word.true)

pub returns-then-s-i : goal.returns-then-s-i
returns-then-s-i c =
    sym (c.loop-i.invariant.1 ∙ starts_differ c.args.word.now c.args.s.now c.loop-i.i (search rules) (search rules) c.if-s-i.true)

pub loop-i-preserved : goal.loop-i-preserved
loop-i-preserved c =
    (search rules, c.loop-i.invariant.1 ∙ starts_same c.args.word.now c.args.s.now c.loop-i.i (search rules) (search rules) c.if-s-i.false)

pub returns : goal.returns
unfolding starts_with
returns c =
    let e : c.loop-i.i ≡ length c.args.word.now = omega arith in
    sym (c.loop-i.invariant.1 ∙ rw (e, drop-length) refl)
