use native.Mathlib.Omega.{arith}
use borrow.Author.Rules.{rules}
use mathlib.Core.Path.{◌≡◌, refl, sym, ◌∙◌}
use lib.ListN.{length}
use lib.Seq.{drop-length}
use Rattle.text.specs.Text.{number_of}
use Rattle.text.proofs.Laws.{number_ends, number_on, power_more, power_fits}
use Rattle.text.proofs.number.Goals as goal

pub returns-then-d-gt15 : goal.returns-then-d-gt15
returns-then-d-gt15 c =
    sym (c.loop-b.invariant.1 ∙ number_ends c.loop-b.n c.args.s.now c.loop-b.b-index (search rules) (search rules))

pub overflow_mul-n : goal.overflow_mul-n
overflow_mul-n c = let f = power_fits _ _ c.loop-b.invariant.0 (omega arith) in search rules

pub overflow_add-n : goal.overflow_add-n
overflow_add-n c = let f = power_fits _ _ c.loop-b.invariant.0 (omega arith) in search rules

pub loop-b-preserved : goal.loop-b-preserved
loop-b-preserved c =
    (power_more _ _ _ c.loop-b.invariant.0 (search rules), c.loop-b.invariant.1 ∙ rw c.digit-d.ensures (number_on c.loop-b.n c.args.s.now c.loop-b.b-index (search rules) (search rules)))

pub returns : goal.returns
unfolding number_of
returns c =
    let e : c.loop-b.b-index ≡ length c.args.s.now = omega arith in
    sym (c.loop-b.invariant.1 ∙ rw (e, drop-length) refl)
