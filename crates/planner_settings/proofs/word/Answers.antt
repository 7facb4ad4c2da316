use borrow.Author.Rules.{rules}
use Prim.Native.Nat.{◌+◌, ◌-◌}
use native.Mathlib.Omega.{arith}
use Rattle.planner_settings.proofs.Words.{reading_begins, reading_small, reading_goes, reading_ends}
use Rattle.planner_settings.proofs.word.Goals as goal

pub loop-k-init : goal.loop-k-init
loop-k-init c = reading_begins _ _ _

pub overflow_mul-w : goal.overflow_mul-w
overflow_mul-w c =
    let l = c.loop-k in
    let small = reading_small _ _ _ l.invariant c.loop-k-test.true c.requires.1 in
    search (rules, small)

pub overflow_add-w-in-loop-k : goal.overflow_add-w-in-loop-k
overflow_add-w-in-loop-k c =
    let l = c.loop-k in
    let small = reading_small _ _ _ l.invariant c.loop-k-test.true c.requires.1 in
    let a = c.args in
    omega (arith, small, c.type_inv.s (a.at + (l.k - 1)))

pub loop-k-preserved : goal.loop-k-preserved
loop-k-preserved c = reading_goes _ _ _ c.loop-k.invariant c.loop-k-test.true (λ i. (c.type_inv.s i).fits)

pub returns : goal.returns
returns c = reading_ends _ _ _ c.loop-k.invariant (omega (arith, c.loop-k-test.false))
