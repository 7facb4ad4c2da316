-- `planner_settings::load`: three groups of bytes and the spread port kinds are the setting's pin sets (`loaded`). Assumes nothing.
use mathlib.Core.Path.{sym, subst}
use Prim.Native.Nat.{ℕ, ◌*◌, ◌<◌}
use native.Mathlib.Omega.{arith}
use lib.ListN.{get_or}
use Rattle.planner_settings.proofs.Words.{whole, kinds_few, loaded}
use Rattle.planner_settings.proofs.Parts.{plannable_of}
use Rattle.planner_settings.proofs.load.Goals as goal

pub word-requires : goal.word-requires
word-requires c =
    (omega (arith, whole _ (plannable_of c.args.part) c.args.s.now c.requires, c.of-n.ensures.ports_is), omega (arith, c.of-n.ensures.few))

pub word-requires-2 : goal.word-requires-2
word-requires-2 c =
    (omega (arith, whole _ (plannable_of c.args.part) c.args.s.now c.requires, c.of-n.ensures.ports_is), omega (arith, c.of-n.ensures.few))

pub bounds-s-n : goal.bounds-s-n
bounds-s-n c =
    omega (arith, whole _ (plannable_of c.args.part) c.args.s.now c.requires, c.of-n.ensures.ports_is)

pub spread-requires : goal.spread-requires
spread-requires c =
    let e = c.of-n.ensures.ports_is in
    subst (λ (n : ℕ). get_or c.args.s.now (2 * n) 0 < 32) (sym e) (kinds_few _ (plannable_of c.args.part) c.args.s.now c.requires (omega (arith, e, c.of-n.ensures.few)))

pub word-requires-3 : goal.word-requires-3
word-requires-3 c =
    (omega (arith, whole _ (plannable_of c.args.part) c.args.s.now c.requires, c.of-n.ensures.ports_is), omega (arith, c.of-n.ensures.few))

pub returns : goal.returns
returns c =
    loaded _ c.args.s.now (λ i. (c.type_inv.s i).fits) c.of-n.result.ports c.word.result c.word-2.result c.spread.result c.word-3.result
    c.of-n.ensures.ports_is c.word.ensures c.word-2.ensures c.spread.ensures c.word-3.ensures
