use mathlib.Core.Path.{refl, ap}
use Rattle.map.specs.Map.{part_of}
use Rattle.registers.specs.Registers.{Core}
use Rattle.words.proofs.Sound.{sound}
use Rattle.words.proofs.Images.{all_zero, taken_none, taken_more, taken_all_lem}
use Rattle.words_stored.proofs.from_file.Goals as goal

pub loop-n-init : goal.loop-n-init
loop-n-init c =
    let x = c.args in
    taken_none (part_of x.part) (sound x.part) x.file.now _ refl (all_zero 28)

pub store-requires : goal.store-requires
store-requires c =
    record {
      part = c.args.part;
      number = c.loop-n.n;
      small = c.loop-n-test.true;
      row_is = c.row_of.ensures;
      fit = c.loop-n.invariant.fit;
    }

pub loop-n-preserved : goal.loop-n-preserved
loop-n-preserved c =
    let x = c.args in
    let h = c.store.ensures x.part c.loop-n.n c.loop-n-test.true c.row_of.ensures c.loop-n.invariant.fit in
    taken_more (part_of x.part) (sound x.part) x.file.now c.loop-n.words _ c.loop-n.n c.loop-n.invariant c.loop-n-test.true (ap (λ (k : Core). k.file) h.core) h.fit

pub returns : goal.returns
returns c =
    let x = c.args in (
      c.loop-n.invariant.fit,
      λ f. taken_all_lem (part_of x.part) (sound x.part) x.file.now c.loop-n.words c.loop-n.n c.loop-n.invariant c.loop-n-test.false (c.told-file) f,
    )
