use mathlib.Core.Path.{refl, sym, ◌∙◌}
use native.Mathlib.Omega.{arith}
use Rattle.bits.proofs.Decide.{clash}
use Rattle.map.specs.Map.{part_of}
use Rattle.words.proofs.Sound.{sound}
use Rattle.words.proofs.Images.{laid_none, laid_next, laid_all, entry_same}
use Rattle.words_rows.proofs.Taken.{word_there}
use Rattle.words_files.proofs.stand_for.Goals as goal

pub loop-n-init : goal.loop-n-init
loop-n-init c =
    let x = c.args in
    laid_none (part_of x.part) (sound x.part) x.words.now x.file.now (c.told-file)

pub entry-requires : goal.entry-requires
entry-requires c =
    omega (arith, word_there _ c.args.part c.loop-n.n c.loop-n-test.true c.row_of.ensures)

pub returns-then-entry-file : goal.returns-then-entry-file
returns-then-entry-file c =
    let x = c.args in (
      λ h. clash _ h refl,
      λ h. absurd (c.if-entry-file.true (c.entry.ensures x.part c.loop-n.n c.loop-n-test.true c.row_of.ensures
          ∙ entry_same (part_of x.part) (sound x.part) x.words.now x.file.now c.loop-n.n c.loop-n-test.true h)),
    )

pub loop-n-preserved : goal.loop-n-preserved
loop-n-preserved c =
    let x = c.args in
    laid_next (part_of x.part) (sound x.part) x.words.now x.file.now c.loop-n.n c.loop-n.invariant c.loop-n-test.true
    (sym (c.entry.ensures x.part c.loop-n.n c.loop-n-test.true c.row_of.ensures) ∙ c.if-entry-file.false)

pub returns : goal.returns
returns c =
    let x = c.args in
    (λ h. sym (laid_all (part_of x.part) (sound x.part) x.words.now x.file.now c.loop-n.n c.loop-n.invariant c.loop-n-test.false), λ h. refl)
