use native.Mathlib.Omega.{arith}
use Rattle.map.specs.Map.{part_of}
use Rattle.words.proofs.Sound.{sound}
use Rattle.words.proofs.Images.{laid_none, laid_more, laid_all}
use Rattle.words_rows.proofs.Taken.{word_there}
use Rattle.words_files.proofs.to_file.Goals as goal

pub loop-n-init : goal.loop-n-init
loop-n-init c =
    let x = c.args in
    laid_none (part_of x.part) (sound x.part) x.words.now x.file.now (c.told-file)

pub entry-requires : goal.entry-requires
entry-requires c =
    omega (arith, word_there _ c.args.part c.loop-n.n c.loop-n-test.true c.row_of.ensures)

pub loop-n-preserved : goal.loop-n-preserved
loop-n-preserved c =
    let x = c.args in
    laid_more (part_of x.part) (sound x.part) x.words.now c.loop-n.file c.loop-n.n _ c.loop-n.invariant c.loop-n-test.true
    (c.entry.ensures x.part c.loop-n.n c.loop-n-test.true c.row_of.ensures)

pub returns : goal.returns
returns c =
    let x = c.args in
    laid_all (part_of x.part) (sound x.part) x.words.now c.loop-n.file c.loop-n.n c.loop-n.invariant c.loop-n-test.false
