-- `words_images::pack`: words are made of the file, the pins and the rest, and judged before they are kept. Assumes nothing.
use borrow.Author.Tests.{not-true, not-false}
use Rattle.bits.proofs.Decide.{clash}
use Rattle.words_images.proofs.Packing.{no_such_file, not_packed, judged_packed}
use Rattle.words_images.proofs.pack.Goals as goal

pub returns-then-not-stand_for : goal.returns-then-not-stand_for
returns-then-not-stand_for c =
    let a = c.args in
    let u = c.from_file.ensures in
    let t = rw c.put_sets.ensures at c.stand_for.ensures in
    no_such_file a.part _ a.file.now u.0 u.1 a.sets a.pointer a.bus a.choice a.status a.line a.mode a.number a.place (λ h. clash _ (t.1 h) (not-true _ c.if-not-stand_for.true-raw)) a.words.now

pub returns-then-not-fits : goal.returns-then-not-fits
returns-then-not-fits c =
    let a = c.args in
    let u = c.from_file.ensures in
    let t = rw c.put_sets.ensures at c.fits.ensures in
    not_packed a.part _ a.file.now u.0 u.1 a.sets a.pointer a.bus a.choice a.status a.line a.mode a.number a.place (λ k. clash _ (t.1 k) (not-true _ c.if-not-fits.true-raw)) a.words.now

pub returns : goal.returns
returns c =
    let a = c.args in
    let u = c.from_file.ensures in
    let e = c.put_sets.ensures in
    let stands = rw e at c.stand_for.ensures in
    let fits = rw e at c.fits.ensures in
    rw e
    (judged_packed a.part _ a.file.now u.0 u.1 a.sets a.pointer a.bus a.choice a.status a.line a.mode a.number a.place (fits.0 (not-false _ c.if-not-fits.false-raw))
    (stands.0 (not-false _ c.if-not-stand_for.false-raw)) a.words.now)
