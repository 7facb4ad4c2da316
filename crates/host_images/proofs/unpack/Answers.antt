-- `unpack`: 3 where the words are packed of none; else the file and the words of the rest (`to_image`). Assumes nothing.
use Rattle.bits.proofs.Decide.{clash}
use Rattle.host_words.proofs.Laws.{to_image, to_none}
use Rattle.host_images.proofs.unpack.Goals as goal

pub returns-then-not-fits : goal.returns-then-not-fits
returns-then-not-fits c = to_none _ _ _ _ _ (λ k. clash _ (c.fits.ensures.1 k) c.if-not-fits.true)

pub returns : goal.returns
returns c =
    to_image _ _ _ _ _ _ (c.fits.ensures.0 c.if-not-fits.false) c.to_file.ensures
