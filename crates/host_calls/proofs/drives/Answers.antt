-- `drives`: 3 where the words are packed of none; else the drives of the words (`seen`). Assumes nothing.
use Rattle.bits.proofs.Decide.{clash}
use Rattle.host_words.proofs.Laws.{seen, unseen, both_told}
use Rattle.host_calls.proofs.drives.Goals as goal

pub returns-then-fits : goal.returns-then-fits
returns-then-fits c =
    let part = c.args.part in
    let k = c.fits.ensures.0 c.if-fits.true in
    seen _ _ _ _ _ k (both_told (c.low-low.ensures part c.pins_of.ensures) (c.high-high.ensures part k.fit))

pub returns : goal.returns
returns c = unseen _ _ _ _ (λ k. clash _ (c.fits.ensures.1 k) c.if-fits.false)
