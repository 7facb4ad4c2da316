-- `int`: 3 where the words are packed of none; else INT of the words (`seen`). Assumes nothing.
use Rattle.bits.proofs.Decide.{clash}
use Rattle.host_words.proofs.Laws.{seen, unseen, int_told}
use Rattle.host_calls.proofs.int.Goals as goal

pub returns-then-fits : goal.returns-then-fits
returns-then-fits c =
    let k = c.fits.ensures.0 c.if-fits.true in
    seen _ _ _ _ _ k (int_told c.one_if.ensures (c.int.ensures c.args.part k.right))

pub returns : goal.returns
returns c = unseen _ _ _ _ (λ k. clash _ (c.fits.ensures.1 k) c.if-fits.false)
