-- `probe_answers::put_answer`: the words that the image is packed into show what the image does (`words_text`), and a refusal shows nothing. Assumes nothing.
use native.Mathlib.Omega.{arith}
use Rattle.text.proofs.Laws.{wrote_as}
use Rattle.text_answers.proofs.Laws.{text_ends, digits_few}
use Rattle.probe_answers.proofs.Told.{words_text}
use Rattle.probe_answers.proofs.put_answer.Goals as goal

pub returns : goal.returns
returns c =
    let part = c.args.d.part in
    let e = words_text c.pack-fits.ensures _ _ _ (c.int-int.ensures part) (c.low-low.ensures part c.pins_of.ensures) (c.high-high.ensures part) c.args.answer c.requires.0 in
    (wrote_as e c.put_answer.ensures, omega (arith, text_ends part _ _ _ _ c.put_answer.ensures, digits_few part))
