-- `words_fetches::fetch_elsewhere`: in Telling the Device ID's byte, elsewhere nothing. Assumes nothing.
use Rattle.map.specs.Map.{part_of}
use Rattle.device_rules.specs.declared.Answer.TheVariants.{Byte}
use Rattle.device_rules.proofs.Stepping.{stray_fetch}
use Rattle.words_state.specs.Packed.{state_in}
use Rattle.words_state.proofs.Left.{left_same}
use Rattle.words_fetches.proofs.fetch_elsewhere.Goals as goal

pub returns-then-words-eq-TELLING : goal.returns-then-words-eq-TELLING
returns-then-words-eq-TELLING c = λ k packed z. c.tell.ensures k packed c.if-words-eq-TELLING.true

pub returns : goal.returns
returns c =
    let a = c.args in
    λ k packed z.
    left_same k a.words.now packed (Byte 255) (stray_fetch (part_of k) (state_in (part_of k) a.words.now) a.acknowledged z c.if-words-eq-TELLING.false)
