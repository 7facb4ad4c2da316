-- `text_answers::put_word`: each arm puts the word of its answer, and a tab unless it is a refusal's. Assumes nothing.
use Rattle.text.proofs.Laws.{wrote_as}
use Rattle.text_answers.specs.Answers.{answer_word}
use Rattle.text_answers.proofs.Laws.{byte_word}
use Rattle.text_answers.proofs.put_word.Goals as goal

pub returns-in-Nothing : goal.returns-in-Nothing
unfolding answer_word
returns-in-Nothing c = rw c.in-Nothing.is c.put.ensures

pub returns-in-Ack : goal.returns-in-Ack
unfolding answer_word
returns-in-Ack c = rw c.in-Ack.is c.put-in-Ack.ensures

pub returns-in-Nak : goal.returns-in-Nak
unfolding answer_word
returns-in-Nak c = rw c.in-Nak.is c.put-in-Nak.ensures

pub returns-in-Byte : goal.returns-in-Byte
unfolding answer_word
returns-in-Byte c = rw c.in-Byte.is (wrote_as (byte_word _ _ c.hex2-digits.ensures) c.put-in-Byte.ensures)

pub returns-in-Refused : goal.returns-in-Refused
unfolding answer_word
returns-in-Refused c = rw c.in-Refused.is (rw c.digit_byte-digit.ensures at c.put-in-Refused.ensures)
