-- The answers, by the numbers they go by.
use Rattle.std.specs.Prelude.{ℕ}
use Rattle.device_rules.specs.declared.Answer.{Answer}
use Rattle.device_rules.specs.declared.Answer.TheVariants.{Nothing, Ack, Nak, Byte, Refused}

-- the kind of an answer: 0 nothing, 1 acknowledge, 2 no acknowledge, 3 a byte read; a refusal is no answer, and goes by 4 here
abbrev pub answer_kind : Answer → ℕ
answer_kind Nothing = 0
answer_kind Ack = 1
answer_kind Nak = 2
answer_kind (Byte b) = 3
answer_kind (Refused n) = 4

-- the byte read, else 0
abbrev pub answer_byte : Answer → ℕ
answer_byte Nothing = 0
answer_byte Ack = 0
answer_byte Nak = 0
answer_byte (Byte b) = b
answer_byte (Refused n) = 0

-- the refusal's number, 0 where there is an answer
abbrev pub refusal_number : Answer → ℕ
refusal_number Nothing = 0
refusal_number Ack = 0
refusal_number Nak = 0
refusal_number (Byte b) = 0
refusal_number (Refused n) = n
