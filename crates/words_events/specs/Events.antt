-- The events of a burst out of their bytes, twelve each, what one of them does, and which bursts are refused with 8.
use Rattle.std.specs.Prelude.{Bool, cond, not, ◌||◌, List, [], ◌∷◌, ℕ, zero, suc, ◌+◌, ◌*◌, ◌/◌, ◌%◌, ◌^◌, eqb, ltb, leb, get_or}
use Rattle.map.specs.Map.{Part}
use Rattle.device_rules.specs.Device.{State, Outcome, out}
use Rattle.device_rules.specs.Refusals.{image_fits, stepped}
use Rattle.device_rules.specs.declared.Answer.TheVariants.{Refused}

-- ---- the events out of the bytes
-- four bytes from a place on, lowest first
abbrev pub word_at : List ℕ → ℕ → ℕ
word_at b at = ((get_or b (at + 3) 0 * 256 + get_or b (at + 2) 0) * 256 + get_or b (at + 1) 0) * 256 + get_or b at 0

-- an event as it is sent
pub record Sent : Type 0 where
  pub kind : ℕ
  pub arg : ℕ
  pub third : ℕ

abbrev pub sent : (kind arg third : ℕ) → Sent
sent kind arg third = record { kind = kind; arg = arg; third = third }

-- the event of number i
abbrev pub event_at : List ℕ → ℕ → Sent
event_at b i = sent (word_at b (12 * i)) (word_at b (12 * i + 4)) (word_at b (12 * i + 8))

-- as many events as counted, from number i on
unfoldable pub sent_of : List ℕ → (i count : ℕ) → List Sent
sent_of b i zero = []
sent_of b i (suc n) = event_at b i ∷ sent_of b (suc i) n

-- ---- what one does
-- a part whose pins need more than 32 bits takes the third word as the upper half of the argument
abbrev pub halved : Part → Bool
halved p = ltb 32 p.width

abbrev pub whole_of : Sent → ℕ
whole_of e = e.third * 2 ^ 32 + e.arg

-- One event. Any other part has no use for a third word, so that one that is not 0 is refusal 2 for every kind, after 3 and 1.
unfoldable pub one : Part → State → Sent → Outcome
one p s e =
    cond (eqb e.third 0 || halved p) (stepped p s e.kind (whole_of e)) (out (Refused (cond (image_fits p s) (cond (leb e.kind 5) 2 1) 3)) s)

-- ---- the call
-- refusal 8: bytes that are no whole events; more asked than the bytes have, or more than 512; too little room for the answers
abbrev pub eight : (bytes asked room : ℕ) → Bool
eight bytes asked room = not (eqb (bytes % 12) 0) || (ltb (bytes / 12) asked || (ltb 512 asked || ltb room (2 * asked)))
