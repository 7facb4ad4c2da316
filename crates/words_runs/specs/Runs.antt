-- Events one after another, done in order until one is refused; two bytes of answer each.
use Rattle.std.specs.Prelude.{cond, List, [], ◌∷◌, ◌++◌, ◌≡◌, ℕ, ◌+◌, eqb, length, drop}
use Rattle.map.specs.Map.{Part, part_of}
use Rattle.device_rules.specs.Device.{State, Outcome}
use Rattle.device_rules.specs.Answers.{answer_kind, answer_byte, refusal_number}
use Rattle.device_rules.specs.declared.Answer.{Answer}
use Rattle.words_state.specs.Packed.{state_in, Packed}
use Rattle.words_events.specs.Events.{Sent, one}

-- after some events: the number of the refusal that ended them, 0 for none; how many were done; two bytes told for each; the state
pub record Ran : Type 0 where
  pub number : ℕ
  pub done : ℕ
  pub told : List ℕ
  pub after : State

-- nothing done, nothing told
abbrev pub ended : (number : ℕ) → State → Ran
ended number s = record { number = number; done = 0; told = []; after = s }

-- so many done and this told before
abbrev pub onto : (done : ℕ) → (told : List ℕ) → Ran → Ran
onto done told r = record { number = r.number; done = done + r.done; told = told ++ r.told; after = r.after }

-- an answer's kind and the byte read, else 0
abbrev pub two_of : Answer → List ℕ
two_of a = answer_kind a ∷ answer_byte a ∷ []

-- one event, and then the rest: its answer is told; refused, it ends them, and the state is that before it
abbrev pub after_one : State → Outcome → (rest : State → Ran) → Ran
after_one s o rest = cond (eqb (answer_kind o.answer) 4) (ended (refusal_number o.answer) s) (onto 1 (two_of o.answer) (rest o.after))

-- events in order
unfoldable pub ran : Part → State → List Sent → Ran
ran p s [] = ended 0 s
ran p s (e ∷ es) = after_one s (one p s e) (λ s. ran p s es)

-- ---- on lent memory
-- what the events leave of words that are packed of part c: the number; the state; the answers in front, those past them as they were; the count
pub record Left (c : ℕ) (b : Ran) (number : ℕ) (w' answers answers' done' : List ℕ) : Type 0 where
  pub number_is : number ≡ b.number
  pub packed : Packed c w'
  pub after : state_in (part_of c) w' ≡ b.after
  pub told : answers' ≡ b.told ++ drop (length b.told) answers
  pub counted : done' ≡ b.done ∷ []
