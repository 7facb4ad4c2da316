-- A burst as a run of the device: its answers up to the first refusal, and what is left there.
use Rattle.std.specs.Prelude.{cond, List, [], ◌∷◌, ◌++◌, ◌≡◌, ℕ, ◌/◌, ◌%◌, ◌^◌, eqb, length, get_or, take}
use Rattle.map.specs.Map.{Part}
use Rattle.device_rules.specs.Device.{State}
use Rattle.device_rules.specs.Answers.{answer_kind, refusal_number}
use Rattle.device_rules.specs.declared.Answer.{Answer}
use Rattle.device_rules.specs.declared.Answer.TheVariants.{Nothing}
use Rattle.device_demands.specs.Run.{Asked, after}
use Rattle.words_events.specs.Events.{Sent, sent, halved}
use Rattle.words_runs.specs.Runs.{Ran, two_of}

-- an event as it is sent: its argument in two halves where the part takes both, else the third word 0
abbrev pub as_sent : Part → Asked → Sent
as_sent p e = cond (halved p) (sent e.kind (e.arg % 2 ^ 32) (e.arg / 2 ^ 32)) (sent e.kind e.arg 0)

unfoldable pub sent_as : Part → List Asked → List Sent
sent_as p [] = []
sent_as p (e ∷ es) = as_sent p e ∷ sent_as p es

-- the answers before the first refusal
unfoldable pub until_refused : List Answer → List Answer
until_refused [] = []
until_refused (a ∷ rest) = cond (eqb (answer_kind a) 4) [] (a ∷ until_refused rest)

-- two bytes for each
unfoldable pub twos_of : List Answer → List ℕ
twos_of [] = []
twos_of (a ∷ rest) = two_of a ++ twos_of rest

-- of the answers that the run gives: those before the first refusal are told and counted, and its number is given; the state is that of the events that were answered
pub record RunsAs (p : Part) (s : State) (es : List Asked) (given : List Answer) (r : Ran) : Type 0 where
  pub counted : r.done ≡ length (until_refused given)
  pub told : r.told ≡ twos_of (until_refused given)
  pub refused : r.number ≡ refusal_number (get_or given r.done Nothing)
  pub state : r.after ≡ after p s (take r.done es)
