-- A log beside the devices' runs: what its answers say, and which refusals there are in it.
use Rattle.std.specs.Prelude.{Some, ◌≡◌, List, [], ◌∷◌, ◌++◌, ◌⊎◌, ℕ}
use Rattle.map.specs.Map.{Part, part_of}
use Rattle.device_rules.specs.Device.{Outcome}
use Rattle.device_rules.specs.Answers.{refusal_number}
use Rattle.device_demands.specs.Run.{Asked, Seen, run}
use Rattle.trace_lines.specs.Lines.{line_of}
use Rattle.trace_lines.specs.declared.Line.TheVariants.{Device, Event}
use Rattle.text_answers.specs.Answers.{answer_line, shown_line, refused_line}
use Rattle.trace_session.specs.Tracing.{Session, answer_to}

-- what is seen, as lines: answer, INT, pins driven low, pins driven high
unfoldable pub seen_lines : Part → List Seen → List ℕ
seen_lines p [] = []
seen_lines p (x ∷ xs) = answer_line p x.answer x.int x.low x.high ++ seen_lines p xs

-- a device of a log, and the events that it has until the next device or the end
pub record Life : Type 0 where
  pub part : ℕ
  pub choice : ℕ
  pub levels : ℕ
  pub events : List Asked

-- the lines of its run
abbrev pub life_lines : Life → List ℕ
life_lines d = seen_lines (part_of d.part) (run (part_of d.part) d.choice d.levels 0 d.events)

unfoldable pub lives_lines : List Life → List ℕ
lives_lines [] = []
lives_lines (d ∷ ds) = life_lines d ++ lives_lines ds

-- lines that say these events of a device of this part, one a line
abbrev pub SayEvents : Part → (lines : List (List ℕ)) → List Asked → Type 0
SayEvents p [] [] = Unit {0}
SayEvents p [] (e ∷ es) = ⊥
SayEvents p (l ∷ lines) [] = ⊥
SayEvents p (l ∷ lines) (e ∷ es) = (line_of p l ≡ Some (Event e.kind e.arg)) × SayEvents p lines es

-- lines of which the first makes the device, where there is one of this part, and the others say its events
abbrev pub SayLife : Part → (lines : List (List ℕ)) → Life → Type 0
SayLife p [] d = ⊥
SayLife p (l ∷ lines) d = (line_of p l ≡ Some (Device (record { part = d.part; choice = d.choice; levels = d.levels }))) × SayEvents (part_of d.part) lines d.events

-- the same for one device after the other, each of either part
abbrev pub SayLives : Part → (groups : List (List (List ℕ))) → List Life → Type 0
SayLives p [] [] = Unit {0}
SayLives p [] (d ∷ ds) = ⊥
SayLives p (lines ∷ groups) [] = ⊥
SayLives p (lines ∷ groups) (d ∷ ds) = SayLife p lines d × SayLives (part_of d.part) groups ds

unfoldable pub all_lines : (groups : List (List (List ℕ))) → List (List ℕ)
all_lines [] = []
all_lines (lines ∷ groups) = lines ++ all_lines groups

-- a line of answers: refusal 7, or what is seen after an event of a device that was not refused
abbrev pub Answered : List ℕ → Type 0
Answered line = (line ≡ refused_line 7) ⊎ ((part : ℕ) × (o : Outcome) × (refusal_number o.answer ≡ 0) × (line ≡ shown_line (part_of part) o))

-- every line that is answered to these lines
abbrev pub AllAnswered : Session → (lines : List (List ℕ)) → Type 0
AllAnswered x [] = Unit {0}
AllAnswered x (l ∷ lines) = Answered (answer_to x l).line × AllAnswered (answer_to x l).after lines
