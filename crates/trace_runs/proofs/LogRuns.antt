-- A log that makes devices and goes on with events of them is answered by the lines of the devices' runs, and no log is answered by another refusal than 7. Assumes nothing.
use mathlib.Core.Path.{◌≡◌, refl, sym, ap, ◌∙◌}
use mathlib.Core.List.{List, [], ◌∷◌, ◌++◌, append_assoc}
use mathlib.Core.Logic.{inl, inr}
use Prim.Native.Nat.{ℕ, zero, suc}
use native.Mathlib.Omega.{arith}
use borrow.Author.Tests.{le-leb}
use Rattle.map.specs.Map.{Part, part34, part_of}
use Rattle.registers.proofs.Lawful.{Lawful, lawful24, lawful34}
use Rattle.device_rules.specs.Device.{State, Outcome, out}
use Rattle.device_rules.specs.Answers.{refusal_number}
use Rattle.device_rules.specs.declared.Answer.TheVariants.{Nothing}
use Rattle.device_rules.specs.Refusals.{refusal, stepped, event_of}
use Rattle.device_rules.specs.PowerOn.{power_on}
use Rattle.device_rules.proofs.Images.{taken}
use Rattle.device_demands.specs.Run.{Asked, after, seen_from}
use Rattle.device_demands.proofs.Keeps.{WellFormed, image_of, stepped_keeps, power_on_fits}
use Rattle.device_demands.proofs.Runs.{step_answers}
use Rattle.trace_lines.specs.Lines.{line_of, Taken, Means}
use Rattle.trace_lines.specs.declared.Line.{Line}
use Rattle.std.specs.Prelude.{Option, Some, None}
use Rattle.trace_lines.specs.declared.Line.TheVariants.{Device, Event}
use Rattle.trace_lines.proofs.Laws.{line_means, taken_fits}
use Rattle.text_answers.specs.Answers.{answer_line, shown_text, shown_line}
use Rattle.trace_session.specs.Tracing.{Session, part_in, traced, answer_to}
use Rattle.trace_session.specs.Tracing.Session.{NoDevice, With}
use Rattle.text_logs.specs.Lines.{lines_of, answers_from}
use Rattle.trace_logs.specs.Logs.{header, answers_of}
use Rattle.trace_runs.specs.LogRuns.{Life, seen_lines, life_lines, lives_lines, SayEvents, SayLife, SayLives, all_lines, Answered, AllAnswered}

-- ---- a log and the runs
-- events of a device, and the lines behind them
events_seen : (part : ℕ) (s : State) (lines more : List (List ℕ)) (es : List Asked) → SayEvents (part_of part) lines es
    → answers_from answer_to (With part s) (lines ++ more) ≡ seen_lines (part_of part) (seen_from (part_of part) s es) ++ answers_from answer_to (With part (after (part_of part) s es)) more
unfolding answers_from seen_lines seen_from after traced shown_line shown_text answer_line
events_seen part s [] more [] says = refl
events_seen part s [] more (e ∷ es) says = absurd says
events_seen part s (l ∷ lines) more [] says = absurd says
events_seen part s (l ∷ lines) more (e ∷ es) says =
    let p : Part = part_of part in
    let o : Outcome = stepped p s e.kind e.arg in
    ap (λ (x : Option Line). (traced (With part s) x).line ++ answers_from answer_to (traced (With part s) x).after (lines ++ more)) says.0
    ∙ ap (λ (t : List ℕ). shown_line p o ++ t) (events_seen part o.after lines more es says.1)
    ∙ sym (append_assoc (shown_line p o) (seen_lines p (seen_from p o.after es)) (answers_from answer_to (With part (after p o.after es)) more))

-- a device's life, whatever there was before
life_seen : (x : Session) (lines more : List (List ℕ)) (d : Life) → SayLife (part_in x) lines d
    → answers_from answer_to x (lines ++ more)
    ≡ life_lines d ++ answers_from answer_to (With d.part (after (part_of d.part) (power_on (part_of d.part) d.choice d.levels 0) d.events)) more
unfolding answers_from seen_lines traced shown_line shown_text answer_line
life_seen x [] more d says = absurd says
life_seen x (l ∷ lines) more d says =
    let p : Part = part_of d.part in
    let s : State = power_on p d.choice d.levels 0 in
    ap (λ (y : Option Line). (traced x y).line ++ answers_from answer_to (traced x y).after (lines ++ more)) says.0
    ∙ ap (λ (t : List ℕ). shown_line p (out Nothing s) ++ t) (events_seen d.part s lines more d.events says.1)
    ∙ sym (append_assoc (shown_line p (out Nothing s)) (seen_lines p (seen_from p s d.events)) (answers_from answer_to (With d.part (after p s d.events)) more))

lives_seen : (x : Session) (groups : List (List (List ℕ))) (ds : List Life) → SayLives (part_in x) groups ds → answers_from answer_to x (all_lines groups) ≡ lives_lines ds
unfolding answers_from all_lines lives_lines
lives_seen x [] [] says = refl
lives_seen x [] (d ∷ ds) says = absurd says
lives_seen x (lines ∷ groups) [] says = absurd says
lives_seen x (lines ∷ groups) (d ∷ ds) says =
    let s : State = after (part_of d.part) (power_on (part_of d.part) d.choice d.levels 0) d.events in
    life_seen x lines (all_lines groups) d says.0 ∙ ap (λ (t : List ℕ). life_lines d ++ t) (lives_seen (With d.part s) groups ds says.1)

-- a log that makes devices of either part, one after the other, each with events of it, is answered by the header and the lines of their runs from power-on
pub log_run : (log : List ℕ) (groups : List (List (List ℕ))) (ds : List Life) → lines_of [] log ≡ all_lines groups → SayLives part34 groups ds → answers_of log ≡ header ++ lives_lines ds
unfolding answers_of
log_run log groups ds all says =
    ap (λ (x : List (List ℕ)). header ++ answers_from answer_to NoDevice x) all ∙ ap (λ (t : List ℕ). header ++ t) (lives_seen NoDevice groups ds says)

-- ---- refusals
lawful : (part : ℕ) → Lawful (part_of part)
lawful zero = lawful24
lawful (suc n) = lawful34

abbrev Fine : Session → Type 0
Fine NoDevice = Unit {0}
Fine (With part s) = WellFormed (part_of part) s

-- an event that a line says is not refused by a well-formed device
module _ (p : Part) where
  module _ (s : State) (g : WellFormed p s) (kind arg : ℕ) (t : Taken p kind arg) where
    unrefused : refusal p s kind arg ≡ 0
    unfolding refusal
    unrefused = simp (image_of p s g.sound, le-leb kind 5 t.0, taken_fits p kind arg t)

    answers : refusal_number (stepped p s kind arg).answer ≡ 0
    answers = ap (λ (o : Outcome). refusal_number o.answer) (sym (taken p s kind arg unrefused)) ∙ step_answers p s (event_of kind arg)

-- each line's answer, and what there is after it
said : (x : Session) → Fine x → (l : Option Line) → Means (part_in x) l → Answered (traced x l).line × Fine (traced x l).after
unfolding traced
said x g None m = (inl refl, g)
said x g (Some (Device made)) m =
    let h = m.makes made refl in
    (inr (made.part, out Nothing (power_on (part_of made.part) made.choice made.levels 0), refl, refl), power_on_fits (part_of made.part) (lawful made.part) made.choice made.levels 0 (omega (arith, h.1)) h.2 (omega arith))
said NoDevice g (Some (Event kind arg)) m = (inl refl, tt)
said (With part s) g (Some (Event kind arg)) m =
    (inr (part, stepped (part_of part) s kind arg, answers (part_of part) s g kind arg (m.takes kind arg refl), refl), stepped_keeps (part_of part) (lawful part) s g kind arg)

all_answered : (x : Session) → Fine x → (lines : List (List ℕ)) → AllAnswered x lines
all_answered x g [] = tt
all_answered x g (l ∷ lines) =
    let here = said x g (line_of (part_in x) l) (line_means (part_in x) l) in
    (here.0, all_answered (answer_to x l).after here.1 lines)

-- every line of every log is answered, and by no refusal but 7
pub no_refusal_but_7 : (log : List ℕ) → AllAnswered NoDevice (lines_of [] log)
no_refusal_but_7 log = all_answered NoDevice tt (lines_of [] log)
