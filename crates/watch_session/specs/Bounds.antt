-- No answer is long, and a line that is too long is answered as its beginning.
use Rattle.std.specs.Prelude.{Option, Some, None, ◌≡◌, Bool, true, false, refl, List, ℕ, ◌+◌, ◌*◌, ◌≤◌, eqb, ltb, length, take}
use mathlib.Core.Path.{ap}
use native.Mathlib.Omega.{arith}
use borrow.Author.Tests.{ltb-true, ltb-false}
use Rattle.bits.proofs.Decide.{either_arm}
use Rattle.map.specs.Map.{part_of}
use Rattle.device_rules.specs.Device.{out}
use Rattle.device_rules.specs.declared.Answer.TheVariants.{Nothing}
use Rattle.device_rules.specs.PowerOn.{power_on}
use Rattle.text_answers.proofs.Laws.{refused_short}
use Rattle.text_logs.specs.Lines.{Reply}
use Rattle.text_logs.proofs.Laws.{cut_long}
use Rattle.loss_rules.specs.Marks.{new_marks, marked_step, sign_off}
use Rattle.watch_answers.specs.Marked.{refusal_line}
use Rattle.watch_answers.proofs.Lines.{marked_short, refusal_short}
use Rattle.watch_lines.specs.Watching.{said_by}
use Rattle.watch_lines.specs.declared.Said.{Said}
use Rattle.watch_lines.specs.declared.Said.TheVariants.{Device, Event, SignOff}
use Rattle.watch_lines.proofs.Laws.{said_tiny, said_long}
use Rattle.watch_session.specs.Watch.{Session, part_in, watched, answer_to}
use Rattle.watch_session.specs.Watch.Session.{NoDevice, With}

short_refusal : (n : ℕ) → length (refusal_line n) ≤ 36
short_refusal n = omega (arith, refusal_short n)

-- no answer is longer than 36 bytes
pub watched_short : (x : Session) (l : Option Said) → length (watched x l).line ≤ 36
unfolding watched
watched_short x None = short_refusal _
watched_short x (Some (Device made healthy)) = marked_short made.part (out Nothing (power_on (part_of made.part) made.choice made.levels 0)) (new_marks (part_of made.part) healthy).set
watched_short NoDevice (Some (Event kind arg)) = short_refusal _
watched_short (With part s m) (Some (Event kind arg)) =
    let r = marked_step (part_of part) s m kind arg in
    marked_short part (out r.answer r.after) r.marks.set
watched_short NoDevice (Some (SignOff pin)) = short_refusal _
watched_short (With part s m) (Some (SignOff pin)) =
    let r = sign_off (part_of part) s m pin in
    either_arm (λ (t : Reply Session). length t.line ≤ 36) (eqb r.refusal 0) (marked_short part (out Nothing s) r.marks.set) (short_refusal r.refusal)

pub answer_fits : (x : Session) (text : List ℕ) → length (answer_to x text).line ≤ 36
answer_fits x text = watched_short x (said_by (part_in x) text)

-- nor than ten for each byte of its line with the newline
pub answer_short : (x : Session) (text : List ℕ) → length (answer_to x text).line ≤ 10 * (length text + 1)
unfolding watched refusal_line
answer_short x text = go (ltb (length text) 3) refl
  where
    go : (t : Bool) → ltb (length text) 3 ≡ t → length (answer_to x text).line ≤ 10 * (length text + 1)
    go true e = omega (arith, ap (λ (l : Option Said). length (watched x l).line) (said_tiny text (part_in x) (ltb-true (length text) 3 e)), refused_short 7)
    go false e = omega (arith, watched_short x (said_by (part_in x) text), ltb-false (length text) 3 e)

-- of a line that has begun 33 bytes say as much as all of it
pub answer_cut : (x : Session) (line : List ℕ) → answer_to x (take 33 line) ≡ answer_to x line
answer_cut x line = ap (watched x) (cut_long (said_by (part_in x)) None (λ s. said_long s (part_in x)) line)
