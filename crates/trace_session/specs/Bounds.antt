-- No answer is long, and a line that is too long is answered as its beginning.
use Rattle.std.specs.Prelude.{Option, Some, None, ◌≡◌, Bool, true, false, refl, List, ℕ, ◌+◌, ◌*◌, ◌≤◌, ltb, length, take}
use mathlib.Core.Path.{ap}
use native.Mathlib.Omega.{arith}
use borrow.Author.Tests.{ltb-true, ltb-false}
use Rattle.map.specs.Map.{part_of}
use Rattle.device_rules.specs.Device.{out}
use Rattle.device_rules.specs.declared.Answer.TheVariants.{Nothing}
use Rattle.device_rules.specs.Refusals.{stepped}
use Rattle.device_rules.specs.PowerOn.{power_on}
use Rattle.trace_lines.specs.declared.Line.{Line}
use Rattle.trace_lines.specs.declared.Line.TheVariants.{Event, Device as MadeLine}
use Rattle.trace_lines.specs.Lines.{line_of}
use Rattle.trace_lines.proofs.Laws.{line_tiny, line_long}
use Rattle.text_answers.proofs.Laws.{refused_short, told_short}
use Rattle.text_logs.proofs.Laws.{cut_long}
use Rattle.trace_session.specs.Tracing.Session.{NoDevice, With}
use Rattle.trace_session.specs.Tracing.{Session, part_in, traced, answer_to}

-- no answer is longer than 26 bytes
pub traced_short : (x : Session) (l : Option Line) → length (traced x l).line ≤ 26
unfolding traced
traced_short x None = omega (arith, refused_short 7)
traced_short x (Some (MadeLine made)) = told_short made.part (out Nothing (power_on (part_of made.part) made.choice made.levels 0))
traced_short NoDevice (Some (Event kind arg)) = omega (arith, refused_short 7)
traced_short (With part s) (Some (Event kind arg)) = told_short part (stepped (part_of part) s kind arg)

pub answer_fits : (x : Session) (text : List ℕ) → length (answer_to x text).line ≤ 26
answer_fits x text = traced_short x (line_of (part_in x) text)

-- nor than ten for each byte of its line with the newline
pub answer_short : (x : Session) (text : List ℕ) → length (answer_to x text).line ≤ 10 * (length text + 1)
unfolding traced
answer_short x text = go (ltb (length text) 2) refl
  where
    go : (t : Bool) → ltb (length text) 2 ≡ t → length (answer_to x text).line ≤ 10 * (length text + 1)
    go true e = omega (arith, ap (λ (l : Option Line). length (traced x l).line) (line_tiny (part_in x) text (omega (arith, ltb-true (length text) 2 e))), refused_short 7)
    go false e = omega (arith, traced_short x (line_of (part_in x) text), ltb-false (length text) 2 e)

-- of a line that has begun 33 bytes say as much as all of it
pub answer_cut : (x : Session) (line : List ℕ) → answer_to x (take 33 line) ≡ answer_to x line
answer_cut x line = ap (traced x) (cut_long (line_of (part_in x)) None (line_long (part_in x)) line)
