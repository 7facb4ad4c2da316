-- Each of the code's cases says what `traced` gives for its line. Assumes nothing.
use mathlib.Core.Path.{◌≡◌, refl, ap, sym, ◌∙◌}
use mathlib.Core.Bool.{Bool, cond}
use mathlib.Core.List.{List}
use Prim.Native.Nat.{ℕ, zero, suc, ◌<◌, ◌≤◌}
use native.Mathlib.Omega.{arith}
use borrow.Author.Tests.{lt-ltb, le-ltb}
use lib.Dec.{ltb}
use lib.ListN.{get_or}
use Rattle.map.specs.Map.{Part, part_of}
use Rattle.device_rules.specs.Device.{Outcome, out}
use Rattle.device_rules.specs.declared.Answer.{Answer}
use Rattle.device_rules.specs.declared.Answer.TheVariants.{Nothing}
use Rattle.device_rules.specs.Refusals.{stepped}
use Rattle.device_rules.specs.PowerOn.{power_on}
use Rattle.words_state.specs.Packed.{state_in, Packed}
use Rattle.text.specs.Text.{Wrote}
use Rattle.text.proofs.Laws.{wrote_as}
use Rattle.trace_lines.specs.declared.Line.{Line}
use Rattle.trace_lines.specs.declared.Line.TheVariants.{Event, Device as MadeLine}
use Rattle.trace_lines.specs.declared.Made.{Made}
use Rattle.std.specs.Prelude.{Option, Some, None}
use Rattle.trace_lines.specs.Lines.{line_of}
use Rattle.text_logs.specs.Lines.{Says}
use Rattle.text_answers.specs.Answers.{shown_line, refused_line}
use Rattle.trace_session.specs.Tracing.Session.{NoDevice, With}
use Rattle.trace_session.specs.Tracing.{Session, session_of, part_in, told_by, unreadable, traced, answer_to}

-- ---- the cases
-- a device of part c in the words
module _ (c : ℕ) (words : List ℕ) (k : Packed c words) where
  session_with : session_of words ≡ With c (state_in (part_of c) words)
  session_with =
      ap (λ (n : ℕ). cond (ltb n 2) (With n (state_in (part_of n) words)) NoDevice) k.part_is ∙ ap (λ (b : Bool). cond b (With c (state_in (part_of c) words)) NoDevice) (lt-ltb c 2 k.known_part)

  -- its line, as it is after an event
  pub told_said : (a : Answer) {o : Outcome} {out₀ : List ℕ} {at end : ℕ} {left : List ℕ} → out a (state_in (part_of c) words) ≡ o
      → Wrote out₀ at (shown_line (part_of (get_or words 27 0)) (out a (state_in (part_of (get_or words 27 0)) words))) end left → Says (told_by c o) out₀ at end left (session_of words)
  told_said a e w = record {
    says = wrote_as (ap (λ (n : ℕ). shown_line (part_of n) (out a (state_in (part_of n) words))) k.part_is ∙ ap (shown_line (part_of c)) e) w;
    goes_on = session_with ∙ ap (λ (o : Outcome). With c o.after) e;
  }

-- refusal 7
pub refused_said : (x : Session) {out₀ : List ℕ} {at end : ℕ} {left : List ℕ} → Wrote out₀ at (refused_line 7) end left → Says (unreadable x) out₀ at end left x
refused_said x w = record { says = w; goes_on = refl }

module _ (words : List ℕ) (kind arg : ℕ) where
  pub event_told : get_or words 27 0 < 2
      → told_by (get_or words 27 0) (stepped (part_of (get_or words 27 0)) (state_in (part_of (get_or words 27 0)) words) kind arg) ≡ traced (session_of words) (Some (Event kind arg))
  unfolding traced
  event_told h = rw (lt-ltb (get_or words 27 0) 2 h)

  pub event_refused : 2 ≤ get_or words 27 0 → unreadable (session_of words) ≡ traced (session_of words) (Some (Event kind arg))
  unfolding traced
  event_refused h = rw (le-ltb (get_or words 27 0) 2 h)

-- the part that the words name is the session's
pub part_here : (words : List ℕ) → part_of (get_or words 27 0) ≡ part_in (session_of words)
part_here words = sym (go (get_or words 27 0))
  where
    go : (n : ℕ) → part_in (cond (ltb n 2) (With n (state_in (part_of (get_or words 27 0)) words)) NoDevice) ≡ part_of n
    go zero = refl
    go (suc zero) = refl
    go (suc (suc n)) = rw (le-ltb (suc (suc n)) 2 (omega arith))

pub line_here : (words text : List ℕ) → line_of (part_of (get_or words 27 0)) text ≡ line_of (part_in (session_of words)) text
line_here words text = ap (λ (p : Part). line_of p text) (part_here words)

module _ (x : Session) (said : Option Line) (text : List ℕ) (read : said ≡ line_of (part_in x) text) where
  pub device_told : {m : Made} → said ≡ Some (MadeLine m) → told_by m.part (out Nothing (power_on (part_of m.part) m.choice m.levels 0)) ≡ answer_to x text
  unfolding traced
  device_told e = rw (← read, e)

  pub unreadable_said : said ≡ None → unreadable x ≡ answer_to x text
  unfolding traced
  unreadable_said e = rw (← read, e)
