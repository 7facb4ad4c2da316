-- Each of the code's cases says what `watched` gives for its line. Assumes nothing.
use mathlib.Core.Path.{◌≡◌, refl, ap, sym, ◌∙◌}
use mathlib.Core.Bool.{Bool, true, false, cond, ◌&&◌}
use mathlib.Core.List.{List, ◌∷◌, ◌++◌}
use Prim.Native.Nat.{ℕ, suc, ◌+◌, ◌^◌, ◌<◌, ◌≤◌}
use native.Mathlib.Omega.{arith}
use borrow.Author.Tests.{eq-eqb, ne_eqb, lt-ltb, le-leb}
use lib.Dec.{eqb, ltb}
use lib.ListN.{length, get_or}
use Rattle.std.specs.Prelude.{Option, Some, None}
use Rattle.bits.specs.Bits.{bit}
use Rattle.map.specs.Map.{Part, part_of}
use Rattle.device_rules.specs.Device.{State, Outcome, out}
use Rattle.device_rules.specs.declared.Answer.TheVariants.{Nothing, Refused}
use Rattle.device_rules.specs.Refusals.{event_of, image_fits, refusal, stepped}
use Rattle.device_rules.specs.Answers.{answer_kind}
use Rattle.device_rules.specs.PowerOn.{power_on}
use Rattle.device_rules.proofs.Images.{taken}
use Rattle.device_demands.proofs.Runs.{step_taken}
use Rattle.words_state.specs.Packed.{state_in, Packed}
use Rattle.words_state.proofs.Judging.{image_fits_lem}
use Rattle.text.specs.Text.{hex_text, Wrote}
use Rattle.text.proofs.Laws.{wrote_as}
use Rattle.text_logs.specs.Lines.{Says}
use Rattle.text_logs.proofs.Laws.{says_as}
use Rattle.trace_lines.specs.Lines.{Taken}
use Rattle.trace_lines.proofs.Laws.{taken_fits}
use Rattle.trace_lines.specs.declared.Made.{Made}
use Rattle.trace_lines.specs.declared.Line.TheVariants.{Event as TracedEvent}
use Rattle.trace_session.specs.Tracing.{Session as TraceSession, session_of, part_number, traced, told_by as traceTold, part_in as trace_part, Kept as TraceKept, standing_line}
use Rattle.trace_session.specs.Tracing.Session.{NoDevice as NotTraced, With as Traced}
use Rattle.trace_session.proofs.Laws.{part_here}
use Rattle.loss_rules.specs.Marks.{Marks, SignedOff, quiet_and_healthy, is_reset, noted, marks_after, marks_fit, new_marks, marked_step, sign_refused, sign_off}
use Rattle.loss_rules.proofs.Laws.{fit_after, fit_signed}
use Rattle.loss_sets.specs.Sets.{marks_in, MakesMarks}
use Rattle.loss_marks.specs.Lent.{Signs}
use Rattle.loss_marks.proofs.Stepping.{status_small, by_outcome}
use Rattle.text_answers.specs.Answers.{digits_of, newline, shown_line}
use Rattle.watch_answers.specs.Marked.{marked_line, refusal_line}
use Rattle.watch_answers.proofs.Lines.{with_marks, room_left}
use Rattle.watch_lines.specs.Watching.{said_by}
use Rattle.watch_lines.specs.declared.Said.{Said}
use Rattle.watch_lines.specs.declared.Said.TheVariants.{Device, Event, SignOff}
use Rattle.watch_session.specs.Watch.{Session, watching, fitting, part_in, told_by, refused_by, signed_by, marked_by, watched, answer_to}
use Rattle.watch_session.specs.Watch.Session.{NoDevice, With}

-- ---- a session with marks
module _ (c : ℕ) {x : TraceSession} {s : State} (m : Marks) (is : x ≡ Traced c s) where
  pub watching_device : watching x m ≡ With c s m
  watching_device = ap (λ (y : TraceSession). watching y m) is

  pub fitting_device : fitting x m ≡ marks_fit (part_of c) m
  fitting_device = ap (λ (y : TraceSession). fitting y m) is

-- a session with a part has a device
abbrev one_more : Option ℕ → ℕ
one_more None = 0
one_more (Some n) = suc n

has_device : (x : TraceSession) (c : ℕ) → part_number x ≡ Some c → (s : State) × (x ≡ Traced c s)
has_device NotTraced c e = absurd (omega (arith, ap one_more e))
has_device (Traced q s) c e = let same : q ≡ c = omega (arith, ap one_more e) in (s, ap (λ (n : ℕ). Traced n s) same)

pub no_device : (x : TraceSession) → part_number x ≡ None → x ≡ NotTraced
no_device NotTraced e = refl
no_device (Traced q s) e = absurd (omega (arith, ap one_more e))

-- ---- what a trace leaves
abbrev number_after : TraceSession → ℕ
number_after NotTraced = 0
number_after (Traced q s) = suc q

abbrev state_there : State → TraceSession → State
state_there none NotTraced = none
state_there none (Traced q s) = s

-- words of which a trace says that they hold a device of part c in state s do
pub device_there : (c : ℕ) {w : List ℕ} {s : State} → session_of w ≡ Traced c s → TraceKept w → Packed c w × (state_in (part_of c) w ≡ s)
device_there c {w} {s} goes kept = go (ltb (get_or w 27 0) 2) refl (ap number_after goes) (ap (state_there s) goes)
  where
    go : (t : Bool) → ltb (get_or w 27 0) 2 ≡ t → number_after (cond t (Traced (get_or w 27 0) (state_in (part_of (get_or w 27 0)) w)) NotTraced) ≡ suc c
        → state_there s (cond t (Traced (get_or w 27 0) (state_in (part_of (get_or w 27 0)) w)) NotTraced) ≡ s → Packed c w × (state_in (part_of c) w ≡ s)
    go true e part state = let same : get_or w 27 0 ≡ c = omega (arith, part) in (rw same at (kept e), rw same at state)
    go false e part state = absurd (omega (arith, part))

-- a device of part c, its words, marks that fit it, and the session that these are
pub record Standing (x : TraceSession) (y : Session) (c : ℕ) (w m : List ℕ) : Type 0 where
  pub packed : Packed c w
  pub is : x ≡ Traced c (state_in (part_of c) w)
  pub fits : marks_fit (part_of c) (marks_in m) ≡ true
  pub seen : With c (state_in (part_of c) w) (marks_in m) ≡ y

pub standing : {x : TraceSession} {y : Session} {c : ℕ} {w : List ℕ} (m : List ℕ) → watching x (marks_in m) ≡ y → part_number x ≡ Some c → TraceKept w × (session_of w ≡ x) → fitting x (marks_in m) ≡ true
    → Standing x y c w m
standing {x} {y} {c} m view e words fit =
    let d = has_device x c e in
    let there = device_there c (words.1 ∙ d.1) words.0 in
    let is = d.1 ∙ ap (Traced c) (sym there.1) in
    record { packed = there.0; is = is; fits = sym (fitting_device c (marks_in m) is) ∙ fit; seen = sym (watching_device c (marks_in m) is) ∙ view }

-- ---- a line of a device and its marks
pub told_says : (c : ℕ) (o : Outcome) {x : TraceSession} (m : List ℕ) {marks : Marks} {lent left : List ℕ} {at end : ℕ} → x ≡ Traced c o.after → marks_in m ≡ marks
    → Wrote lent at (marked_line (part_of c) o (get_or m 0 0)) end left → Says (told_by c o marks) lent at end left (watching x (marks_in m))
told_says c o m is f v = record {
  says = wrote_as (ap (λ (x : Marks). marked_line (part_of c) o x.set) f) v;
  goes_on = watching_device c (marks_in m) is ∙ ap (With c o.after) f;
}

-- refused: nothing changes
pub refused_says : (x : Session) (n : ℕ) {lent left : List ℕ} {at end : ℕ} → Wrote lent at (refusal_line n) end left → Says (refused_by x n) lent at end left x
refused_says x n v = record { says = v; goes_on = refl }

-- ---- a device anew
pub marks_made : (c healthy : ℕ) {number : ℕ} {m m' : List ℕ} → healthy < 2 ^ (part_of c).width → MakesMarks c healthy number m m' → marks_in m' ≡ new_marks (part_of c) healthy
marks_made c healthy h g = g.made (g.number_is ∙ ap (λ (t : Bool). cond {A = ℕ} t 0 2) (lt-ltb healthy (2 ^ (part_of c).width) h))

-- ---- an event of a device: what a trace says of it, and the marks
module _ {x : TraceSession} {y : Session} {c : ℕ} {w m : List ℕ} (d : Standing x y c w m) (kind arg : ℕ) (asked : Taken (part_in y) kind arg) where
  abbrev p : Part
  p = part_of c

  abbrev here : State
  here = state_in p w

  abbrev o : Outcome
  o = stepped p here kind arg

  takes : Taken p kind arg
  takes = rw (sym d.seen) at asked

  not_refused : refusal p here kind arg ≡ 0
  unfolding refusal
  not_refused = simp (image_fits_lem c w d.packed, le-leb kind 5 takes.0, taken_fits p kind arg takes)

  event_answers : eqb (answer_kind o.answer) 4 ≡ false
  event_answers = ap (λ (x : Outcome). eqb (answer_kind x.answer) 4) (sym (taken p here kind arg not_refused)) ∙ step_taken p here (event_of kind arg)

  of_step : marked_by c (marked_step p here (marks_in m) kind arg) ≡ told_by c o (marks_after p here (event_of kind arg) o (marks_in m))
  unfolding marked_step
  of_step = ap (λ (t : Bool). told_by c (cond t o (out (Refused 3) here)) (marks_after p here (event_of kind arg) (cond t o (out (Refused 3) here)) (marks_in m))) d.fits

  watched_event : marked_by c (marked_step p here (marks_in m) kind arg) ≡ watched y (Some (Event kind arg))
  unfolding watched
  watched_event = ap (λ (y : Session). watched y (Some (Event kind arg))) d.seen

  -- what a trace says of it is what it shows
  event_traced : traced x (Some (TracedEvent kind arg)) ≡ traceTold c o
  unfolding traced
  event_traced = ap (λ (x : TraceSession). traced x (Some (TracedEvent kind arg))) d.is

  module _ {x' : TraceSession} {lent middle : List ℕ} {at end : ℕ} (told : Says (traced x (Some (TracedEvent kind arg))) lent at end middle x') where
    pub event_room : at + 36 ≤ length lent → (0 < end) × (end + 10 ≤ length middle)
    event_room room = room_left c o (says_as event_traced told).says room

    -- the words after it, and the marks that were noted
    module _ {w' : List ℕ} {resets : Bool} (m' : List ℕ) (after : TraceKept w' × (session_of w' ≡ x')) (resets-are : resets ≡ is_reset here (event_of kind arg))
        (into : (p : Part) → marks_fit p (marks_in m) ≡ true → get_or w 19 0 < 2 ^ p.width → get_or w' 19 0 < 2 ^ p.width → marks_in m' ≡ noted p resets (get_or w 19 0) (get_or w' 19 0) (marks_in m)) where
      goes : x' ≡ Traced c o.after
      goes = (says_as event_traced told).goes_on

      -- the marks are those of the rules
      marks_are : marks_in m' ≡ marks_after p here (event_of kind arg) o (marks_in m)
      marks_are =
          let there = device_there c (after.1 ∙ goes) after.0 in
          into p d.fits (status_small c w d.packed) (status_small c w' there.0)
          ∙ ap (λ (r : Bool). noted p r (get_or w 19 0) (get_or w' 19 0) (marks_in m)) resets-are
          ∙ by_outcome p here kind arg (marks_in m) (ap (out o.answer) there.1) false event_answers

      pub event_fits : fitting x' (marks_in m') ≡ true
      event_fits = fitting_device c (marks_in m') goes ∙ ap (marks_fit p) marks_are ∙ fit_after p here (event_of kind arg) o (marks_in m) d.fits

      pub event_says : {left : List ℕ} {last : ℕ}
          → ((lent : List ℕ) (at : ℕ) (text : List ℕ) → Wrote lent at (text ++ newline) end middle → Wrote lent at (text ++ ((0x09 ∷ hex_text (digits_of p) (get_or m' 0 0)) ++ newline)) last left)
          → Says (watched y (Some (Event kind arg))) lent at last left (watching x' (marks_in m'))
      event_says put = says_as (sym of_step ∙ watched_event) (told_says c o m' goes marks_are (with_marks p o (get_or m' 0 0) event_answers (says_as event_traced told).says put))

-- ---- a sign-off
-- its number
few : (p : Part) (s : State) (m : Marks) (pin : ℕ) → sign_refused p s m pin < 256
unfolding sign_refused
few p s m pin =
    go (image_fits p s && marks_fit p m) (ltb pin p.width) (quiet_and_healthy (bit s.interrupt.status pin) (bit s.regs.sets.level pin) (bit m.healthy pin))
  where
    go : (fits there well : Bool) → cond fits (cond there (cond well 0 13) 2) 3 < 256
    go true true true = omega arith
    go true true false = omega arith
    go true false well = omega arith
    go false there well = omega arith

module _ {x : TraceSession} {y : Session} {c : ℕ} {w m : List ℕ} (d : Standing x y c w m) (pin : ℕ) {number : ℕ} {m' : List ℕ} (g : Signs c w m m' pin number) where
  abbrev q : Part
  q = part_of c

  abbrev s : State
  s = state_in q w

  abbrev r : SignedOff
  r = sign_off q s (marks_in m) pin

  refusal_is : r.refusal ≡ sign_refused q s (marks_in m) pin
  unfolding sign_off
  refusal_is = refl

  pub number_few : number < 256
  number_few = rw (g.number_is d.packed, refusal_is) (few q s (marks_in m) pin)

  watched_sign : signed_by c s (marks_in m) r ≡ watched y (Some (SignOff pin))
  unfolding watched
  watched_sign = ap (λ (y : Session). watched y (Some (SignOff pin))) d.seen

  pub signed_fits : fitting x (marks_in m') ≡ true
  signed_fits = fitting_device c (marks_in m') d.is ∙ ap (marks_fit q) (g.marks_are d.packed) ∙ fit_signed q s (marks_in m) pin d.fits

  -- taken: the device's line as it stands, and its marks
  module _ {lent middle : List ℕ} {at end : ℕ} (stands : Wrote lent at (standing_line x) end middle) where
    line_is : Wrote lent at (shown_line q (out Nothing s)) end middle
    line_is = wrote_as (ap standing_line d.is) stands

    pub signed_room : at + 36 ≤ length lent → (0 < end) × (end + 10 ≤ length middle)
    signed_room room = room_left c (out Nothing s) line_is room

    pub signed_says : number ≡ 0 → {left : List ℕ} {last : ℕ}
        → ((lent : List ℕ) (at : ℕ) (text : List ℕ) → Wrote lent at (text ++ newline) end middle → Wrote lent at (text ++ ((0x09 ∷ hex_text (digits_of q) (get_or m' 0 0)) ++ newline)) last left)
        → Says (watched y (Some (SignOff pin))) lent at last left (watching x (marks_in m'))
    signed_says z put =
        says_as (ap (λ (t : Bool). cond t (told_by c (out Nothing s) r.marks) (refused_by (With c s (marks_in m)) r.refusal)) (sym (eq-eqb r.refusal 0 (sym (g.number_is d.packed) ∙ z))) ∙ watched_sign)
        (told_says c (out Nothing s) m' d.is (g.marks_are d.packed) (with_marks q (out Nothing s) (get_or m' 0 0) refl line_is put))

  -- refused: nothing changes
  pub unsigned_says : (number ≡ 0 → ⊥) → {lent left : List ℕ} {at end : ℕ} → Wrote lent at (refusal_line number) end left → Says (watched y (Some (SignOff pin))) lent at end left (watching x (marks_in m'))
  unsigned_says z v =
      rw (g.refused z, watching_device c (marks_in m) d.is)
      (says_as (ap (refused_by (With c s (marks_in m))) (g.number_is d.packed)
      ∙ ap (λ (t : Bool). cond t (told_by c (out Nothing s) r.marks) (refused_by (With c s (marks_in m)) r.refusal)) (sym (ne_eqb r.refusal 0 (λ e. z (g.number_is d.packed ∙ e)))) ∙ watched_sign)
      (refused_says (With c s (marks_in m)) number v))

-- ---- before a device
module _ {x : TraceSession} {y : Session} (m : Marks) (none : x ≡ NotTraced) (is : watching x m ≡ y) {lent left : List ℕ} {at end : ℕ} (v : Wrote lent at (refusal_line 7) end left) where
  no_device_there : y ≡ NoDevice
  no_device_there = sym is ∙ ap (λ (x : TraceSession). watching x m) none

  pub event_none : (kind arg : ℕ) → Says (watched y (Some (Event kind arg))) lent at end left y
  unfolding watched
  event_none kind arg = rw no_device_there (refused_says NoDevice 7 v)

  pub sign_none : (pin : ℕ) → Says (watched y (Some (SignOff pin))) lent at end left y
  unfolding watched
  sign_none pin = rw no_device_there (refused_says NoDevice 7 v)

-- ---- the line that is read
-- the part that the words name is the session's
same_part : (x : TraceSession) (m : Marks) → trace_part x ≡ part_in (watching x m)
same_part NotTraced m = refl
same_part (Traced q s) m = refl

pub line_here : (w text : List ℕ) {x : TraceSession} (m : Marks) → session_of w ≡ x → said_by (part_of (get_or w 27 0)) text ≡ said_by (part_in (watching x m)) text
line_here w text {x} m is = ap (λ (p : Part). said_by p text) (part_here w ∙ ap trace_part is ∙ same_part x m)

module _ (x : Session) (said : Option Said) (text : List ℕ) (read : said ≡ said_by (part_in x) text) where
  pub device_said : {m : Made} {healthy : ℕ} → said ≡ Some (Device m healthy)
      → told_by m.part (out Nothing (power_on (part_of m.part) m.choice m.levels 0)) (new_marks (part_of m.part) healthy) ≡ answer_to x text
  unfolding watched
  device_said e = ap (watched x) (sym e ∙ read)

  pub unreadable_said : said ≡ None → refused_by x 7 ≡ answer_to x text
  unfolding watched
  unreadable_said e = ap (watched x) (sym e ∙ read)
