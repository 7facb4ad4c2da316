-- The marks over the loop: those so far, and then the rest, are the whole. Assumes nothing.
use mathlib.Core.Path.{◌≡◌, sym, ap, ◌∙◌}
use mathlib.Core.Bool.{Bool, true, false, cond}
use mathlib.Core.List.{List}
use Prim.Native.Nat.{ℕ, ◌+◌, ◌-◌, ◌^◌, ◌<◌, ◌≤◌}
use native.Mathlib.Omega.{arith}
use lib.Dec.{eqb}
use lib.ListN.{get_or}
use Rattle.map.specs.Map.{Part, part_of}
use Rattle.device_rules.specs.Device.{Outcome}
use Rattle.device_rules.specs.Refusals.{event_of}
use Rattle.device_rules.specs.Answers.{answer_kind}
use Rattle.device_rules.specs.declared.Answer.{Answer}
use Rattle.words_state.specs.Packed.{state_in, Packed, Leaves}
use Rattle.words_events.specs.Events.{Sent, event_at, sent_of, whole_of, one}
use Rattle.words_events.proofs.Doing.{sent_first}
use Rattle.loss_rules.specs.Marks.{Marks, is_reset, noted, marks_fit}
use Rattle.loss_rules.proofs.Laws.{fit_after}
use Rattle.loss_marks.proofs.Stepping.{status_small, by_outcome}
use Rattle.loss_runs.specs.MarkedRuns.{marked_by, marks_over}

-- ---- one event, on words
module _ (c : ℕ) (w : List ℕ) (m : Marks) (k : Packed c w) (e : Sent) {w' : List ℕ} {a : Answer} (l : Leaves c w' a (one (part_of c) (state_in (part_of c) w) e)) where
  pub refused_event : eqb (answer_kind a) 4 ≡ true → m ≡ marked_by (part_of c) (state_in (part_of c) w) e m
  refused_event h = by_outcome (part_of c) (state_in (part_of c) w) e.kind (whole_of e) m l.outcome true h

  pub taken_event : eqb (answer_kind a) 4 ≡ false → {resets : Bool} → resets ≡ is_reset (state_in (part_of c) w) (event_of e.kind (whole_of e)) → {m' : Marks}
      → ((p : Part) → marks_fit p m ≡ true → get_or w 19 0 < 2 ^ p.width → get_or w' 19 0 < 2 ^ p.width → m' ≡ noted p resets (get_or w 19 0) (get_or w' 19 0) m)
      → marks_fit (part_of c) m ≡ true → m' ≡ marked_by (part_of c) (state_in (part_of c) w) e m
  taken_event h resets-are into fits =
      into (part_of c) fits (status_small c w k) (status_small c w' l.packed)
      ∙ ap (λ (r : Bool). noted (part_of c) r (get_or w 19 0) (get_or w' 19 0) m) resets-are
      ∙ by_outcome (part_of c) (state_in (part_of c) w) e.kind (whole_of e) m l.outcome false h

-- ---- all of them
module _ (c : ℕ) (w₀ : List ℕ) (m₀ : Marks) (bytes : List ℕ) (asked : ℕ) where
  abbrev over : (w : List ℕ) → Marks → List Sent → Marks
  over w m es = marks_over (part_of c) (state_in (part_of c) w) m es

  pub record Marking (w : List ℕ) (m : Marks) (i : ℕ) : Type 0 where
    pub fits : marks_fit (part_of c) m ≡ true
    pub rest : over w₀ m₀ (sent_of bytes 0 asked) ≡ over w m (sent_of bytes i (asked - i))

  pub begin : marks_fit (part_of c) m₀ ≡ true → Marking w₀ m₀ 0
  begin f = record { fits = f; rest = ap (λ (n : ℕ). over w₀ m₀ (sent_of bytes 0 n)) all }
    where
      all : asked ≡ asked - 0
      all = omega arith

  module _ (w : List ℕ) (m : Marks) (i : ℕ) (d : Marking w m i) where
    module _ (h : i < asked) {w' : List ℕ} {a : Answer} (l : Leaves c w' a (one (part_of c) (state_in (part_of c) w) (event_at bytes i)))
        {m' : Marks} (e : m' ≡ marked_by (part_of c) (state_in (part_of c) w) (event_at bytes i) m) where
      abbrev later : List Sent
      later = sent_of bytes (i + 1) (asked - (i + 1))

      -- by whether the event is refused
      by_event : (refused : Bool) → eqb (answer_kind a) 4 ≡ refused → over w₀ m₀ (sent_of bytes 0 asked) ≡ cond refused m (over w' m' later)
      unfolding marks_over
      by_event refused k =
          d.rest ∙ ap (over w m) (sent_first bytes i asked h)
          ∙ ap (λ (o : Outcome). cond (eqb (answer_kind o.answer) 4) m (marks_over (part_of c) o.after (marked_by (part_of c) (state_in (part_of c) w) (event_at bytes i) m) later)) (sym l.outcome)
          ∙ ap (λ (t : Bool). cond t m (marks_over (part_of c) (state_in (part_of c) w') (marked_by (part_of c) (state_in (part_of c) w) (event_at bytes i) m) later)) k
          ∙ ap (λ (x : Marks). cond refused m (marks_over (part_of c) (state_in (part_of c) w') x later)) (sym e)

      pub turn : eqb (answer_kind a) 4 ≡ false → Marking w' m' (i + 1)
      turn k = record { fits = ap (marks_fit (part_of c)) e ∙ fit_after (part_of c) (state_in (part_of c) w) _ _ m d.fits; rest = by_event false k }

      pub stop : eqb (answer_kind a) 4 ≡ true → m' ≡ over w₀ m₀ (sent_of bytes 0 asked)
      stop k =
          e ∙ sym (by_outcome (part_of c) (state_in (part_of c) w) (event_at bytes i).kind (whole_of (event_at bytes i)) m l.outcome true k) ∙ sym (by_event true k)

    pub finish : asked ≤ i → m ≡ over w₀ m₀ (sent_of bytes 0 asked)
    unfolding marks_over sent_of
    finish h = sym (d.rest ∙ ap (λ (n : ℕ). over w m (sent_of bytes i n)) none)
      where
        none : asked - i ≡ 0
        none = omega arith
