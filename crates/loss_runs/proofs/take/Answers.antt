-- `take`: the event, and by its answer what it sets (`refused_event`, `taken_event`). Assumes nothing.
use mathlib.Core.Path.{sym, ap, ◌∙◌}
use Prim.Native.Nat.{ℕ}
use Rattle.map.specs.Map.{part_of}
use Rattle.device_rules.specs.Refusals.{event_of}
use Rattle.words_state.specs.Packed.{state_in}
use Rattle.words_events.specs.Events.{event_at, whole_of}
use Rattle.loss_rules.specs.Marks.{is_reset}
use Rattle.loss_sets.specs.Sets.{marks_in}
use Rattle.loss_runs.proofs.Marking.{refused_event, taken_event}
use Rattle.loss_runs.proofs.take.Goals as goal

pub returns-then-is_refusal : goal.returns-then-is_refusal
returns-then-is_refusal c =
    let e = event_at c.args.events.now c.args.i in (
      c.take-answer.ensures,
      λ p k fits. refused_event p c.args.words.now (marks_in c.args.marks.now) k e (c.take-answer.ensures p k) (sym c.is_refusal.ensures ∙ c.if-is_refusal.true),
    )

pub returns : goal.returns
returns c =
    let w = c.args.words.now in
    let e = event_at c.args.events.now c.args.i in (
      c.take-answer.ensures,
      λ p k. taken_event p w (marks_in c.args.marks.now) k e (c.take-answer.ensures p k) (sym c.is_refusal.ensures ∙ c.if-is_refusal.false)
          (c.is_reset-resets.ensures (part_of p) (whole_of e) ∙ ap (λ (kind : ℕ). is_reset (state_in (part_of p) w) (event_of kind (whole_of e))) c.word_at-kind.ensures)
          c.note.ensures,
    )
