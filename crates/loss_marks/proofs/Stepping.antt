-- A step with marks on words: refused by the marks, refused by the device, or taken. Assumes nothing.
use mathlib.Core.Path.{◌≡◌, refl, sym, ap, ◌∙◌}
use mathlib.Core.Bool.{Bool, true, false, cond}
use mathlib.Core.List.{List}
use Prim.Native.Nat.{ℕ, ◌^◌, ◌<◌}
use lib.Dec.{eqb}
use lib.ListN.{get_or}
use Rattle.bits.proofs.Decide.{clash}
use Rattle.bits.proofs.Laws.{tabulate_lt}
use Rattle.map.specs.Map.{Part, part_of}
use Rattle.registers.specs.Interrupt.{Interrupt, worked_out}
use Rattle.device_rules.specs.Device.{State, Outcome, out}
use Rattle.device_rules.specs.Refusals.{event_of, stepped}
use Rattle.device_rules.specs.Answers.{answer_kind}
use Rattle.device_rules.specs.declared.Answer.{Answer}
use Rattle.device_rules.specs.declared.Answer.TheVariants.{Refused}
use Rattle.words_state.specs.Packed.{state_in, Packed, Steps}
use Rattle.loss_rules.specs.Marks.{Marks, is_reset, noted, marks_after, marks_fit, marked_step}
use Rattle.loss_sets.specs.Sets.{marks_in}
use Rattle.loss_marks.specs.Lent.{MarkedSteps}

-- the status set is one of the part's pins
pub status_small : (c : ℕ) (w : List ℕ) → Packed c w → get_or w 19 0 < 2 ^ (part_of c).width
unfolding worked_out
status_small c w k = rw (ap (λ (i : Interrupt). i.status) k.right) (tabulate_lt (part_of c).width _)

-- what an event leaves of marks, by its outcome
pub by_outcome : (p : Part) (s : State) (kind arg : ℕ) (m : Marks) {o : Outcome} {a : Answer} {s' : State} → out a s' ≡ o → (refused : Bool) → eqb (answer_kind a) 4 ≡ refused
    → cond refused m (noted p (is_reset s (event_of kind arg)) s.interrupt.status s'.interrupt.status m) ≡ marks_after p s (event_of kind arg) o m
unfolding marks_after
by_outcome p s kind arg m {o} {a} {s'} e refused h =
    ap (λ (t : Bool). cond t m (noted p (is_reset s (event_of kind arg)) s.interrupt.status s'.interrupt.status m)) (sym h)
    ∙ ap (λ (o : Outcome). marks_after p s (event_of kind arg) o m) e

module _ (c : ℕ) (w m : List ℕ) (kind arg : ℕ) where
  abbrev p : Part
  p = part_of c

  abbrev s : State
  s = state_in p w

  pub unfit : false ≡ marks_fit p (marks_in m) → MarkedSteps c w w m m kind arg (Refused 3)
  unfolding marked_step marks_after
  unfit e = record {
    same = λ h. clash _ h (sym e);
    marks_are = λ k. ap (λ (fits : Bool). marks_after p s (event_of kind arg) (cond fits (stepped p s kind arg) (out (Refused 3) s)) (marks_in m)) e;
    unfit = λ h. refl;
    refused = λ n h. (refl, refl);
  }

  module _ (fits : true ≡ marks_fit p (marks_in m)) {w' : List ℕ} {a : Answer} (t : Steps c w w' kind arg a) where
    -- the marks of the rules are those of the device's own outcome
    of_outcome : marks_after p s (event_of kind arg) (stepped p s kind arg) (marks_in m) ≡ (marked_step p s (marks_in m) kind arg).marks
    unfolding marked_step
    of_outcome = ap (λ (fits : Bool). marks_after p s (event_of kind arg) (cond fits (stepped p s kind arg) (out (Refused 3) s)) (marks_in m)) fits

    pub refused : eqb (answer_kind a) 4 ≡ true → MarkedSteps c w w' m m kind arg a
    refused e = record {
      same = λ h. t;
      marks_are = λ k. by_outcome p s kind arg (marks_in m) (t.taken k).outcome true e ∙ of_outcome;
      unfit = λ h. clash _ (sym fits) h;
      refused = λ n h. (t.refused n h, refl);
    }

    pub taken : eqb (answer_kind a) 4 ≡ false → {resets : Bool} → resets ≡ is_reset s (event_of kind arg) → {m' : List ℕ}
        → ((p : Part) → marks_fit p (marks_in m) ≡ true → get_or w 19 0 < 2 ^ p.width → get_or w' 19 0 < 2 ^ p.width
        → marks_in m' ≡ noted p resets (get_or w 19 0) (get_or w' 19 0) (marks_in m))
        → MarkedSteps c w w' m m' kind arg a
    taken e resets-are into = record {
      same = λ h. t;
      marks_are = λ k. into p (sym fits) (status_small c w k) (status_small c w' (t.taken k).packed)
          ∙ ap (λ (r : Bool). noted p r (get_or w 19 0) (get_or w' 19 0) (marks_in m)) resets-are
          ∙ by_outcome p s kind arg (marks_in m) (t.taken k).outcome false e ∙ of_outcome;
      unfit = λ h. clash _ (sym fits) h;
      refused = λ n h. clash _ (ap (λ (a : Answer). eqb (answer_kind a) 4) h) e;
    }
