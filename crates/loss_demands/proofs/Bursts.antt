-- A burst with marks is as many steps with marks as it counts. Assumes nothing.
use mathlib.Core.Path.{◌≡◌, refl, sym, ap, ap₂, ◌∙◌}
use mathlib.Core.Bool.{Bool, true, false, cond}
use mathlib.Core.List.{List, [], ◌∷◌}
use Prim.Native.Nat.{ℕ, suc, ◌/◌, ◌%◌, ◌^◌}
use native.Mathlib.Nat.{div-add-mod'}
use native.Mathlib.Omega.{arith}
use lib.Dec.{eqb}
use lib.ListN.{take}
use Rattle.map.specs.Map.{Part}
use Rattle.device_rules.specs.Device.{State, Outcome, out}
use Rattle.device_rules.specs.Refusals.{event_of, stepped}
use Rattle.device_rules.specs.Answers.{answer_kind, refusal_number}
use Rattle.device_rules.specs.declared.Answer.TheVariants.{Refused}
use Rattle.device_demands.specs.Run.{Asked}
use Rattle.words_events.specs.Events.{sent, halved, whole_of}
use Rattle.words_runs.specs.Runs.{ended, onto, two_of, after_one, ran}
use Rattle.device_burst.specs.BurstRuns.{as_sent, sent_as}
use Rattle.device_burst.proofs.BurstRuns.{sent_steps}
use Rattle.loss_rules.specs.Marks.{Marks, marks_after, marks_fit, marked_step}
use Rattle.loss_rules.proofs.Laws.{fit_after}
use Rattle.loss_runs.specs.MarkedRuns.{marks_over}
use Rattle.loss_demands.specs.Watched.{Watched, watched, acted, after_all, acts_of}
use Rattle.loss_demands.specs.Watched.Act.{Event}

module _ (p : Part) where
  whole_sent : (e : Asked) → whole_of (as_sent p e) ≡ e.arg
  whole_sent e = go (halved p)
    where
      go : (t : Bool) → whole_of (cond t (sent e.kind (e.arg % 2 ^ 32) (e.arg / 2 ^ 32)) (sent e.kind e.arg 0)) ≡ e.arg
      go true = omega (arith, div-add-mod' e.arg (2 ^ 32))
      go false = omega arith

  kind_sent : (e : Asked) → (as_sent p e).kind ≡ e.kind
  kind_sent e = go (halved p)
    where
      go : (t : Bool) → (cond t (sent e.kind (e.arg % 2 ^ 32) (e.arg / 2 ^ 32)) (sent e.kind e.arg 0)).kind ≡ e.kind
      go true = refl
      go false = refl

  -- the marks of a burst's first event, and then of the rest
  abbrev marks_from : State → Marks → Asked → List Asked → Outcome → Marks
  marks_from s m e es o = cond (eqb (answer_kind o.answer) 4) m (marks_over p o.after (marks_after p s (event_of e.kind e.arg) o m) (sent_as p es))

  over_first : (s : State) (m : Marks) (e : Asked) (es : List Asked) → marks_over p s m (sent_as p (e ∷ es)) ≡ marks_from s m e es (stepped p s e.kind e.arg)
  unfolding marks_over sent_as
  over_first s m e es =
      ap (λ (o : Outcome). cond (eqb (answer_kind o.answer) 4) m (marks_over p o.after (marks_after p s (event_of (as_sent p e).kind (whole_of (as_sent p e))) o m) (sent_as p es))) (sent_steps p s e)
      ∙ ap₂ (λ (kind arg : ℕ). cond (eqb (answer_kind o.answer) 4) m (marks_over p o.after (marks_after p s (event_of kind arg) o m) (sent_as p es))) (kind_sent e) (whole_sent e)
    where
      o : Outcome
      o = stepped p s e.kind e.arg

  done_first : (s : State) (e : Asked) (es : List Asked) → (ran p s (sent_as p (e ∷ es))).done
      ≡ cond (eqb (answer_kind (stepped p s e.kind e.arg).answer) 4) 0 (suc (ran p (stepped p s e.kind e.arg).after (sent_as p es)).done)
  unfolding ran sent_as
  done_first s e es = ap (λ (o : Outcome). (after_one s o (λ s. ran p s (sent_as p es))).done) (sent_steps p s e) ∙ go (eqb (answer_kind o.answer) 4)
    where
      o : Outcome
      o = stepped p s e.kind e.arg

      go : (t : Bool) → (cond t (ended (refusal_number o.answer) s) (onto 1 (two_of o.answer) (ran p o.after (sent_as p es)))).done ≡ cond t 0 (suc (ran p o.after (sent_as p es)).done)
      go true = refl
      go false = omega arith

  -- one step with marks that fit
  one_step : (s : State) (m : Marks) → marks_fit p m ≡ true → (kind arg : ℕ)
      → acted p (watched s m) (Event kind arg) ≡ watched (stepped p s kind arg).after (marks_after p s (event_of kind arg) (stepped p s kind arg) m)
  unfolding acted marked_step
  one_step s m f kind arg =
      ap (λ (fits : Bool). watched (cond fits (stepped p s kind arg) (out (Refused 3) s)).after (marks_after p s (event_of kind arg) (cond fits (stepped p s kind arg) (out (Refused 3) s)) m)) f

  pub burst_steps : (es : List Asked) (s : State) (m : Marks) → marks_fit p m ≡ true
      → marks_over p s m (sent_as p es) ≡ (after_all p (watched s m) (acts_of (take (ran p s (sent_as p es)).done es))).marks
  unfolding marks_over sent_as ran after_all
  burst_steps [] s m f = refl
  burst_steps (e ∷ es) s m f =
      over_first s m e es ∙ go (eqb (answer_kind o.answer) 4) (burst_steps es o.after m' (fit_after p s (event_of e.kind e.arg) o m f)) ∙ ap (λ (n : ℕ). (after_all p (watched s m) (acts_of (take n (e ∷ es)))).marks) (sym (done_first s e es))
    where
      o : Outcome
      o = stepped p s e.kind e.arg

      m' : Marks
      m' = marks_after p s (event_of e.kind e.arg) o m

      n : ℕ
      n = (ran p o.after (sent_as p es)).done

      go : (t : Bool) → marks_over p o.after m' (sent_as p es) ≡ (after_all p (watched o.after m') (acts_of (take n es))).marks
          → cond t m (marks_over p o.after m' (sent_as p es)) ≡ (after_all p (watched s m) (acts_of (take (cond t 0 (suc n)) (e ∷ es)))).marks
      go true later = refl
      go false later =
          later
          ∙ ap (λ (x : Watched). (after_all p x (acts_of (take n es))).marks) (sym (one_step s m f e.kind e.arg))
