-- The device is the same with marks or without. Assumes nothing.
use mathlib.Core.Path.{◌≡◌, refl, ap, ap₂, ◌∙◌}
use mathlib.Core.Bool.{Bool, true, cond}
use mathlib.Core.List.{List, [], ◌∷◌}
use Prim.Native.Nat.{ℕ, ◌^◌, ◌<◌}
use Rattle.map.specs.Map.{Part}
use Rattle.device_rules.specs.Device.{State, Outcome, out}
use Rattle.device_rules.specs.Refusals.{event_of, stepped}
use Rattle.device_rules.specs.PowerOn.{power_on}
use Rattle.device_rules.specs.declared.Answer.{Answer}
use Rattle.device_rules.specs.declared.Answer.TheVariants.{Refused}
use Rattle.device_demands.specs.Run.{after, answers}
use Rattle.loss_rules.specs.Marks.{Marks, marks_fit, marked_step}
use Rattle.loss_rules.proofs.Laws.{fit_after, fit_signed, fit_new}
use Rattle.loss_demands.specs.Watched.{Act, Watched, powered_on, acted, after_all, events_of, answers_to}
use Rattle.loss_demands.specs.Watched.Act.{Event, SignOff}

module _ (p : Part) where
  -- one event, of any device, with marks that fit
  pub same_step : (s : State) (m : Marks) → marks_fit p m ≡ true → (kind arg : ℕ)
      → out (marked_step p s m kind arg).answer (marked_step p s m kind arg).after ≡ stepped p s kind arg
  unfolding marked_step
  same_step s m f kind arg = ap (λ (fits : Bool). cond fits (stepped p s kind arg) (out (Refused 3) s)) f

  acted_fits : (x : Watched) (a : Act) → marks_fit p x.marks ≡ true → marks_fit p (acted p x a).marks ≡ true
  unfolding acted marked_step
  acted_fits x (Event kind arg) f = fit_after p x.device (event_of kind arg) _ x.marks f
  acted_fits x (SignOff pin) f = fit_signed p x.device x.marks pin f

  event_on : (x : Watched) (kind arg : ℕ) → (acted p x (Event kind arg)).device ≡ (marked_step p x.device x.marks kind arg).after
  unfolding acted
  event_on x kind arg = refl

  sign_off_on : (x : Watched) (pin : ℕ) → (acted p x (SignOff pin)).device ≡ x.device
  unfolding acted
  sign_off_on x pin = refl

  pub all_fit : (acts : List Act) (x : Watched) → marks_fit p x.marks ≡ true → marks_fit p (after_all p x acts).marks ≡ true
  unfolding after_all
  all_fit [] x f = f
  all_fit (a ∷ acts) x f = all_fit acts (acted p x a) (acted_fits x a f)

  -- any run, from any device
  same_run : (x : Watched) → marks_fit p x.marks ≡ true → (acts : List Act)
      → ((after_all p x acts).device ≡ after p x.device (events_of acts)) × (answers_to p x acts ≡ answers p x.device (events_of acts))
  unfolding after_all events_of answers_to after answers
  same_run x f [] = (refl, refl)
  same_run x f (Event kind arg ∷ acts) =
      let o = same_step x.device x.marks f kind arg in
      let here : (acted p x (Event kind arg)).device ≡ (stepped p x.device kind arg).after = event_on x kind arg ∙ ap (λ (o : Outcome). o.after) o in
      let rest = same_run (acted p x (Event kind arg)) (acted_fits x (Event kind arg) f) acts in (
        rest.0 ∙ ap (λ (s : State). after p s (events_of acts)) here,
        ap₂ (λ (a : Answer) (rest : List Answer). a ∷ rest) (ap (λ (o : Outcome). o.answer) o) (rest.1 ∙ ap (λ (s : State). answers p s (events_of acts)) here),
      )
  same_run x f (SignOff pin ∷ acts) =
      let here = sign_off_on x pin in
      let rest = same_run (acted p x (SignOff pin)) (acted_fits x (SignOff pin) f) acts in
      (rest.0 ∙ ap (λ (s : State). after p s (events_of acts)) here, rest.1 ∙ ap (λ (s : State). answers p s (events_of acts)) here)

  -- from power-on, over any list of events and sign-offs: states and answers are those of the events alone
  pub same_device : (choice levels id healthy : ℕ) → healthy < 2 ^ p.width → (acts : List Act)
      → ((after_all p (powered_on p choice levels id healthy) acts).device ≡ after p (power_on p choice levels id) (events_of acts))
      × (answers_to p (powered_on p choice levels id healthy) acts ≡ answers p (power_on p choice levels id) (events_of acts))
  same_device choice levels id healthy h acts = same_run (powered_on p choice levels id healthy) (fit_new p healthy h) acts
