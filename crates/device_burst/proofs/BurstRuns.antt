-- A burst is the run of its events up to the first refusal, and from power-on none is refused for the image. Assumes nothing.
use mathlib.Core.Path.{◌≡◌, refl, sym, ap, subst, ◌∙◌}
use mathlib.Core.Bool.{Bool, true, false, cond, ◌||◌}
use mathlib.Core.List.{List, [], ◌∷◌, ◌++◌}
use Prim.Native.Nat.{ℕ, suc, ◌+◌, ◌*◌, ◌/◌, ◌%◌, ◌^◌, ◌<◌}
use native.Mathlib.Nat.{div-add-mod'}
use native.Mathlib.Omega.{arith}
use lib.Dec.{eqb, leb}
use lib.ListN.{length, get_or, take}
use Rattle.bits.proofs.Decide.{either_arm}
use Rattle.map.specs.Map.{Part}
use Rattle.registers.proofs.Lawful.{Lawful}
use Rattle.device_rules.specs.Device.{State, Outcome}
use Rattle.device_rules.specs.Refusals.{stepped}
use Rattle.device_rules.specs.PowerOn.{power_on}
use Rattle.device_rules.specs.Answers.{answer_kind, refusal_number}
use Rattle.device_rules.specs.declared.Answer.{Answer}
use Rattle.device_rules.specs.declared.Answer.TheVariants.{Nothing}
use Rattle.device_demands.specs.Run.{Asked, after, answers}
use Rattle.device_demands.proofs.Keeps.{WellFormed, image_of, stepped_keeps, power_on_fits}
use Rattle.device_demands.proofs.Runs.{image_kept}
use Rattle.words_events.specs.Events.{Sent, sent, halved, whole_of, one}
use Rattle.words_runs.specs.Runs.{Ran, ended, onto, two_of, after_one, ran}
use Rattle.words_events.proofs.Doing.{or_true}
use Rattle.device_burst.specs.BurstRuns.{as_sent, sent_as, until_refused, twos_of, RunsAs}

-- ---- step by step
module _ (p : Part) where
  module _ (s : State) (e : Asked) (es : List Asked) (given : List Answer) where
    abbrev o : Outcome
    o = stepped p s e.kind e.arg

    refused_here : eqb (answer_kind o.answer) 4 ≡ true → RunsAs p s (e ∷ es) (o.answer ∷ given) (ended (refusal_number o.answer) s)
    unfolding until_refused twos_of after
    refused_here k = record { counted = ap length (sym none); told = ap twos_of (sym none); refused = refl; state = refl }
      where
        none : until_refused (o.answer ∷ given) ≡ []
        none = rw k

    answered_here : eqb (answer_kind o.answer) 4 ≡ false → (r : Ran) → RunsAs p o.after es given r
        → RunsAs p s (e ∷ es) (o.answer ∷ given) (onto 1 (two_of o.answer) r)
    unfolding until_refused twos_of after
    answered_here k r d = record {
      counted = more ∙ ap suc d.counted ∙ ap length (sym first);
      told = ap (λ (l : List ℕ). two_of o.answer ++ l) d.told ∙ ap twos_of (sym first);
      refused = d.refused ∙ ap (λ (n : ℕ). refusal_number (get_or (o.answer ∷ given) n Nothing)) (sym more);
      state = d.state ∙ ap (λ (n : ℕ). after p s (take n (e ∷ es))) (sym more);
    }
      where
        more : 1 + r.done ≡ suc r.done
        more = omega arith

        first : until_refused (o.answer ∷ given) ≡ o.answer ∷ until_refused given
        first = rw k

  -- an event as it is sent is the step of it
  pub sent_steps : (s : State) (e : Asked) → one p s (as_sent p e) ≡ stepped p s e.kind e.arg
  unfolding one
  sent_steps s e = go (halved p) refl
    where
      go : (t : Bool) → halved p ≡ t → one p s (cond t (sent e.kind (e.arg % 2 ^ 32) (e.arg / 2 ^ 32)) (sent e.kind e.arg 0)) ≡ stepped p s e.kind e.arg
      go true h =
          let whole : e.arg / 2 ^ 32 * 2 ^ 32 + e.arg % 2 ^ 32 ≡ e.arg = omega (arith, div-add-mod' e.arg (2 ^ 32)) in
          let wide : (eqb (e.arg / 2 ^ 32) 0 || halved p) ≡ true = ap (λ (t : Bool). eqb (e.arg / 2 ^ 32) 0 || t) h ∙ or_true (eqb (e.arg / 2 ^ 32) 0) in
          rw wide (ap (stepped p s e.kind) whole)
      go false h = let none : 0 * 2 ^ 32 + e.arg ≡ e.arg = omega arith in ap (stepped p s e.kind) none

  -- a burst is the run: step by step, up to the first refusal
  pub ran_steps : (s : State) (es : List Asked) → RunsAs p s es (answers p s es) (ran p s (sent_as p es))
  unfolding ran sent_as answers after until_refused twos_of
  ran_steps s [] = record { counted = refl; told = refl; refused = refl; state = refl }
  ran_steps s (e ∷ es) =
      subst (λ (o : Outcome). RunsAs p s (e ∷ es) (answers p s (e ∷ es)) (after_one s o (λ s. ran p s (sent_as p es)))) (sym (sent_steps s e))
      (go (eqb (answer_kind (stepped p s e.kind e.arg).answer) 4) refl (ran_steps (stepped p s e.kind e.arg).after es))
    where
      x : Outcome
      x = stepped p s e.kind e.arg

      go : (t : Bool) → eqb (answer_kind x.answer) 4 ≡ t → RunsAs p x.after es (answers p x.after es) (ran p x.after (sent_as p es))
          → RunsAs p s (e ∷ es) (x.answer ∷ answers p x.after es) (cond t (ended (refusal_number x.answer) s) (onto 1 (two_of x.answer) (ran p x.after (sent_as p es))))
      go true k d = refused_here s e es (answers p x.after es) k
      go false k d = answered_here s e es (answers p x.after es) k (ran p x.after (sent_as p es)) d

-- ---- from power-on
module _ (p : Part) (ok : Lawful p) where
  one_keeps : (s : State) → WellFormed p s → (e : Sent) → WellFormed p (one p s e).after
  unfolding one
  one_keeps s g e = either_arm (λ (o : Outcome). WellFormed p o.after) (eqb e.third 0 || halved p) (stepped_keeps p ok s g e.kind (whole_of e)) g

  one_unbroken : (s : State) → WellFormed p s → (e : Sent) → eqb (refusal_number (one p s e).answer) 3 ≡ false
  unfolding one
  one_unbroken s g e =
      either_arm (λ (o : Outcome). eqb (refusal_number o.answer) 3 ≡ false) (eqb e.third 0 || halved p) (image_kept p s g e.kind (whole_of e))
      (simp (image_of p s g.sound) (some (leb e.kind 5)))
    where
      some : (k : Bool) → eqb (cond k 2 1) 3 ≡ false
      some true = refl
      some false = refl

  ran_unbroken : (s : State) → WellFormed p s → (es : List Sent) → eqb (ran p s es).number 3 ≡ false
  unfolding ran
  ran_unbroken s g [] = refl
  ran_unbroken s g (e ∷ es) =
      either_arm (λ (r : Ran). eqb r.number 3 ≡ false) (eqb (answer_kind (one p s e).answer) 4) (one_unbroken s g e) (ran_unbroken (one p s e).after (one_keeps s g e) es)

  -- no burst from power-on is refused with 3
  pub never_3 : (choice levels id : ℕ) → choice < 4 → levels < 2 ^ p.width → id < 2 ^ 24 → (es : List Sent) → eqb (ran p (power_on p choice levels id) es).number 3 ≡ false
  never_3 choice levels id hc hl hi = ran_unbroken (power_on p choice levels id) (power_on_fits p ok choice levels id hc hl hi)
