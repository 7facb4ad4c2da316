-- Both directions of the refusal, on the device: no list where a pin is stuck, whatever the rest of the state; a quiet one everywhere else. Assumes nothing.
use mathlib.Core.Path.{◌≡◌, sym, ap, ap₂, subst, ◌∙◌}
use mathlib.Core.Logic.{◌⊎◌, inl, inr, ⊎_elim}
use mathlib.Core.Bool.{true, false}
use mathlib.Core.List.{List}
use Prim.Native.Nat.{ℕ, ◌+◌, ◌-◌, ◌*◌, ◌/◌, ◌%◌, ◌<◌, min}
use native.Mathlib.Omega.{arith}
use lib.Arith.{digits_div, digits_mod}
use lib.ListN.{length}
use Rattle.map.specs.Map.{Part}
use Rattle.registers.specs.Registers.{Core}
use Rattle.planner_quiet.specs.Settings.{shape_of, Settings, drive_in, drive_of, Write, after}
use Rattle.planner_quiet.specs.Order.{Orderly, Sound, blocked}
use Rattle.planner_quiet.specs.Route.{plan_of}
use Rattle.planner_quiet.specs.Quiet.{QuietOn, Quiet, Listed, settings_of, after_first, drive_at, bits_at}
use Rattle.planner_quiet.proofs.Blocked.{no_list}
use Rattle.planner_quiet.proofs.Lift.{settles, ends, drive_of_lem, quiet_on}
use Rattle.planner_quiet.proofs.Plannable.{Plannable}
use Rattle.planner_quiet.proofs.Theorems.{orderly}

-- pin j of port k is one of the part's
in_part : (w k j : ℕ) → j < min 8 (w - 8 * k) → (k * 8 + j < w) × (j < 8)
in_part w k j h = (omega (arith, h), omega (arith, h))

module _ (p : Part) (ok : Plannable p) where
  -- on no device that stands at the start does any list of writes to the setting's registers do it
  pub none_on : (s : Core) (goal : Settings) → length s.file ≡ 128 → blocked (shape_of p) (settings_of p s) goal ≡ true → (ws : List Write) → Listed p ws → QuietOn p s goal ws → ⊥
  none_on s goal full stuck ws l q = no_list (shape_of p) (settings_of p s) goal ws stuck (sym (ends p ok s ws full l) ∙ q.reached) pin
    where
      at : ℕ → Settings
      at t = after (shape_of p) (settings_of p s) ws t

      pin : (k j : ℕ) → k < p.ports → j < min 8 (p.width - 8 * k) → (t : ℕ)
          → (drive_of (shape_of p) (at t) k j ≡ drive_of (shape_of p) (settings_of p s) k j) ⊎ (drive_of (shape_of p) (at t) k j ≡ drive_of (shape_of p) goal k j)
      pin k j hk hj t =
          let i = k * 8 + j in
          let small = in_part p.width k j hj in
          let port : i / 8 ≡ k = digits_div k small.1 in
          let bit : i % 8 ≡ j = digits_mod k small.1 in
          let here : (x : Settings) → drive_in (bits_at p x i) ≡ drive_of (shape_of p) x k j = λ x. ap₂ (λ (a b : ℕ). drive_of (shape_of p) x a b) port bit in
          let now : drive_at p (after_first p s ws t) i ≡ drive_of (shape_of p) (at t) k j =
          sym (drive_of_lem p ok (after_first p s ws t) i small.0) ∙ ap (λ (x : Settings). drive_in (bits_at p x i)) (settles p ok s ws full l t) ∙ here (at t) in
          ⊎_elim
          (λ e. inl (sym now ∙ e ∙ sym (drive_of_lem p ok s i small.0) ∙ here (settings_of p s)))
          (λ e. inr (sym now ∙ e ∙ here goal))
          ((q.still i small.0).either t)

  -- where no pin is stuck the plan is quiet, whatever the rest of the state
  pub plan_quiet : (start goal : Settings) → Sound (shape_of p) start → Sound (shape_of p) goal → blocked (shape_of p) start goal ≡ false → Quiet p start goal (plan_of (shape_of p) start goal)
  plan_quiet start goal ds dg free s formed e =
      quiet_on p ok s goal (plan_of (shape_of p) start goal) formed.full
      (subst (λ (x : Settings). Orderly (shape_of p) x goal (plan_of (shape_of p) start goal)) (sym e) (orderly (shape_of p) ok.regular start goal ds dg free).0)
