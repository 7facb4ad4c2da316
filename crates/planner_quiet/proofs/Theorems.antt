-- The plan of a regular shape is quiet where no pin is stuck, and empty where start and goal are one. Assumes nothing.
use mathlib.Core.Path.{◌≡◌, sym, ap, subst, ◌∙◌}
use mathlib.Core.Bool.{false, ◌&&◌}
use mathlib.Core.List.{[]}
use Prim.Native.Nat.{ℕ, ◌+◌, ◌*◌, ◌≤◌, ◌<◌}
use native.Mathlib.Nat.{mod-eq_of_lt}
use native.Mathlib.Omega.{arith}
use lib.ListN.{get_or, length}
use lib.Pow.{pow_mono}
use Rattle.bits.proofs.Laws.{tabulate_lt, tabulated}
use Rattle.planner_quiet.specs.Settings.{Shape, Settings, bits_of, drive_of, place_of, stored}
use Rattle.planner_quiet.specs.Order.{Sound, Orderly, blocked}
use Rattle.planner_quiet.specs.Route.{mid_outputs, mid_configurations, write_at, route, plan_of}
use Rattle.planner_quiet.proofs.Along.{place_nth, Regular}
use Rattle.planner_quiet.proofs.Blocked.{some_false}
use Rattle.planner_quiet.proofs.Calm.{still, calmly}
use Rattle.planner_quiet.proofs.Needed.{SaneWrite, IdleWrite, run_needed, length_needed, good_needed, none_needed}
use Rattle.planner_quiet.proofs.Pin.{same_config, same_output}
use Rattle.planner_quiet.proofs.Quietly.{calm_along, reaches, all_route, route_length}

module _ (p : Shape) (ok : Regular p) where
  pub bytes : (s : Settings) → Sound p s → (i : ℕ) → i < length p.registers → get_or s i 0 < 256
  bytes s d i h = omega (arith, d.fits i h, pow_mono (ok.byte i h))

  at : (i : ℕ) → i < length p.registers → place_of p (write_at p i 0) ≡ i
  at i h = place_nth p.registers i ok.distinct h

  module _ (start goal : Settings) (ds : Sound p start) (dg : Sound p goal) where
    -- ---- not blocked: the plan is quiet, and has at most five writes a port and one
    pub orderly : blocked p start goal ≡ false → Orderly p start goal (plan_of p start goal) × (length (plan_of p start goal) ≤ 5 * p.ports + 1)
    unfolding plan_of
    orderly free = (
      record {
        reached = run_needed p start (route p start goal) ∙ reaches p ok start goal ds dg;
        good = good_needed p start (route p start goal) (all_route p ok (SaneWrite p) start goal
            (λ k h. (known k (omega (arith, ok.count, h)), tabulate_lt 8 _))
            (λ k h. (known (p.ports + k) (omega (arith, ok.count, h)), tabulate_lt 8 _))
            (λ i h. (known i h, bytes goal dg i h)));
        calm = λ k j hk hj. (let x = drive_of p start k j in let y = drive_of p goal k j in let keep = (bits_of p start k j).configuration && (bits_of p goal k j).configuration in
            calmly p k j start goal (plan_of p start goal)
            (still p k j x y keep false start (route p start goal)
            (calm_along p ok start goal ds dg k j hk (omega (arith, hj, ok.narrow k)) (some_false (p.width k) _ (some_false p.ports _ free k hk) j hj))));
      },
      omega (arith, length_needed p start (route p start goal), route_length p ok start goal),
    )
      where
        known : (i : ℕ) → i < length p.registers → place_of p (write_at p i 0) < length p.registers
        known i h = subst (λ (n : ℕ). n < length p.registers) (sym (at i h)) h

  -- ---- start and goal equal: no writes
  pub unmoved : (s : Settings) → Sound p s → plan_of p s s ≡ []
  unfolding plan_of
  unmoved s d =
      none_needed p s (route p s s) (all_route p ok (IdleWrite p s) s s
      (λ k h. idle k (mid_outputs p s s k) (omega (arith, ok.count, h)) (sym (tabulated 8 (bytes s d k (omega (arith, ok.count, h))) (λ j q. sym (same_output _ _ _ _)))))
      (λ k h. idle (p.ports + k) (mid_configurations p s s k) (omega (arith, ok.count, h)) (sym (tabulated 8 (bytes s d (p.ports + k) (omega (arith, ok.count, h))) (λ j q. sym (same_config _ _ _ _)))))
      (λ i h. idle i (get_or s i 0) h (λ t. get_or s i 0)))
    where
      idle : (i v : ℕ) → i < length p.registers → v ≡ get_or s i 0 → stored p (place_of p (write_at p i v)) v ≡ get_or s (place_of p (write_at p i v)) 0
      idle i v h e =
          ap (λ (q : ℕ). stored p q v) (at i h) ∙ ap (stored p i) e ∙ mod-eq_of_lt (d.fits i h) ∙ ap (λ (q : ℕ). get_or s q 0) (sym (at i h))
