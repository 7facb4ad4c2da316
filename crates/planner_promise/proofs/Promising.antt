-- The answer keeps the promise. Assumes nothing.
use mathlib.Core.Path.{◌≡◌, refl, sym, ap, subst, ◌∙◌}
use mathlib.Core.Bool.{Bool, true, false, ◌&&◌}
use mathlib.Core.List.{List, ◌++◌}
use mathlib.Core.Logic.{inl, inr}
use Prim.Native.Nat.{ℕ, ◌*◌, ◌<◌, ◌≤◌}
use native.Mathlib.Omega.{arith}
use borrow.Author.Tests.{ltb-true, ltb-false}
use lib.Dec.{ltb}
use lib.ListN.{length, drop}
use Rattle.bits.proofs.Decide.{clash}
use Rattle.map.specs.Map.{Part}
use Rattle.planner_quiet.specs.Settings.{shape_of, Settings, Write}
use Rattle.planner_quiet.specs.Order.{Good, Orderly, blocked}
use Rattle.planner_quiet.specs.Route.{plan_of}
use Rattle.planner_quiet.specs.Quiet.{Quiet, Listed}
use Rattle.planner_quiet.proofs.Theorems.{orderly, unmoved}
use Rattle.planner_quiet.proofs.Lift.{listed_of, others_stay, all_change}
use Rattle.planner_quiet.proofs.Exactly.{none_on, plan_quiet}
use Rattle.planner_quiet.proofs.Plannable.{Plannable}
use Rattle.planner_quiet.proofs.Standing.{stands}
use Rattle.planner_promise.specs.Formed.{formed, bound, room_for}
use Rattle.planner_promise.specs.Answer.{answer_of, Answers}
use Rattle.planner_promise.specs.Promise.{bytes_of, Given, NoneOn, Promise}
use Rattle.planner_promise.proofs.Answering.{sound, chain}

module _ (p : Part) (ok : Plannable p) (s g before rest : List ℕ) (refusal count : ℕ) where
  -- malformed
  wrong : (formed p s && formed p g) ≡ false → (refusal ≡ 5) × (count ≡ 0) × (rest ≡ before) → Promise p s g before rest refusal count
  wrong h a = record {
    five = λ e. (a.0, a.2);
    six = λ e. clash (formed p s && formed p g) e h;
    four = λ e. clash (formed p s && formed p g) e h;
    given = λ e. clash (formed p s && formed p g) e h;
    none_else = λ e. clash (formed p s && formed p g) e h;
  }

  module _ (ha : formed p s ≡ true) (hb : formed p g ≡ true) where
    fine : (formed p s && formed p g) ≡ true
    fine = ap (λ (x : Bool). x && formed p g) ha ∙ hb

    small : length before < room_for p → (refusal ≡ 6) × (count ≡ 0) × (rest ≡ before) → Promise p s g before rest refusal count
    small h a = record {
      five = λ e. clash (formed p s && formed p g) fine e;
      six = λ e l. (a.0, a.2);
      four = λ e l. absurd (omega (arith, h, l));
      given = λ e l. absurd (omega (arith, h, l));
      none_else = λ e l. absurd (omega (arith, h, l));
    }

    module _ (room : room_for p ≤ length before) where
      blocked_way : blocked (shape_of p) s g ≡ true → (refusal ≡ 4) × (count ≡ 0) × (rest ≡ before) → Promise p s g before rest refusal count
      blocked_way d a = record {
        five = λ e. clash (formed p s && formed p g) fine e;
        six = λ e l. absurd (omega (arith, room, l));
        four = λ e l none. (a.0, a.2, on_none);
        given = λ e l ws listed q. absurd (witness ws listed q);
        none_else = λ e l. inl (a.0, a.2, on_none);
      }
        where
          on_none : NoneOn p s g
          on_none x f e ws l q = none_on p ok x g f.full (ap (λ (z : Settings). blocked (shape_of p) z g) e ∙ d) ws l q

          witness : (ws : List Write) → Listed p ws → Quiet p s g ws → ⊥
          witness ws l q = let x = stands p ok s (sound p s ha) in on_none x.0 x.1 x.2 ws l (q x.0 x.1 x.2)

      free_way : blocked (shape_of p) s g ≡ false → (refusal ≡ 0) × (count ≡ length (plan_of (shape_of p) s g)) × (rest ≡ bytes_of (plan_of (shape_of p) s g) ++ drop (2 * length (plan_of (shape_of p) s g)) before)
          → Promise p s g before rest refusal count
      free_way d a = record {
        five = λ e. clash (formed p s && formed p g) fine e;
        six = λ e l. absurd (omega (arith, room, l));
        four = λ e l none. absurd (none (plan_of (shape_of p) s g) listed quiet);
        given = λ e l ws u q. plan;
        none_else = λ e l. inr plan;
      }
        where
          order : Orderly (shape_of p) s g (plan_of (shape_of p) s g) × (length (plan_of (shape_of p) s g) ≤ bound p)
          order = orderly (shape_of p) ok.regular s g (sound p s ha) (sound p g hb) d

          listed : Listed p (plan_of (shape_of p) s g)
          listed = listed_of p ok (plan_of (shape_of p) s g) (λ i h. ((order.0.good i h).known, (order.0.good i h).byte))

          quiet : Quiet p s g (plan_of (shape_of p) s g)
          quiet = plan_quiet p ok s g (sound p s ha) (sound p g hb) d

          plan : Given p s g before rest refusal count
          plan = record {
            list = plan_of (shape_of p) s g;
            taken = a.0;
            counted = a.1;
            few = order.1;
            listed = listed;
            quiet = quiet;
            changes = λ x f e. all_change p ok x (plan_of (shape_of p) s g) f.full listed
                (λ t h. subst (λ (z : Settings). Good (shape_of p) z (plan_of (shape_of p) s g) t) (sym e) (order.0.good t h));
            spares = λ x f e. others_stay p ok x (plan_of (shape_of p) s g) f.full listed;
            bytes = a.2;
            idle = λ e. ap (λ (z : Settings). plan_of (shape_of p) s z) (sym e) ∙ unmoved (shape_of p) ok.regular s (sound p s ha);
          }

  go : (a b c d : Bool) → formed p s ≡ a → formed p g ≡ b → ltb (length before) (room_for p) ≡ c → blocked (shape_of p) s g ≡ d
      → Answers refusal count before rest (chain p s g a b c d) → Promise p s g before rest refusal count
  go false b c d ha hb hc hd h = wrong (ap (λ (x : Bool). x && formed p g) ha) h
  go true false c d ha hb hc hd h = wrong (ap (λ (x : Bool). x && formed p g) ha ∙ hb) h
  go true true true d ha hb hc hd h = small ha hb (ltb-true (length before) (room_for p) hc) h
  go true true false true ha hb hc hd h = blocked_way ha hb (ltb-false (length before) (room_for p) hc) hd h
  go true true false false ha hb hc hd h = free_way ha hb (ltb-false (length before) (room_for p) hc) hd h

  pub promised : Answers refusal count before rest (answer_of p s g (length before)) → Promise p s g before rest refusal count
  unfolding answer_of
  promised = go (formed p s) (formed p g) (ltb (length before) (room_for p)) (blocked (shape_of p) s g) refl refl refl refl
