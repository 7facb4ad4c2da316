-- The answer, case by case. Assumes nothing.
use mathlib.Core.Path.{◌≡◌, refl, sym, subst}
use mathlib.Core.Bool.{Bool, true, false, cond, ◌&&◌}
use mathlib.Core.List.{List}
use Prim.Native.Nat.{ℕ, zero, suc, ◌+◌, ◌^◌, ◌<◌, ◌≤◌}
use native.Mathlib.Omega.{arith}
use borrow.Author.Tests.{eqb-true, ltb-true, lt-ltb, le-ltb}
use lib.Dec.{eqb, ltb}
use lib.ListN.{length, get_or}
use Rattle.map.specs.Map.{Part}
use Rattle.planner_quiet.specs.Settings.{registers_of, shape_of, Settings}
use Rattle.planner_quiet.specs.Order.{Sound, blocked}
use Rattle.planner_quiet.specs.Route.{plan_of}
use Rattle.planner_promise.specs.Formed.{fit_from, formed, room_for}
use Rattle.planner_promise.specs.Answer.{Answer, refuse, give, answer_of, Answers, Planted}
use Rattle.planner_quiet.proofs.Blocked.{both}

-- every byte of a well-formed setting fits
fit_at : (p : Part) (s : Settings) (n a j : ℕ) → fit_from p s a n ≡ true → j < n → get_or s (a + j) 0 < 2 ^ (shape_of p).room (a + j)
fit_at p s zero a j e h = absurd (omega (arith, h))
fit_at p s (suc n) a zero e h =
    subst (λ (i : ℕ). get_or s i 0 < 2 ^ (shape_of p).room i) (omega arith)
    (ltb-true (get_or s a 0) (2 ^ (shape_of p).room a) (both (ltb (get_or s a 0) (2 ^ (shape_of p).room a)) (fit_from p s (suc a) n) e).0)
fit_at p s (suc n) a (suc j) e h =
    subst (λ (i : ℕ). get_or s i 0 < 2 ^ (shape_of p).room i) (omega arith)
    (fit_at p s n (suc a) j (both (ltb (get_or s a 0) (2 ^ (shape_of p).room a)) (fit_from p s (suc a) n) e).1 (omega (arith, h)))

pub sound : (p : Part) (s : Settings) → formed p s ≡ true → Sound (shape_of p) s
sound p s e =
    let n = length (registers_of p) in
    let t = both (eqb (length s) n) (fit_from p s 0 n) e in
    record {
      whole = eqb-true (length s) n t.0;
      fits = λ i h. subst (λ (i : ℕ). get_or s i 0 < 2 ^ (shape_of p).room i) (omega arith) (fit_at p s n 0 i t.1 h);
    }

-- the chain of tests
abbrev pub chain : Part → (s g : Settings) → (a b c d : Bool) → Answer
chain p s g a b c d = cond (a && b) (cond c (refuse 6) (cond d (refuse 4) (give (plan_of (shape_of p) s g)))) (refuse 5)

module _ (p : Part) (s g : Settings) (before : List ℕ) where
  to : (a b c d : Bool) → formed p s ≡ a → formed p g ≡ b → ltb (length before) (room_for p) ≡ c → blocked (shape_of p) s g ≡ d
      → answer_of p s g (length before) ≡ chain p s g a b c d
  unfolding answer_of
  to a b c d ha hb hc hd = λ i. chain p s g (ha i) (hb i) (hc i) (hd i)

  refused : (n : ℕ) → answer_of p s g (length before) ≡ refuse n → Answers n 0 before before (answer_of p s g (length before))
  refused n e = subst (Answers n 0 before before) (sym e) (refl, refl, refl)

  pub bad_start : formed p s ≡ false → Answers 5 0 before before (answer_of p s g (length before))
  bad_start h = refused 5 (to false _ _ _ h refl refl refl)

  pub bad_goal : formed p s ≡ true → formed p g ≡ false → Answers 5 0 before before (answer_of p s g (length before))
  bad_goal ha hb = refused 5 (to true false _ _ ha hb refl refl)

  module _ (ha : formed p s ≡ true) (hb : formed p g ≡ true) where
    pub no_room : length before < room_for p → Answers 6 0 before before (answer_of p s g (length before))
    no_room h = refused 6 (to true true true _ ha hb (lt-ltb (length before) (room_for p) h) refl)

    pub no_way : room_for p ≤ length before → blocked (shape_of p) s g ≡ true → Answers 4 0 before before (answer_of p s g (length before))
    no_way h e = refused 4 (to true true false true ha hb (le-ltb (length before) (room_for p) h) e)

    pub planned : room_for p ≤ length before → blocked (shape_of p) s g ≡ false → (n : ℕ) (after : List ℕ) → Planted p s g n before after
        → Answers 0 n before after (answer_of p s g (length before))
    planned h e n after d =
        subst (Answers 0 n before after) (sym (to true true false false ha hb (le-ltb (length before) (room_for p) h) e)) (refl, d.count, d.bytes)
