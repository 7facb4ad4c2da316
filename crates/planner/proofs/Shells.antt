-- What the planner answers, from what the functions below them promise. Assumes nothing.
use mathlib.Core.Path.{◌≡◌, refl, sym, ap, subst, ◌∙◌}
use mathlib.Core.Bool.{Bool, true, false, cond, ◌&&◌}
use mathlib.Core.List.{List, ◌++◌}
use Prim.Native.Nat.{ℕ, ◌*◌, ◌^◌, ◌≤◌, ◌<◌}
use native.Mathlib.Omega.{arith}
use borrow.Author.Tests.{ltb-true, ltb-false}
use lib.Dec.{ltb}
use lib.ListN.{get_or, length}
use Rattle.std.proofs.Common.{Result, Ok, Err}
use Rattle.bits.specs.Bits.{bit}
use Rattle.map.specs.Map.{Part, first_of}
use Rattle.map.specs.Map.Kind.{PortKind}
use Rattle.planner_quiet.specs.Settings.{Settings}
use Rattle.planner_quiet.specs.Order.{stuck}
use Rattle.planner_quiet.proofs.Plannable.{Plannable}
use Rattle.planner_promise.specs.Formed.{formed, room_for}
use Rattle.planner_promise.specs.Answer.{answer_of, Answers}
use Rattle.planner_promise.specs.Promise.{number_of, refusal_of, Promise}
use Rattle.planner_promise.specs.declared.Refusal.{Refusal}
use Rattle.planner_promise.specs.declared.Refusal.TheVariants.{NoQuietWay, BadSetting, BufferSmall}
use Rattle.planner_promise.proofs.Answering.{sound, bad_start, bad_goal, no_room, no_way, planned}
use Rattle.planner_promise.proofs.Promising.{promised}
use Rattle.planner_bytes.specs.Bytes.{pin_in}
use Rattle.planner_bytes.specs.declared.PinSets.{PinSets}
use Rattle.planner_pairs.specs.Pairs.{pair_of, Emitted}
use Rattle.planner_settings.specs.Loaded.{Loaded, early}
use Rattle.planner.specs.Halfway.{Halfway}
use Rattle.planner.specs.Pairwise.{opens_to, closes_to}
use Rattle.planner.proofs.Planted.{planted, stuck_some, stuck_none}

-- ---- the ways out
module _ (p : Part) (ok : Plannable p) (s g before : List ℕ) where
  -- an answer keeps the promise too
  abbrev pub Kept : (refusal count : ℕ) → (rest : List ℕ) → Type 0
  Kept refusal count rest = Answers refusal count before rest (answer_of p s g (length before)) × Promise p s g before rest refusal count

  kept : (refusal count : ℕ) (rest : List ℕ) → Answers refusal count before rest (answer_of p s g (length before)) → Kept refusal count rest
  kept refusal count rest x = (x, promised p ok s g before rest refusal count x)

  -- the tests of `early`
  abbrev tried : (a b c : Bool) → ℕ
  tried a b c = cond (a && b) (cond c 6 0) 5

  some_number : (d : Refusal) → number_of d ≡ 0 → ⊥
  some_number NoQuietWay z = omega (arith, z)
  some_number BadSetting z = omega (arith, z)
  some_number BufferSmall z = omega (arith, z)

  module _ {A : Type 0} {r : Result A Refusal} {most : ℕ} (room : most ≡ room_for p) (told : refusal_of r ≡ early p s g (length before) most) where
    pub early_refused : (d : Refusal) → r ≡ Err d → Kept (number_of d) 0 before
    early_refused d q = go (formed p s) (formed p g) (ltb (length before) (room_for p)) refl refl refl (sym (ap refusal_of q) ∙ told ∙ ap (early p s g (length before)) room)
      where
        under : {n : ℕ} → number_of d ≡ n → Answers n 0 before before (answer_of p s g (length before)) → Kept (number_of d) 0 before
        under {n} q x = subst (λ (m : ℕ). Kept m 0 before) (sym q) (kept n 0 before x)

        go : (a b c : Bool) → formed p s ≡ a → formed p g ≡ b → ltb (length before) (room_for p) ≡ c → number_of d ≡ tried a b c → Kept (number_of d) 0 before
        go false b c ha hb hc q = under q (bad_start p s g before ha)
        go true false c ha hb hc q = under q (bad_goal p s g before ha hb)
        go true true true ha hb hc q = under q (no_room p s g before ha hb (ltb-true (length before) (room_for p) hc))
        go true true false ha hb hc q = absurd (some_number d q)

    pub early_passed : (x : A) → r ≡ Ok x → (formed p s ≡ true) × (formed p g ≡ true) × (room_for p ≤ length before)
    early_passed x q = go (formed p s) (formed p g) (ltb (length before) (room_for p)) refl refl refl (sym (ap refusal_of q) ∙ told ∙ ap (early p s g (length before)) room)
      where
        go : (a b c : Bool) → formed p s ≡ a → formed p g ≡ b → ltb (length before) (room_for p) ≡ c → 0 ≡ tried a b c
            → (formed p s ≡ true) × (formed p g ≡ true) × (room_for p ≤ length before)
        go false b c ha hb hc q = absurd (omega (arith, q))
        go true false c ha hb hc q = absurd (omega (arith, q))
        go true true true ha hb hc q = absurd (omega (arith, q))
        go true true false ha hb hc q = (ha, hb, ltb-false (length before) (room_for p) hc)

  module _ (f : (formed p s ≡ true) × (formed p g ≡ true) × (room_for p ≤ length before)) (x y : PinSets) (lx : Loaded p s x) (ly : Loaded p g y)
      (r : ℕ) (fits : r < 2 ^ 64) (h : (i : ℕ) → bit r i ≡ stuck (pin_in x i) (pin_in y i)) where
    pub stuck_refused : (r ≡ 0 → ⊥) → Kept 4 0 before
    stuck_refused z =
        kept 4 0 before
        (no_way p s g before f.0 f.1 f.2 (stuck_some p ok s g (sound p s f.0) (sound p g f.1) x y lx ly r fits h z))

    pub laid_out : r ≡ 0 → (m : PinSets) → Halfway x y m → (n : ℕ) (rest : List ℕ)
        → Emitted (closes_to p m y (opens_to p x m p.ports ++ pair_of (first_of p PortKind) (get_or s (2 * p.ports) 0) (get_or g (2 * p.ports) 0)) p.ports) n before rest
        → Kept 0 n rest
    laid_out z m q n rest d =
        kept 0 n rest
        (planned p s g before f.0 f.1 f.2 (stuck_none p ok s g (sound p s f.0) (sound p g f.1) x y lx ly r fits h z) n rest
        (planted p ok s g (sound p s f.0) (sound p g f.1) x y m lx ly q n before rest d))

-- ---- the stuck pins alone
pub where_formed : (p : Part) (s g : Settings) {r : ℕ} (t : ℕ) → formed p s ≡ true → formed p g ≡ true → r ≡ t → r ≡ cond (formed p s && formed p g) t 0
where_formed p s g t hs hg e = e ∙ λ i. cond (sym hs i && sym hg i) t 0
