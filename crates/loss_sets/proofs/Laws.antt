-- Sets of a part's pins, by the code's tests: those that fit, and those that are made. Assumes nothing.
use mathlib.Core.Path.{◌≡◌, refl, sym, ap, ◌∙◌}
use mathlib.Core.Bool.{Bool, true, false, cond, ◌&&◌}
use mathlib.Core.List.{List, [], ◌∷◌}
use Prim.Native.Nat.{ℕ, zero, suc, ◌-◌, ◌^◌, ◌<◌, ◌≤◌}
use native.Mathlib.Omega.{arith}
use borrow.Author.Tests.{le-ltb, le-leb, lt-leb, ltb-true, ltb-false}
use lib.Dec.{ltb, leb}
use lib.Pow.{pow_pos}
use Rattle.bits.specs.Bits.{bit}
use Rattle.bits.proofs.Laws.{bit_ones, tabulated}
use Rattle.map.specs.Map.{Part, part_of}
use Rattle.loss_rules.specs.Marks.{Marks, marks, marks_fit, new_marks}
use Rattle.std.specs.Prelude.{Result, Ok, Err}
use Rattle.loss_sets.specs.Refused.{number_of, refused_by}
use Rattle.loss_sets.specs.declared.Refusal.{Refusal}
use Rattle.loss_sets.specs.declared.Refusal.TheVariants.{BadArgument, BrokenImage, NotHealthy}
use Rattle.loss_sets.specs.Sets.{MakesMarks}

-- ---- sets of the part's pins
module _ (p : Part) (pins : ℕ) (are : pins ≡ 2 ^ p.width - 1) where
  pub set_over : (m : Marks) → pins < m.set → false ≡ marks_fit p m
  unfolding marks_fit
  set_over m h = simp (le-ltb m.set (2 ^ p.width) (omega (arith, are, h, pow_pos p.width)))

  last : (n : ℕ) → leb n pins ≡ ltb n (2 ^ p.width)
  last n = go (ltb n (2 ^ p.width)) refl
    where
      go : (t : Bool) → ltb n (2 ^ p.width) ≡ t → leb n pins ≡ t
      go true h = le-leb n pins (omega (arith, are, ltb-true n (2 ^ p.width) h))
      go false h = lt-leb n pins (omega (arith, are, ltb-false n (2 ^ p.width) h, pow_pos p.width))

  pub by_healthy : (m : Marks) → m.set ≤ pins → leb m.healthy pins ≡ marks_fit p m
  unfolding marks_fit
  by_healthy m h = last m.healthy ∙ sym (ap (λ (t : Bool). t && ltb m.healthy (2 ^ p.width)) (sym (last m.set) ∙ le-leb m.set pins h))

  -- all set
  made : (healthy : ℕ) → marks pins healthy ≡ new_marks p healthy
  unfolding new_marks
  made healthy = ap (λ (n : ℕ). marks n healthy) (tabulated p.width (omega (arith, are, pow_pos p.width)) (λ i hi. ap (λ (n : ℕ). bit n i) are ∙ bit_ones p.width i hi))

-- ---- the parts
pub sister_wide : (part : ℕ) → (part ≡ 0 → ⊥) → (34 ≡ (part_of part).width) × (34 ≤ 63)
sister_wide zero h = absurd (h refl)
sister_wide (suc part) h = (refl, omega arith)

-- ---- making them
module _ (c pins healthy : ℕ) (are : pins ≡ 2 ^ (part_of c).width - 1) (m : List ℕ) where
  pub making_refused_lem : pins < healthy → MakesMarks c healthy 2 m m
  making_refused_lem h =
      let e : ltb healthy (2 ^ (part_of c).width) ≡ false = sym (last (part_of c) pins are healthy) ∙ lt-leb healthy pins h in
      record { number_is = ap (λ (t : Bool). cond {A = ℕ} t 0 2) (sym e); made = λ z. absurd (two z); refused = λ h. refl }
    where
      two : ◌≡◌ {A = ℕ} 2 0 → ⊥
      two e = omega (arith, e)

  pub making_taken : healthy ≤ pins → MakesMarks c healthy 0 m (pins ∷ healthy ∷ [])
  making_taken h =
      let e : ltb healthy (2 ^ (part_of c).width) ≡ true = sym (last (part_of c) pins are healthy) ∙ le-leb healthy pins h in
      record { number_is = ap (λ (t : Bool). cond {A = ℕ} t 0 2) (sym e); made = λ z. made (part_of c) pins are healthy; refused = λ h. absurd (h refl) }

-- every refusal has a number
pub numbered : (e : Refusal) → number_of e ≡ 0 → ⊥
numbered BadArgument h = omega arith
numbered BrokenImage h = omega arith
numbered NotHealthy h = omega arith

pub unrefused : {A : Type 0} (r : Result A Refusal) → ((e : Refusal) → r ≡ Err e → ⊥) → refused_by r ≡ 0
unrefused (Ok x) h = refl
unrefused (Err e) h = absurd (h e refl)
