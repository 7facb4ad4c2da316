-- Digits of m bits: joined to a number, taken out of one, and put at their place. Assumes nothing.
use mathlib.Core.Path.{◌≡◌, refl, sym, ap, ◌∙◌}
use mathlib.Core.Bool.{Bool, true, false, ◌&&◌}
use Prim.Native.Nat.{ℕ, zero, suc, ◌+◌, ◌-◌, ◌*◌, ◌/◌, ◌%◌, ◌^◌, ◌≤◌, ◌<◌}
use native.Mathlib.Nat.{div-add-mod', mod-lt, div-lt_iff_lt-mul, le-div_iff_mul-le, suc-mul, zero-mul}
use native.Mathlib.Omega.{arith}
use borrow.Author.Tests.{eqb-true, eqb-false, ltb-true, ltb-false}
use lib.Arith.{digits_lt}
use lib.Bits.{bit_and, and_mask}
use lib.Dec.{eqb, ltb}
use lib.Pow.{pow_pos, pow-add, shl_exact}
use Rattle.bits.specs.Bits.{bit, tabulate, join}
use Rattle.bits.proofs.Laws.{bit_low, bit_top, bit_shr, bit_shl, bit_shl_low, bit_high, bit_mod, tabulated}

module _ (m : ℕ) where
  -- bit j of digit k
  pub bit_join : (n : ℕ) (d : ℕ → ℕ) → ((k : ℕ) → k < n → d k < 2 ^ m) → (k j : ℕ) → k < n → j < m
      → bit (join m n d) (k * m + j) ≡ bit (d k) j
  bit_join zero d small k j hk hj = absurd (omega arith)
  bit_join (suc n) d small zero j hk hj =
      ap (bit (join m n (λ k. d (suc k)) * 2 ^ m + d zero)) (omega arith)
      ∙ bit_low m (join m n (λ k. d (suc k))) j (small zero (omega arith)) hj
  bit_join (suc n) d small (suc k) j hk hj =
      ap (bit (join m n (λ k. d (suc k)) * 2 ^ m + d zero)) (omega arith)
      ∙ bit_top m (join m n (λ k. d (suc k))) (k * m + j) (small zero (omega arith))
      ∙ bit_join n (λ k. d (suc k)) (λ k h. small (suc k) (omega arith)) k j (omega arith) hj

  pub join_lt : (n : ℕ) (d : ℕ → ℕ) → ((k : ℕ) → k < n → d k < 2 ^ m) → join m n d < 2 ^ (n * m)
  join_lt zero d small = rw zero-mul (omega arith)
  join_lt (suc n) d small = rw (suc-mul, pow-add) (digits_lt (join_lt n (λ k. d (suc k)) (λ k h. small (suc k) (omega arith))) (small zero (omega arith)))

  -- the same, at bit i
  pub joined : zero < m → (n : ℕ) (d : ℕ → ℕ) → ((k : ℕ) → k < n → d k < 2 ^ m)
      → join m n d ≡ tabulate (n * m) (λ i. bit (d (i / m)) (i % m))
  joined hm n d small =
      tabulated (n * m) (join_lt n d small)
      (λ i h. ap (bit (join m n d)) (sym (div-add-mod' i m)) ∙ bit_join n d small (i / m) (i % m) ((div-lt_iff_lt-mul hm).1 h) (mod-lt i hm))

-- `(x >> k) & ones`: the m bits of x from bit k
pub digit_of_lem : (m x k : ℕ) → bit_and (x / 2 ^ k) (2 ^ m - 1) ≡ tabulate m (λ j. bit x (k + j))
digit_of_lem m x k =
    and_mask (x / 2 ^ k) m ∙ tabulated m (mod-lt (x / 2 ^ k) (pow_pos m)) (λ j h. bit_mod m (x / 2 ^ k) j h ∙ bit_shr x k j)

-- outside the m bits from bit a on
outside : (m v a i : ℕ) → v < 2 ^ m → (a ≤ i → a + m ≤ i) → bit (v * 2 ^ a) i ≡ false
outside m v a i h far = go (ltb i a) refl
  where
    go : (b : Bool) → ltb i a ≡ b → bit (v * 2 ^ a) i ≡ false
    go true e = bit_shl_low v a i (ltb-true i a e)
    go false e =
        let l : a + m ≤ i = far (ltb-false i a e) in
        let q : i ≡ a + (i - a) = omega arith in
        ap (bit (v * 2 ^ a)) q ∙ bit_shl v a (i - a) ∙ bit_high m v (i - a) h (omega arith)

module _ (m k a : ℕ) (wide : zero < m) (place : a ≡ k * m) where
  at_digit : (v i : ℕ) → v < 2 ^ m → (b : Bool) → eqb (i / m) k ≡ b → bit (v * 2 ^ a) i ≡ (b && bit v (i % m))
  at_digit v i h true e =
      let q : i ≡ a + i % m = sym (div-add-mod' i m) ∙ ap (λ (d : ℕ). d * m + i % m) (eqb-true (i / m) k e) ∙ ap (λ (d : ℕ). d + i % m) (sym place) in
      ap (bit (v * 2 ^ a)) q ∙ bit_shl v a (i % m)
  at_digit v i h false e = outside m v a i h (λ g.
      let l : k ≤ i / m = (le-div_iff_mul-le wide).1 (omega arith) in
      let s : suc k ≤ i / m = omega (arith, eqb-false (i / m) k e) in
      omega (arith, (le-div_iff_mul-le wide).0 s, suc-mul k m))

  -- `v << a` in a type of w bits: v at digit k, and nothing elsewhere
  pub placed : (w v i : ℕ) → v < 2 ^ m → m + a ≤ w → bit (v * 2 ^ a % 2 ^ w) i ≡ (eqb (i / m) k && bit v (i % m))
  placed w v i h room = ap (λ (y : ℕ). bit y i) (shl_exact m a w h room) ∙ at_digit v i h (eqb (i / m) k) refl
