-- What the code's bytes and words say of a pin. Assumes nothing.
use mathlib.Core.Path.{◌≡◌, refl, sym, ap, ◌∙◌}
use mathlib.Core.Bool.{Bool, true, false, ◌&&◌}
use mathlib.Core.List.{[], ◌∷◌}
use Prim.Native.Nat.{ℕ, zero, suc, ◌+◌, ◌-◌, ◌*◌, ◌/◌, ◌%◌, ◌≤◌, ◌<◌, ◌^◌}
use native.Mathlib.Nat.{mod-lt, div-add-mod'}
use native.Mathlib.Omega.{arith}
use borrow.Author.Tests.{ltb-true, ltb-false}
use lib.Bits.{bit_and}
use lib.Dec.{ltb}
use lib.ListN.{get_or}
use Rattle.bits.specs.Bits.{bit, tabulate}
use Rattle.bits.proofs.Decide.{each}
use Rattle.bits.proofs.Laws.{tabulate_lt, pin_of, bit_high, bit_ones}
use Rattle.bits.proofs.Join.{joined}
use Rattle.ports.specs.Ports.{bytes_bit}

-- what holds of 0, 1 and 2
pub three : (P : ℕ → Type 0) → P 0 → P 1 → P 2 → (k : ℕ) → k < 3 → P k
three P a b c zero h = a
three P a b c (suc zero) h = b
three P a b c (suc (suc zero)) h = c
three P a b c (suc (suc (suc k))) h = absurd (omega arith)

-- m ones at a digit are that digit
pub all_ones : (m : ℕ) → 0 < m → (here : Bool) (i : ℕ) → (here && bit (2 ^ m - 1) (i % m)) ≡ here
all_ones m h here i = go here (bit_ones m (i % m) (mod-lt i h))
  where
    go : (p : Bool) {q : Bool} → q ≡ true → (p && q) ≡ p
    go true e = e
    go false e = refl

-- three bytes, joined
module _ (a b c : ℕ) (ha : a < 256) (hb : b < 256) (hc : c < 256) where
  pub joined3 : ((i : ℕ) → i < 24 → bit ((c * 256 + b) * 256 + a) i ≡ bytes_bit (a ∷ b ∷ c ∷ []) i) × ((c * 256 + b) * 256 + a < 2 ^ 24)
  joined3 = (pin_of 24 (bytes_bit (a ∷ b ∷ c ∷ [])) (sum ∙ joined 8 (omega arith) 3 digit small), omega arith)
    where
      digit : ℕ → ℕ
      digit k = get_or (a ∷ b ∷ c ∷ []) k 0

      small : (k : ℕ) → k < 3 → digit k < 2 ^ 8
      small = three (λ (k : ℕ). digit k < 2 ^ 8) ha hb hc

      sum : (c * 256 + b) * 256 + a ≡ ((0 * 2 ^ 8 + c) * 2 ^ 8 + b) * 2 ^ 8 + a
      sum = omega arith

-- a bit for each port, at its pins
abbrev pub spread_of : ℕ → ℕ
spread_of b = bit_and (b * 0x1020_4081) 0x01_0101_0101 * 0xff

spread_set : (b : ℕ) → b < 32 → spread_of b ≡ tabulate 40 (λ i. bit b (i / 8))
unfolding bit tabulate
spread_set = each 32 _ _ tt

pub spread_bit : (b : ℕ) → b < 32 → (i : ℕ) → bit (spread_of b) i ≡ bit b (i / 8)
spread_bit b h i = go (ltb i 40) refl
  where
    go : (t : Bool) → ltb i 40 ≡ t → bit (spread_of b) i ≡ bit b (i / 8)
    go true e = pin_of 40 (λ i. bit b (i / 8)) (spread_set b h) i (ltb-true i 40 e)
    go false e =
        let l : 40 ≤ i = ltb-false i 40 e in
        let m : i % 8 < 8 = mod-lt i (omega arith) in
        ap (λ (x : ℕ). bit x i) (spread_set b h) ∙ bit_high 40 (tabulate 40 (λ i. bit b (i / 8))) i (tabulate_lt 40 _) l
        ∙ sym (bit_high 5 b (i / 8) h (omega (arith, div-add-mod' i 8)))
