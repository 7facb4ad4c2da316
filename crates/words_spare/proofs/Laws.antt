-- The bits that do not exist, put together, are none exactly if the words fit the part. Assumes nothing.
use mathlib.Core.Path.{◌≡◌, refl, sym, ap, ap₂, ◌∙◌}
use mathlib.Core.Bool.{Bool, true, false, not, ◌&&◌, ◌||◌}
use mathlib.Core.List.{List}
use Prim.Native.Nat.{ℕ, zero, suc, ◌-◌, ◌^◌, ◌<◌, ◌≤◌}
use native.Mathlib.Omega.{arith}
use borrow.Author.Tests.{eqb-true, eqb-false, ltb-false, le-ltb}
use lib.Bits.{bit_or}
use lib.Dec.{eqb, ltb}
use lib.ListN.{length, get_or}
use Rattle.bits.specs.Bits.{bit, without}
use Rattle.bits.proofs.Decide.{clash}
use Rattle.bits.proofs.Laws.{bit_zero, bit-or, bit_without}
use Rattle.map.specs.Map.{part_of}
use Rattle.words.specs.Words.{wide_of, Fit}
use Rattle.words.proofs.Sound.{sound}
use Rattle.words.proofs.Holding.{small_of_clear, pin_word}
use Rattle.words.proofs.Existing.{ones_bit}
use Rattle.words_spare.specs.Spare.{union_to, Limits}

-- ---- numbers that are 0
zero_of_dark : (x : ℕ) → ((i : ℕ) → bit x i ≡ false) → x ≡ 0
zero_of_dark x q = let h : x < 2 ^ 0 = small_of_clear 0 x (λ i e. q i) in omega arith

dark_of_zero : (x : ℕ) → x ≡ 0 → (i : ℕ) → bit x i ≡ false
dark_of_zero x e i = ap (λ (y : ℕ). bit y i) e ∙ bit_zero i

neither : (a b : Bool) → (a || b) ≡ false → (a ≡ false) × (b ≡ false)
neither true b e = clash true refl e
neither false b e = (refl, e)

pub or_zero : (a b : ℕ) → bit_or a b ≡ 0 → (a ≡ 0) × (b ≡ 0)
or_zero a b e =
    let q : (i : ℕ) → (bit a i || bit b i) ≡ false = λ i. sym (bit-or a b i) ∙ dark_of_zero (bit_or a b) e i in
    (zero_of_dark a (λ i. (neither (bit a i) (bit b i) (q i)).0), zero_of_dark b (λ i. (neither (bit a i) (bit b i) (q i)).1))

pub zero_or : {a b : ℕ} → a ≡ 0 → b ≡ 0 → bit_or a b ≡ 0
zero_or p q = ap₂ bit_or p q

-- no bit of x past those of a mask
without_zero : (x m : ℕ) → without x m ≡ 0 → (i : ℕ) → bit m i ≡ false → bit x i ≡ false
without_zero x m e i h = go (bit x i) (ap (λ (b : Bool). bit x i && not b) (sym h) ∙ sym (bit_without x m i) ∙ dark_of_zero (without x m) e i)
  where
    go : (b : Bool) → (b && true) ≡ false → b ≡ false
    go true q = q
    go false q = refl

zero_without : (x m : ℕ) → ((i : ℕ) → bit m i ≡ false → bit x i ≡ false) → without x m ≡ 0
zero_without x m q = zero_of_dark (without x m) (λ i. bit_without x m i ∙ go (bit x i) (bit m i) (q i))
  where
    go : (a b : Bool) → (b ≡ false → a ≡ false) → (a && not b) ≡ false
    go true true h = refl
    go true false h = h refl
    go false b h = refl

-- ---- the bits of some word
union_dark : (w : List ℕ) (i n : ℕ) → bit (union_to w n) i ≡ false → (t : ℕ) → t ≤ n → bit (get_or w t 0) i ≡ false
union_dark w i zero e t h = let z : t ≡ 0 = omega arith in rw z e
union_dark w i (suc n) e t h =
    let q = neither (bit (union_to w n) i) (bit (get_or w (suc n) 0) i) (sym (bit-or (union_to w n) (get_or w (suc n) 0) i) ∙ e) in
    last (eqb t (suc n)) refl q.1 (λ l. union_dark w i n q.0 t l)
  where
    last : (b : Bool) → eqb t (suc n) ≡ b → bit (get_or w (suc n) 0) i ≡ false → (t ≤ n → bit (get_or w t 0) i ≡ false) → bit (get_or w t 0) i ≡ false
    last true r a f = ap (λ (s : ℕ). bit (get_or w s 0) i) (eqb-true t (suc n) r) ∙ a
    last false r a f = f (omega (arith, eqb-false t (suc n) r))

dark_union : (w : List ℕ) (i n : ℕ) → ((t : ℕ) → t ≤ n → bit (get_or w t 0) i ≡ false) → bit (union_to w n) i ≡ false
dark_union w i zero f = f 0 (omega arith)
dark_union w i (suc n) f =
    bit-or (union_to w n) (get_or w (suc n) 0) i ∙ ap₂ (λ (a b : Bool). a || b) (dark_union w i n (λ t h. f t (omega arith))) (f (suc n) (omega arith))

-- ---- words that fit the part
module _ (c : ℕ) (w : List ℕ) (pins kinds enables counts : ℕ) (lim : Limits c pins kinds enables counts) where
  abbrev pub Spare : ℕ
  Spare = bit_or (bit_or (bit_or (without (union_to w 16) pins) (without (get_or w 7 0) kinds)) (without (get_or w 17 0) enables)) (without (get_or w 18 0) counts)

  mask_bit : {m : ℕ} (wide i : ℕ) → m ≡ 2 ^ wide - 1 → bit m i ≡ ltb i wide
  mask_bit wide i e = ap (λ (x : ℕ). bit x i) e ∙ ones_bit wide i

  pub fit_of_spare : length w ≡ 28 → Spare ≡ 0 → Fit (part_of c) w
  fit_of_spare full e = record { full = full; clear = clear }
    where
      a : (bit_or (bit_or (without (union_to w 16) pins) (without (get_or w 7 0) kinds)) (without (get_or w 17 0) enables) ≡ 0) × (without (get_or w 18 0) counts ≡ 0)
      a = or_zero _ _ e

      b : (bit_or (without (union_to w 16) pins) (without (get_or w 7 0) kinds) ≡ 0) × (without (get_or w 17 0) enables ≡ 0)
      b = or_zero _ _ a.0

      d : (without (union_to w 16) pins ≡ 0) × (without (get_or w 7 0) kinds ≡ 0)
      d = or_zero _ _ b.0

      clear : (s i : ℕ) → s < 19 → ltb i (wide_of (part_of c) s) ≡ false → bit (get_or w s 0) i ≡ false
      clear s i h q = go (eqb s 7) refl (eqb s 17) refl (eqb s 18) refl
        where
          go : (x : Bool) → eqb s 7 ≡ x → (y : Bool) → eqb s 17 ≡ y → (z : Bool) → eqb s 18 ≡ z → bit (get_or w s 0) i ≡ false
          go true x y r z t =
              let e7 : s ≡ 7 = eqb-true s 7 x in
              rw e7 (without_zero (get_or w 7 0) kinds d.1 i (mask_bit (wide_of (part_of c) 7) i lim.kinds_are ∙ rw e7 at q))
          go false x true r z t =
              let e17 : s ≡ 17 = eqb-true s 17 r in
              rw e17 (without_zero (get_or w 17 0) enables b.1 i (mask_bit (wide_of (part_of c) 17) i lim.enables_are ∙ rw e17 at q))
          go false x false r true t =
              let e18 : s ≡ 18 = eqb-true s 18 t in
              rw e18 (without_zero (get_or w 18 0) counts a.1 i (mask_bit (wide_of (part_of c) 18) i lim.counts_are ∙ rw e18 at q))
          go false x false r false t =
              let l : s < 17 = omega (arith, eqb-false s 17 r, eqb-false s 18 t) in
              union_dark w i 16
              (without_zero (union_to w 16) pins d.0 i (mask_bit (part_of c).width i lim.pins_are ∙ ap (ltb i) (sym (pin_word (part_of c) (sound c) s l x)) ∙ q))
              s (omega arith)

  pub spare_of_fit : Fit (part_of c) w → Spare ≡ 0
  spare_of_fit fit = zero_or (zero_or (zero_or any (one 7 kinds (omega arith) lim.kinds_are)) (one 17 enables (omega arith) lim.enables_are)) (one 18 counts (omega arith) lim.counts_are)
    where
      one : (s m : ℕ) → s < 19 → m ≡ 2 ^ wide_of (part_of c) s - 1 → without (get_or w s 0) m ≡ 0
      one s m h e = zero_without (get_or w s 0) m (λ i q. fit.clear s i h (sym (mask_bit (wide_of (part_of c) s) i e) ∙ q))

      any : without (union_to w 16) pins ≡ 0
      any = zero_without (union_to w 16) pins (λ i q.
          let past : (part_of c).width ≤ i = ltb-false i (part_of c).width (sym (mask_bit (part_of c).width i lim.pins_are) ∙ q) in
          dark_union w i 16 (λ t h.
          let l : t < 19 = omega arith in
          fit.clear t i l (le-ltb i (wide_of (part_of c) t) (omega (arith, past, ltb-false (part_of c).width (wide_of (part_of c) t) ((sound c).most t l))))))
