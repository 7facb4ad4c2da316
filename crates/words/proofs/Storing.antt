-- What is stored by a write, in words and in the terms of the code: the bits of the written byte are merged into its word, or into its two. Assumes nothing.
use mathlib.Core.Path.{◌≡◌, refl, sym, ap, ap₂, ◌∙◌}
use mathlib.Core.Bool.{Bool, true, false, cond, not, ◌&&◌, ◌||◌}
use mathlib.Core.List.{List}
use Prim.Native.Nat.{ℕ, ◌+◌, ◌*◌, ◌<◌}
use native.Mathlib.Omega.{arith}
use borrow.Author.Tests.{eqb-true, eqb-false}
use lib.Dec.{eqb, ltb}
use lib.ListN.{get_or, set, length-set}
use lib.Seq.{get_or-set_same, get_or-set_other}
use Rattle.bits.specs.Bits.{bit, without}
use Rattle.bits.proofs.Decide.{clash, taut}
use Rattle.bits.proofs.Laws.{bit-or, bit_without}
use Rattle.ports.specs.Ports.{in_port, port_bit, in_edge, rising_bit, falling_bit}
use Rattle.map.specs.Map.{Part, kind_at, stored, kept_in}
use Rattle.registers.specs.Registers.{kept_as}
use Rattle.words.specs.Words.{slot_at, digit_at, file_of, wide_of, paired, merged, Fit}
use Rattle.words.proofs.Sound.{Sound, size_of, word_held}
use Rattle.words.proofs.Writing.{one_word, two_words}

-- a pair's word is 8 or 13
pub pair_case : (P : ℕ → Type 0) (s : ℕ) → paired s ≡ true → P 8 → P 13 → P s
pair_case P s t a b = go (eqb s 8) refl (eqb s 13) refl t
  where
    go : (x : Bool) → eqb s 8 ≡ x → (y : Bool) → eqb s 13 ≡ y → (x || y) ≡ true → P s
    go true q y r h = rw (eqb-true s 8 q) a
    go false q true r h = rw (eqb-true s 13 r) b
    go false q false r h = clash false h refl

pub pair_wide : (p : Part) (s : ℕ) → paired s ≡ true → wide_of p s ≡ p.width
unfolding wide_of
pair_wide p s e = pair_case (λ s. wide_of p s ≡ p.width) s e refl refl

pub second_wide : (p : Part) (s : ℕ) → paired s ≡ true → wide_of p (s + 1) ≡ p.width
unfolding wide_of
second_wide p s e = pair_case (λ s. wide_of p (s + 1) ≡ p.width) s e refl refl

-- ---- no bit that does not exist is set
pub fit_set : (p : Part) (w : List ℕ) (s x : ℕ) → s < 19 → Fit p w → ((i : ℕ) → ltb i (wide_of p s) ≡ false → bit x i ≡ false) → Fit p (set w s x)
fit_set p w s x h fit q = record { full = simp length-set fit.full; clear = λ t i l e. go t i l e (eqb t s) refl }
  where
    go : (t i : ℕ) → t < 19 → ltb i (wide_of p t) ≡ false → (b : Bool) → eqb t s ≡ b → bit (get_or (set w s x) t 0) i ≡ false
    go t i l e true r =
        let z : t ≡ s = eqb-true t s r in
        ap (λ (t : ℕ). bit (get_or (set w s x) t 0) i) z ∙ ap (λ (y : ℕ). bit y i) (get_or-set_same w s x 0 (omega (arith, fit.full)))
        ∙ q i (ap (λ (t : ℕ). ltb i (wide_of p t)) (sym z) ∙ e)
    go t i l e false r = ap (λ (y : ℕ). bit y i) (get_or-set_other w s t x 0 (eqb-false t s r)) ∙ fit.clear t i l e

-- the merged word at pin i, where on has the bits a of here that exist
merged_bit : (word here on i : ℕ) (h a l : Bool) → bit here i ≡ h → bit on i ≡ (h && (a && l)) → bit (merged word here on) i ≡ cond h (a && l) (bit word i)
merged_bit word here on i h a l eh eo =
    bit-or (without word here) on i ∙ ap₂ (λ (x y : Bool). x || y) (bit_without word here i ∙ ap (λ (b : Bool). bit word i && not b) eh) eo
    ∙ chosen h a l (bit word i)
  where
    chosen : (h a l z : Bool) → ((z && not h) || (h && (a && l))) ≡ cond h (a && l) z
    chosen = taut 4 _ _ tt

cut : (h a l z : Bool) → l ≡ false → z ≡ false → cond h (a && l) z ≡ false
cut true true l z e f = e
cut true false l z e f = refl
cut false a l z e f = f

module _ (p : Part) (ok : Sound p) (n v s : ℕ) (hn : n < 128) (hv : v < 256) (w : List ℕ) (fit : Fit p w)
    (st : stored (kind_at p n) ≡ true) (es : s ≡ slot_at p n) where
  -- the file after the write
  abbrev after : List ℕ
  after = cond (stored (kind_at p n)) (set (file_of p w) n (kept_in p n (kept_as p (kind_at p n) v))) (file_of p w)

  written : {l : List ℕ} → set (file_of p w) n (kept_in p n (kept_as p (kind_at p n) v)) ≡ l → l ≡ after
  written q = sym q ∙ ap (λ (t : Bool). cond t (set (file_of p w) n (kept_in p n (kept_as p (kind_at p n) v))) (file_of p w)) (sym st)

  low_word : s < 19
  low_word = omega (arith, es, word_held p ok n hn st)

  module _ (one : paired s ≡ false) (here on : ℕ) (hh : (i : ℕ) → bit here i ≡ in_port (digit_at p n) i)
      (ho : (i : ℕ) → bit on i ≡ (in_port (digit_at p n) i && (port_bit v i && ltb i (wide_of p s)))) where
    size : size_of p (slot_at p n) ≡ wide_of p s
    size = ap (size_of p) (sym es) ∙ ap (λ (t : Bool). cond t (2 * p.width) (wide_of p s)) one

    one_bit : (i : ℕ) → bit (merged (get_or w s 0) here on) i ≡ cond (in_port (digit_at p n) i) (port_bit v i && ltb i (wide_of p s)) (bit (get_or w s 0) i)
    one_bit i = merged_bit (get_or w s 0) here on i (in_port (digit_at p n) i) (port_bit v i) (ltb i (wide_of p s)) (hh i) (ho i)

    pub wrote_one : file_of p (set w s (merged (get_or w s 0) here on)) ≡ after
    wrote_one =
        ap (λ (t : ℕ). file_of p (set w t (merged (get_or w s 0) here on))) es
        ∙ written (one_word p ok w n v hn st hv fit.full (ap paired (sym es) ∙ one) (merged (get_or w s 0) here on) (λ i. one_bit i ∙ cc (es, size)))

    pub fit_one : Fit p (set w s (merged (get_or w s 0) here on))
    fit_one =
        fit_set p w s (merged (get_or w s 0) here on) low_word fit
        (λ i e. one_bit i ∙ cut (in_port (digit_at p n) i) (port_bit v i) (ltb i (wide_of p s)) (bit (get_or w s 0) i) e (fit.clear s i low_word e))

  module _ (two : paired s ≡ true) (here low high : ℕ) (hh : (i : ℕ) → bit here i ≡ in_edge (digit_at p n) i)
      (hl : (i : ℕ) → bit low i ≡ (in_edge (digit_at p n) i && (rising_bit v i && ltb i p.width)))
      (hb : (i : ℕ) → bit high i ≡ (in_edge (digit_at p n) i && (falling_bit v i && ltb i p.width))) where
    abbrev first : List ℕ
    first = set w s (merged (get_or w s 0) here low)

    abbrev both : List ℕ
    both = set first (s + 1) (merged (get_or first (s + 1) 0) here high)

    next_word : get_or first (s + 1) 0 ≡ get_or w (s + 1) 0
    next_word = get_or-set_other w s (s + 1) (merged (get_or w s 0) here low) 0 (λ z. omega (arith, z))

    low_bit : (i : ℕ) → bit (merged (get_or w s 0) here low) i ≡ cond (in_edge (digit_at p n) i) (rising_bit v i && ltb i p.width) (bit (get_or w s 0) i)
    low_bit i = merged_bit (get_or w s 0) here low i (in_edge (digit_at p n) i) (rising_bit v i) (ltb i p.width) (hh i) (hl i)

    high_bit : (i : ℕ) → bit (merged (get_or first (s + 1) 0) here high) i
        ≡ cond (in_edge (digit_at p n) i) (falling_bit v i && ltb i p.width) (bit (get_or first (s + 1) 0) i)
    high_bit i = merged_bit (get_or first (s + 1) 0) here high i (in_edge (digit_at p n) i) (falling_bit v i) (ltb i p.width) (hh i) (hb i)

    pub wrote_two : file_of p both ≡ after
    wrote_two =
        ap (λ (t : ℕ). file_of p (set (set w t (merged (get_or w s 0) here low)) (t + 1) (merged (get_or first (s + 1) 0) here high))) es
        ∙ written (two_words p ok w n v hn st hv fit.full (ap paired (sym es) ∙ two) (merged (get_or w s 0) here low) (merged (get_or first (s + 1) 0) here high)
        (λ i. low_bit i ∙ cc es) (λ i. high_bit i ∙ cc (es, next_word)))

    pub fit_two : Fit p both
    fit_two =
        fit_set p first (s + 1) (merged (get_or first (s + 1) 0) here high) second_low one
        (λ i e. high_bit i ∙ cut (in_edge (digit_at p n) i) (falling_bit v i) (ltb i p.width) (bit (get_or first (s + 1) 0) i)
        (ap (ltb i) (sym (second_wide p s two)) ∙ e) (one.clear (s + 1) i second_low e))
      where
        second_low : s + 1 < 19
        second_low = pair_case (λ s. s + 1 < 19) s two (omega arith) (omega arith)

        one : Fit p first
        one =
            fit_set p w s (merged (get_or w s 0) here low) low_word fit
            (λ i e. low_bit i ∙ cut (in_edge (digit_at p n) i) (rising_bit v i) (ltb i p.width) (bit (get_or w s 0) i)
            (ap (ltb i) (sym (pair_wide p s two)) ∙ e) (fit.clear s i low_word e))
