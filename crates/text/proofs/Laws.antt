-- One turn of each loop, over plain lists; what a byte's digits are is tried at each byte. Assumes nothing.
use mathlib.Core.Path.{◌≡◌, refl, ap, sym, ◌∙◌}
use mathlib.Core.Bool.{Bool, true, false, cond, and-false}
use mathlib.Core.List.{List, [], ◌∷◌, ◌++◌, append_assoc}
use Prim.Native.Nat.{ℕ, zero, suc, ◌+◌, ◌-◌, ◌*◌, ◌/◌, ◌%◌, ◌^◌, ◌<◌, ◌≤◌}
use native.Mathlib.Numerals.{add-one}
use native.Mathlib.Nat.{pow-suc, pow-le-pow_right, lt_of_lt_of_le}
use native.Mathlib.Omega.{arith}
use lib.Dec.{eqb, leb, ltb, lit<}
use lib.Bits.{bit_and, and_le_r}
use lib.ListN.{length, take, drop, get_or, set, length-append, length-drop}
use lib.Seq.{drop-cons, drop-drop, take_all, sets, sets-eq, length-sets, set-set, set_comm}
use borrow.Rule.Slice.PartMut.{put_mid}
use borrow.Author.Tests.{ne_eqb, eq-eqb, lt-ltb, le-ltb, le-leb, lt-leb, leb-true}
use Rattle.bits.proofs.Decide.{each}
use Rattle.std.specs.Prelude.{Option, Some, None}
use Rattle.text.specs.Text.{starts_with, digit_of, number_of, up_to, field_of, Small, digit_byte, hex_text, Wrote}

-- the rest of a list, as a part of it that ends where it ends
pub rest : (at : ℕ) (s : List ℕ) → take (length s - at) (drop at s) ≡ drop at s
rest at s = take_all (length s - at) (drop at s) (omega (arith, length-drop at s))

pub starts_short : (word text : List ℕ) → length text < length word → starts_with word text ≡ false
unfolding starts_with
starts_short [] text h = absurd (omega arith)
starts_short (w ∷ word) [] h = refl
starts_short (w ∷ word) (b ∷ text) h = rw (starts_short word text (omega arith)) (and-false (eqb b w))

module _ (word text : List ℕ) (i : ℕ) (in_word : i < length word) (in_text : i < length text) where
  pub starts_differ : (get_or text i 0 ≡ get_or word i 0 → ⊥) → starts_with (drop i word) (drop i text) ≡ false
  unfolding starts_with
  starts_differ h = rw (drop-cons word i 0, drop-cons text i 0, ne_eqb (get_or text i 0) (get_or word i 0) h)

  pub starts_same : get_or text i 0 ≡ get_or word i 0 → starts_with (drop i word) (drop i text) ≡ starts_with (drop (i + 1) word) (drop (i + 1) text)
  unfolding starts_with
  starts_same h = rw (add-one, drop-cons word i 0, drop-cons text i 0, eq-eqb (get_or text i 0) (get_or word i 0) h)

module _ (n : ℕ) (text : List ℕ) (i : ℕ) (in_text : i < length text) where
  pub number_ends : 15 < digit_of (get_or text i 0) → number_of n (drop i text) ≡ None
  unfolding number_of
  number_ends h = rw (drop-cons text i 0, le-ltb (digit_of (get_or text i 0)) 16 (omega arith))

  pub number_on : digit_of (get_or text i 0) ≤ 15 → number_of n (drop i text) ≡ number_of (16 * n + digit_of (get_or text i 0)) (drop (i + 1) text)
  unfolding number_of
  number_on h = rw (add-one, drop-cons text i 0, lt-ltb (digit_of (get_or text i 0)) 16 (omega arith))

-- what the code's tests make of a byte, tried at each
digit_told : (b : ℕ) → b < 256
    → cond (ltb 63 ((b + 208) % 256)) 16 (cond (eqb (0x7e0000000003ff / 2 ^ ((b + 208) % 256) % 2) 0) 16 ((b + 9 * (b / 64)) % 16)) ≡ digit_of b
unfolding digit_of
digit_told = each 256 _ _ tt

module _ (b : ℕ) (byte : b < 256) where
  pub digit_far : 63 < (b + 208) % 256 → 16 ≡ digit_of b
  digit_far h = rw (lt-ltb 63 _ h) at (digit_told b byte)

  module _ (near : (b + 208) % 256 ≤ 63) where
    pub digit_none : 0x7e0000000003ff / 2 ^ ((b + 208) % 256) % 2 ≡ 0 → 16 ≡ digit_of b
    digit_none h = rw (le-ltb 63 _ near, eq-eqb _ 0 h) at (digit_told b byte)

    pub digit_is : (0x7e0000000003ff / 2 ^ ((b + 208) % 256) % 2 ≡ 0 → ⊥) → (b + 9 * (b / 64)) % 16 ≡ digit_of b
    digit_is h = rw (le-ltb 63 _ near, ne_eqb _ 0 h) at (digit_told b byte)

-- the code's two digits of a byte in one number: which are letters, and the whole, tried at each
abbrev lettered : ℕ → ℕ
lettered b = 39 * bit_and ((b / 16 % 16 + 256 * (b % 16) + 0x606) / 16) 0x101

abbrev paired : ℕ → ℕ
paired b = b / 16 % 16 + 256 * (b % 16) + 0x3030 + lettered b

pub pair_first : (b : ℕ) → b < 256 → paired b % 256 ≡ digit_byte (b / 16 % 16)
pair_first = each 256 _ _ tt

pub pair_second : (b : ℕ) → b < 256 → paired b / 256 % 256 ≡ digit_byte (b % 16)
pair_second = each 256 _ _ tt

pub pair_fits : (b : ℕ) → (lettered b < 2 ^ 64) × (paired b < 2 ^ 64)
pair_fits b = let h = and_le_r ((b / 16 % 16 + 256 * (b % 16) + 0x606) / 16) 0x101 in (omega arith, omega arith)

-- a run of stores, then another from where it ended
sets_append : (out : List ℕ) (at : ℕ) (s t : List ℕ) → sets (sets out at s) (at + length s) t ≡ sets out at (s ++ t)
sets_append out at [] t = ap (λ (k : ℕ). sets out k t) (omega arith)
sets_append out at (b ∷ s) t = ap (λ (k : ℕ). sets (sets (set out at b) (suc at) s) k t) (omega arith) ∙ sets_append (set out at b) (suc at) s t

-- a part that is copied over, as the code leaves it
pub copied_over : (out : List ℕ) (at : ℕ) (text : List ℕ) {copy : List ℕ} → at + length text ≤ length out → copy ≡ text → put_mid at (at + length text - at) out copy ≡ sets out at text
copied_over out at text h e =
    let n : at + length text - at ≡ length text = omega arith in
    rw (e, n, drop-drop (length text) at out, sets-eq text out at h) (sym (append_assoc (take at out) text (drop (at + length text) out)))

-- a store past a run of them may come first
set_sets : (out : List ℕ) (at k b : ℕ) (s : List ℕ) → at + length s ≤ k → set (sets out at s) k b ≡ sets (set out k b) at s
set_sets out at k b [] h = refl
set_sets out at k b (x ∷ s) h =
    set_sets (set out at x) (suc at) k b s (omega arith) ∙ ap (λ (o : List ℕ). sets o (suc at) s) (set_comm out at k x b (λ e. omega arith))

pub hex_length : (count n : ℕ) → length (hex_text count n) ≡ count
unfolding hex_text
hex_length zero n = refl
hex_length (suc count) n = omega (arith, length-append (hex_text count (n / 16)) (digit_byte (n % 16) ∷ []), hex_length count (n / 16))

-- the lowest digit is stored, and the digits above it are left
pub hex_more : (out : List ℕ) (at i n : ℕ) → sets (set out (at + i) (digit_byte (n % 16))) at (hex_text i (n / 16)) ≡ sets out at (hex_text (suc i) n)
unfolding hex_text
hex_more out at i n =
    let h : List ℕ = hex_text i (n / 16) in
    sym (set_sets out at (at + i) (digit_byte (n % 16)) h (omega (arith, hex_length i (n / 16))))
    ∙ ap (λ (k : ℕ). set (sets out at h) (at + k) (digit_byte (n % 16))) (sym (hex_length i (n / 16)))
    ∙ sets_append out at h (digit_byte (n % 16) ∷ [])

pub power_more : (n i d : ℕ) → n < 16 ^ i → d < 16 → 16 * n + d < 16 ^ (i + 1)
power_more n i d h l = rw (add-one i) (omega (arith, pow-suc 16 i))

-- n digits of a number, up to fifteen, fit 64 bits
pub power_fits : (n i : ℕ) → n < 16 ^ i → i ≤ 15 → n < 2 ^ 60
power_fits n i h l = lt_of_lt_of_le h (pow-le-pow_right (lit< tt) l)

module _ (count most : ℕ) (text : List ℕ) (all : length text ≡ count) where
  pub field_none : number_of 0 text ≡ None → None ≡ field_of count most text
  unfolding field_of
  field_none h = rw (eq-eqb (length text) count all, h)

  pub field_over : {n : ℕ} → number_of 0 text ≡ Some n → most < n → None ≡ field_of count most text
  unfolding field_of
  field_over {n} h l = rw (eq-eqb (length text) count all, h, lt-leb n most l)

  pub field_read : {n : ℕ} → number_of 0 text ≡ Some n → n ≤ most → Some n ≡ field_of count most text
  unfolding field_of
  field_read {n} h l = rw (eq-eqb (length text) count all, h, le-leb n most l)

-- a field that is read is most or less
no_digits : (most : ℕ) → Small most None
no_digits most = record { small = λ n e. let z : ◌≡◌ {A = ℕ} 0 1 = cc in absurd (omega arith) }

up_to_lem : (most : ℕ) (d : Option ℕ) → Small most (up_to most d)
up_to_lem most (Some n) = fits (leb n most) refl
  where
    fits : (t : Bool) → leb n most ≡ t → Small most (cond t (Some n) None)
    fits true e = record { small = λ k q. let s : n ≡ k = cc in omega (arith, leb-true n most e) }
    fits false e = no_digits most
up_to_lem most None = no_digits most

pub field_small : (count most : ℕ) (text : List ℕ) → Small most (field_of count most text)
unfolding field_of
field_small count most text = go (eqb (length text) count)
  where
    go : (t : Bool) → Small most (cond t (up_to most (number_of 0 text)) None)
    go true = up_to_lem most (number_of 0 text)
    go false = no_digits most

-- two texts, one after the other, are their join
pub wrote_both : {out middle left s t : List ℕ} {at end last : ℕ} → Wrote out at s end middle → Wrote middle end t last left → Wrote out at (s ++ t) last left
wrote_both {out} {middle} {left} {s} {t} {at} {end} a b =
    record {
      ends = omega (arith, length-append s t);
      holds = b.holds ∙ ap (λ (x : List ℕ). sets x end t) a.holds ∙ ap (λ (k : ℕ). sets (sets out at s) k t) a.ends ∙ sets_append out at s t;
    }

pub wrote_nothing : (out : List ℕ) (at : ℕ) → Wrote out at [] at out
wrote_nothing out at = record { ends = omega arith; holds = refl }

-- one byte more, by one store
pub wrote_byte : {out left s : List ℕ} {at end : ℕ} → Wrote out at s end left → (b : ℕ) → Wrote out at (s ++ (b ∷ [])) (end + 1) (set left end b)
wrote_byte {out} {left} {s} {at} {end} a b = wrote_both a (record { ends = refl; holds = refl })

pub wrote_length : {out left s : List ℕ} {at end : ℕ} → Wrote out at s end left → length left ≡ length out
wrote_length {out} {left} {s} {at} a = ap length a.holds ∙ length-sets out at s

-- the text may be said in another way
pub wrote_as : {out left s t : List ℕ} {at end : ℕ} → s ≡ t → Wrote out at s end left → Wrote out at t end left
wrote_as e a = rw e at a

-- a text that is written from the last byte of another one on
pub over_last : {lent middle left more : List ℕ} {at end last : ℕ} (text : List ℕ) (b c : ℕ) → Wrote lent at (text ++ (b ∷ [])) end middle → Wrote middle (end - 1) (c ∷ more) last left
    → Wrote lent at (text ++ (c ∷ more)) last left
over_last {lent} {middle} {left} {more} {at} {end} text b c v w =
    let place : end - 1 ≡ at + length text = omega (arith, v.ends, length-append text (b ∷ [])) in
    let k : ℕ = at + length text in
    let whole : List ℕ = sets lent at text in
    record {
      ends = omega (arith, w.ends, v.ends, length-append text (b ∷ []), length-append text (c ∷ more));
      holds = w.holds ∙ ap (λ (n : ℕ). sets middle n (c ∷ more)) place ∙ ap (λ (l : List ℕ). sets l k (c ∷ more)) (v.holds ∙ sym (sets_append lent at text (b ∷ [])))
          ∙ ap (λ (l : List ℕ). sets l (suc k) more) (set-set whole k b c) ∙ sets_append lent at text (c ∷ more);
    }
