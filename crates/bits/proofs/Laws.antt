-- The laws of `bit` and `tabulate`, for every width. Assumes nothing.
use mathlib.Core.Path.{◌≡◌, refl, sym, ap, ap₂, ◌∙◌}
use mathlib.Core.Bool.{Bool, true, false, not, ◌&&◌, ◌||◌}
use Prim.Native.Nat.{ℕ, zero, suc, ◌+◌, ◌-◌, ◌*◌, ◌/◌, ◌%◌, ◌^◌, ◌≤◌, ◌<◌, min, max}
use native.Mathlib.Nat.{div-add-mod', mod-lt, pow-suc, div-one, zero-add, suc-add, add-zero, lt_of_le_of_lt}
use native.Mathlib.Omega.{arith}
use lib.Arith.{lt-one, digits_div, digits_mod}
use lib.Bits.{bit_and, bit_or, bit_xor, differ, and_le_l, or_lt, xor_lt, and_step, or_step, xor_step, block_half, block_odd}
use lib.Pow.{pow_pos, ones_lt, split, shr-shr, high}
use borrow.Author.Tests.{ne_eqb}
use lib.Dec.{eqb}
use native.Mathlib.Numerals.{one-add}
use Rattle.bits.specs.Bits.{val, pos, differs, bit, tabulate, some, without}
use Rattle.bits.proofs.Decide.{taut}

-- a digit is 0 or 1
two : (P : ℕ → Type 0) → P 0 → P 1 → (n : ℕ) → n < 2 → P n
two P p q zero h = p
two P p q (suc zero) h = q
two P p q (suc (suc n)) h = absurd (omega arith)

-- a digit is known by whether it is 0
pos_inj : (x : ℕ) → x < 2 → (y : ℕ) → y < 2 → pos x ≡ pos y → x ≡ y
pos_inj x hx y hy e = sym (val_pos x hx) ∙ ap val e ∙ val_pos y hy
  where
    val_pos : (n : ℕ) → n < 2 → val (pos n) ≡ n
    val_pos = two (λ (n : ℕ). val (pos n) ≡ n) refl refl

val_lt : (b : Bool) → val b < 2
val_lt true = omega arith
val_lt false = omega arith

pos_val : (b : Bool) → pos (val b) ≡ b
pos_val true = refl
pos_val false = refl

half : {x : ℕ} (w : ℕ) → x < 2 ^ suc w → x / 2 < 2 ^ w
half {x} w h = omega (arith, div-add-mod' x 2, pow-suc 2 w)

-- ---- an operation on each digit is that operation on each bit
module _ (op f : ℕ → ℕ → ℕ) (g : Bool → Bool → Bool)
    (step : (a b : ℕ) → op a b ≡ op (a / 2) (b / 2) * 2 + f (a % 2) (b % 2))
    (digit : (x : ℕ) → x < 2 → (y : ℕ) → y < 2 → (f x y < 2) × (pos (f x y) ≡ g (pos x) (pos y))) where
  bit_op : (a b i : ℕ) → bit (op a b) i ≡ g (bit a i) (bit b i)
  unfolding bit
  bit_op a b zero = ap (λ (x : ℕ). pos (x % 2)) (step a b) ∙ ap pos (digits_mod (op (a / 2) (b / 2)) d.0) ∙ d.1
    where
      d : (f (a % 2) (b % 2) < 2) × (pos (f (a % 2) (b % 2)) ≡ g (pos (a % 2)) (pos (b % 2)))
      d = digit (a % 2) (mod-lt a (omega arith)) (b % 2) (mod-lt b (omega arith))
  bit_op a b (suc i) =
      ap (λ (x : ℕ). bit (x / 2) i) (step a b)
      ∙ ap (λ (x : ℕ). bit x i) (digits_div (op (a / 2) (b / 2)) (digit (a % 2) (mod-lt a (omega arith)) (b % 2) (mod-lt b (omega arith))).0)
      ∙ bit_op (a / 2) (b / 2) i

pub bit-and : (a b i : ℕ) → bit (bit_and a b) i ≡ (bit a i && bit b i)
bit-and = bit_op bit_and min (λ p q. p && q) and_step
    (two _ (two _ (omega arith, refl) (omega arith, refl)) (two _ (omega arith, refl) (omega arith, refl)))

pub bit-or : (a b i : ℕ) → bit (bit_or a b) i ≡ (bit a i || bit b i)
bit-or = bit_op bit_or max (λ p q. p || q) or_step
    (two _ (two _ (omega arith, refl) (omega arith, refl)) (two _ (omega arith, refl) (omega arith, refl)))

pub bit-xor : (a b i : ℕ) → bit (bit_xor a b) i ≡ differs (bit a i) (bit b i)
bit-xor = bit_op bit_xor differ differs xor_step
    (two _ (two _ (omega arith, refl) (omega arith, refl)) (two _ (omega arith, refl) (omega arith, refl)))

pub bit_without : (a b i : ℕ) → bit (without a b) i ≡ (bit a i && not (bit b i))
bit_without a b i = bit-xor a (bit_and a b) i ∙ ap (differs (bit a i)) (bit-and a b i) ∙ less (bit a i) (bit b i)
  where
    less : (p q : Bool) → differs p (p && q) ≡ (p && not q)
    less = taut 2 _ _ tt

-- ---- two numbers below 2 ^ w with the same w bits are equal
pub bit_ext : (w x y : ℕ) → x < 2 ^ w → y < 2 ^ w → ((i : ℕ) → i < w → bit x i ≡ bit y i) → x ≡ y
unfolding bit
bit_ext zero x y hx hy e = lt-one hx ∙ sym (lt-one hy)
bit_ext (suc w) x y hx hy e =
    let q : x / 2 ≡ y / 2 = bit_ext w (x / 2) (y / 2) (half w hx) (half w hy) (λ i h. e (suc i) (omega arith)) in
    let d : x % 2 ≡ y % 2 = pos_inj (x % 2) (mod-lt x (omega arith)) (y % 2) (mod-lt y (omega arith)) (e zero (omega arith)) in
    omega (arith, div-add-mod' x 2, div-add-mod' y 2)

-- ---- the number that is made of given bits
pub tabulate_lt : (w : ℕ) (f : ℕ → Bool) → tabulate w f < 2 ^ w
unfolding tabulate
tabulate_lt zero f = omega arith
tabulate_lt (suc w) f = omega (arith, tabulate_lt w (λ i. f (suc i)), pow-suc 2 w, val_lt (f zero))

pub bit_tabulate : (w : ℕ) (f : ℕ → Bool) (i : ℕ) → i < w → bit (tabulate w f) i ≡ f i
unfolding bit tabulate
bit_tabulate zero f i h = absurd (omega arith)
bit_tabulate (suc w) f zero h = ap pos (digits_mod (tabulate w (λ i. f (suc i))) (val_lt (f zero))) ∙ pos_val (f zero)
bit_tabulate (suc w) f (suc i) h =
    ap (λ (x : ℕ). bit x i) (digits_div (tabulate w (λ i. f (suc i))) (val_lt (f zero))) ∙ bit_tabulate w (λ i. f (suc i)) i (omega arith)

-- the way in which a function's result is shown: below 2 ^ w, and bit by bit
pub tabulated : (w : ℕ) {x : ℕ} {f : ℕ → Bool} → x < 2 ^ w → ((i : ℕ) → i < w → bit x i ≡ f i) → x ≡ tabulate w f
tabulated w {x} {f} h e = bit_ext w x (tabulate w f) h (tabulate_lt w f) (λ i k. e i k ∙ sym (bit_tabulate w f i k))

-- and back: a pin of a set that is given by its pins
pub pin_of : (w : ℕ) (f : ℕ → Bool) {x : ℕ} → x ≡ tabulate w f → (i : ℕ) → i < w → bit x i ≡ f i
pin_of w f e i h = ap (λ (y : ℕ). bit y i) e ∙ bit_tabulate w f i h

-- sets of the same pins are the same set
pub tabulate_ext : (w : ℕ) {f g : ℕ → Bool} → ((i : ℕ) → i < w → f i ≡ g i) → tabulate w f ≡ tabulate w g
tabulate_ext w {f} {g} e = tabulated w (tabulate_lt w f) (λ i h. bit_tabulate w f i h ∙ e i h)

pub bit_zero : (i : ℕ) → bit 0 i ≡ false
unfolding bit
bit_zero zero = refl
bit_zero (suc i) = bit_zero i

-- ---- a number put together from k low bits and the rest
pub bit_low : (k : ℕ) (hi : ℕ) {lo : ℕ} (i : ℕ) → lo < 2 ^ k → i < k → bit (hi * 2 ^ k + lo) i ≡ bit lo i
unfolding bit
bit_low zero hi i hl h = absurd (omega arith)
bit_low (suc k) hi {lo} zero hl h = ap pos (block_odd hi k lo)
bit_low (suc k) hi {lo} (suc i) hl h = ap (λ (x : ℕ). bit x i) (block_half hi k lo) ∙ bit_low k hi i (half k hl) (omega arith)

pub bit_shr : (x k i : ℕ) → bit (x / 2 ^ k) i ≡ bit x (k + i)
unfolding bit
bit_shr x zero i = ap₂ bit (div-one x) (sym (zero-add i))
bit_shr x (suc k) i =
    ap (λ (n : ℕ). bit (x / 2 ^ n) i) (sym (one-add k)) ∙ ap (λ (y : ℕ). bit y i) (sym (shr-shr x 1 k))
    ∙ bit_shr (x / 2) k i ∙ ap (bit x) (sym (suc-add k i))

pub bit_top : (k : ℕ) (hi : ℕ) {lo : ℕ} (i : ℕ) → lo < 2 ^ k → bit (hi * 2 ^ k + lo) (k + i) ≡ bit hi i
bit_top k hi {lo} i h = sym (bit_shr (hi * 2 ^ k + lo) k i) ∙ ap (λ (y : ℕ). bit y i) (high hi k h)

pub bit_high : (w : ℕ) (x i : ℕ) → x < 2 ^ w → w ≤ i → bit x i ≡ false
unfolding bit
bit_high zero x i h k = ap (λ (y : ℕ). bit y i) (lt-one h) ∙ bit_zero i
bit_high (suc w) x zero h k = absurd (omega arith)
bit_high (suc w) x (suc i) h k = bit_high w (x / 2) i (half w h) (omega arith)

pub bit_mod : (k x i : ℕ) → i < k → bit (x % 2 ^ k) i ≡ bit x i
bit_mod k x i h = sym (bit_low k (x / 2 ^ k) i (mod-lt x (pow_pos k)) h) ∙ ap (λ (y : ℕ). bit y i) (split x k)

-- a shift to the left
pub bit_shl_low : (x k i : ℕ) → i < k → bit (x * 2 ^ k) i ≡ false
bit_shl_low x k i h = ap (λ (y : ℕ). bit y i) (sym (add-zero (x * 2 ^ k))) ∙ bit_low k x i (pow_pos k) h ∙ bit_zero i

pub bit_shl : (x k i : ℕ) → bit (x * 2 ^ k) (k + i) ≡ bit x i
bit_shl x k i = ap (λ (y : ℕ). bit y (k + i)) (sym (add-zero (x * 2 ^ k))) ∙ bit_top k x i (pow_pos k)

-- all ones
pub bit_ones : (w i : ℕ) → i < w → bit (2 ^ w - 1) i ≡ true
unfolding tabulate
bit_ones w i h = sym (ap (λ (x : ℕ). bit x i) (ones w)) ∙ bit_tabulate w (λ j. true) i h
  where
    ones : (w : ℕ) → tabulate w (λ j. true) ≡ 2 ^ w - 1
    ones zero = refl
    ones (suc w) = omega (arith, ones w, pow-suc 2 w, pow_pos w)

-- ---- bounds, in the form that `search` wants
pub and_below : (w a b : ℕ) → a < 2 ^ w → bit_and a b < 2 ^ w
and_below w a b h = lt_of_le_of_lt (and_le_l a b) h

-- `simp pinwise t`: bit i of a word is a Boolean expression of bit i of its operands
pub ruleset pinwise = (bit-and, bit-or, bit-xor)

-- `search below`: a word made of pin sets is a pin set
pub ruleset below = (and_below, or_lt, xor_lt, ones_lt)

-- ---- a set is not 0 exactly if some bit is 1
pub some_bit : (w : ℕ) {x : ℕ} → x < 2 ^ w → not (eqb x 0) ≡ some w (λ i. bit x i)
unfolding some bit
some_bit zero {x} h = ap (λ (n : ℕ). not (eqb n 0)) (lt-one h)
some_bit (suc w) {x} h =
    ap (λ (n : ℕ). not (eqb n 0)) (sym (div-add-mod' x 2))
    ∙ two (λ (d : ℕ). not (eqb (x / 2 * 2 + d) 0) ≡ (pos d || some w (λ i. bit (x / 2) i)))
    (ap not (double (x / 2)) ∙ some_bit w (half w h)) (ap not (ne_eqb (x / 2 * 2 + 1) 0 (λ e. omega arith))) (x % 2) (mod-lt x (omega arith))
  where
    double : (n : ℕ) → eqb (n * 2 + 0) 0 ≡ eqb n 0
    double zero = refl
    double (suc n) = ne_eqb (suc n * 2 + 0) 0 (λ e. omega arith) ∙ sym (ne_eqb (suc n) 0 (λ e. omega arith))

pub some_ext : (w : ℕ) {f g : ℕ → Bool} → ((i : ℕ) → i < w → f i ≡ g i) → some w f ≡ some w g
unfolding some
some_ext zero e = refl
some_ext (suc w) e = ap₂ (λ (p q : Bool). p || q) (e zero (omega arith)) (some_ext w (λ i h. e (suc i) (omega arith)))
