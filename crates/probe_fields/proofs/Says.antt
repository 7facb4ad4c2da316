-- In a readable line every field is digits and has its number. Assumes nothing.
use mathlib.Core.Path.{◌≡◌, refl, ap, sym, ◌∙◌}
use mathlib.Core.Bool.{Bool, true, false, cond, beq}
use mathlib.Core.List.{List, [], ◌∷◌, ◌++◌}
use Prim.Native.Nat.{ℕ, zero, suc, ◌+◌, ◌-◌, ◌*◌, ◌^◌, ◌<◌, ◌≤◌}
use native.Mathlib.Nat.{pow-succ', mul_assoc, mul-le-mul_right, lt_of_lt_of_le}
use native.Mathlib.Omega.{arith}
use borrow.Author.Tests.{lt-ltb, ltb-true, leb-true}
use lib.Dec.{eqb, ltb, leb}
use lib.ListN.{length, get_or, take, drop, replicate, length-replicate, get_or-replicate, length-drop, get_or-append}
use lib.Seq.{length-take-le, get_or-take, get_or-drop, get_or-append-add}
use Rattle.bits.proofs.Decide.{decide_below, beq→eq, and_left, and_right, clash}
use Rattle.std.specs.Prelude.{Option, Some, unwrap_or}
use Rattle.text.specs.Text.{digit_of, number_of, field_of}
use Rattle.text.proofs.Laws.{field_read}
use Rattle.probe_fields.specs.Fields.{widths, form, has_form, line_form, readable, number_at, sum, number_in}
use Rattle.probe_fields.proofs.Reading.{form_long, readable_long}

-- what the form says of a place
form_at : (ts : List Bool) (line : List ℕ) → has_form ts line ≡ true → (i : ℕ) → i < length ts
    → cond (get_or ts i false) (eqb (get_or line i 0) 0x09) (ltb (digit_of (get_or line i 0)) 16) ≡ true
unfolding has_form
form_at [] line e i h = absurd (omega arith)
form_at (t ∷ ts) [] e i h = clash false e refl
form_at (t ∷ ts) (b ∷ line) e zero h = and_left (cond t (eqb b 0x09) (ltb (digit_of b) 16)) (has_form ts line) e
form_at (t ∷ ts) (b ∷ line) e (suc i) h = form_at ts line (and_right (cond t (eqb b 0x09) (ltb (digit_of b) 16)) (has_form ts line) e) i (omega arith)

-- where a field's digits stand
form_digit : (ws : List ℕ) (k i : ℕ) → k < length ws → i < get_or ws k 0 → get_or (form ws) (suc (sum (take k ws) + k + i)) false ≡ false
unfolding form
form_digit [] k i hk hi = absurd (omega arith)
form_digit (w ∷ ws) zero i hk hi =
    let e : 0 + 0 + i ≡ i = omega arith in
    ap (λ (n : ℕ). get_or (replicate w false ++ form ws) n false) e
    ∙ get_or-append (replicate w false) (form ws) false i (omega (arith, length-replicate w false))
    ∙ get_or-replicate w i false false hi
form_digit (w ∷ ws) (suc k) i hk hi =
    let m : ℕ = suc (sum (take k ws) + k + i) in
    let e : w + sum (take k ws) + suc k + i ≡ length (replicate w false) + m = omega (arith, length-replicate w false) in
    ap (λ (n : ℕ). get_or (replicate w false ++ form ws) n false) e
    ∙ get_or-append-add (replicate w false) (form ws) m false
    ∙ form_digit ws k i (omega arith) hi

-- digits have a number
digits_say : (s : List ℕ) (n : ℕ) → ((i : ℕ) → i < length s → digit_of (get_or s i 0) < 16)
    → (number_of n s ≡ Some (unwrap_or (number_of n s) 0)) × (unwrap_or (number_of n s) 0 < (n + 1) * 16 ^ length s)
unfolding number_of
digits_say [] n all = (refl, omega arith)
digits_say (b ∷ s) n all =
    let d : digit_of b < 16 = all 0 (omega arith) in
    let later = digits_say s (16 * n + digit_of b) (λ i h. all (suc i) (omega arith)) in
    let most : (16 * n + digit_of b + 1) * 16 ^ length s ≤ (n + 1) * 16 * 16 ^ length s = mul-le-mul_right (16 ^ length s) (omega arith) in
    rw (lt-ltb (digit_of b) 16 d) (later.0, lt_of_lt_of_le later.1 (rw (pow-succ' 16 (length s), ← mul_assoc (n + 1) 16 (16 ^ length s)) most))

field_fits : (k : ℕ) → k < 15 → leb (sum (take k widths) + k + get_or widths k 0) 394 ≡ true
field_fits = decide_below Bool beq beq→eq 15 _ _ tt

digit_stands : (k : ℕ) → k < 15 → (i : ℕ) → i < get_or widths k 0 → get_or line_form (sum (take k widths) + k + i) false ≡ false
digit_stands k h i l =
    let j : ℕ = sum (take k widths) + k + i in
    let e : 1 + j ≡ suc j = omega arith in
    get_or-drop 1 (form widths) j false ∙ ap (λ (n : ℕ). get_or (form widths) n false) e ∙ form_digit widths k i h l

module _ (line : List ℕ) (read : readable line ≡ true) where
  -- so many digits from a place on, where digits stand
  pub digits_number : (at width : ℕ) → at + width ≤ 394 → ((i : ℕ) → i < width → get_or line_form (at + i) false ≡ false)
      → field_of width (16 ^ width - 1) (take width (drop at line)) ≡ Some (number_at line at width)
  digits_number at width fits stand = said ∙ ap (λ (d : Option ℕ). Some (unwrap_or d 0)) (sym said)
    where
      s : List ℕ
      s = take width (drop at line)

      long : length s ≡ width
      long = length-take-le width (drop at line) (omega (arith, length-drop at line, readable_long line read))

      all : (i : ℕ) → i < length s → digit_of (get_or s i 0) < 16
      all i h =
          let inside : i < width = omega (arith, long) in
          let e : get_or s i 0 ≡ get_or line (at + i) 0 = get_or-take width (drop at line) i 0 inside ∙ get_or-drop at line i 0 in
          let place = form_at line_form line read (at + i) (omega (arith, form_long)) in
          rw e (ltb-true (digit_of (get_or line (at + i) 0)) 16 (rw (stand i inside) at place))

      small : unwrap_or (number_of 0 s) 0 < (0 + 1) * 16 ^ width
      small = rw long at (digits_say s 0 all).1

      said : field_of width (16 ^ width - 1) s ≡ Some (unwrap_or (number_of 0 s) 0)
      said = sym (field_read width (16 ^ width - 1) s long (digits_say s 0 all).0 (omega (arith, small)))

  -- the theorem: every field says its number
  pub field_says : (k : ℕ) → k < 15 → field_of (get_or widths k 0) (16 ^ get_or widths k 0 - 1) (take (get_or widths k 0) (drop (sum (take k widths) + k) line)) ≡ Some (number_in line k)
  field_says k h =
      digits_number (sum (take k widths) + k) (get_or widths k 0) (leb-true (sum (take k widths) + k + get_or widths k 0) 394 (field_fits k h)) (λ i l. digit_stands k h i l)

  -- and so does every register
  pub register_says : (n : ℕ) → n < 128 → field_of 2 (16 ^ 2 - 1) (take 2 (drop (2 * n) line)) ≡ Some (number_at line (2 * n) 2)
  register_says n h =
      digits_number (2 * n) 2 (omega arith) (λ i l.
      let e : 2 * n + i ≡ 0 + (2 * n + i) = omega arith in
      ap (λ (j : ℕ). get_or line_form j false) e ∙ digit_stands 0 (omega arith) (2 * n + i) (omega arith))
