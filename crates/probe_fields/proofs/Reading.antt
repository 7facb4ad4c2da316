-- A line has its form if each place holds what the form asks there, and the digits of a field say its number. Assumes nothing.
use mathlib.Core.Path.{◌≡◌, refl, ap, ◌∙◌}
use mathlib.Core.Bool.{Bool, true, false, cond, ◌&&◌, beq}
use mathlib.Core.List.{List, [], ◌∷◌, ◌++◌, append-nil}
use Prim.Native.Nat.{ℕ, zero, suc, ◌+◌, ◌-◌, ◌*◌, ◌^◌, ◌<◌, ◌≤◌}
use native.Mathlib.Numerals.{add-one}
use native.Mathlib.Omega.{arith}
use lib.Dec.{eqb, ltb}
use lib.ListN.{length, get_or, take, drop, set, drop_of_length-le}
use lib.Seq.{drop-cons, sets, sets-eq}
use Rattle.bits.proofs.Decide.{decide_below, beq→eq, and_right, clash}
use Rattle.std.specs.Prelude.{Option, Some, None, unwrap_or}
use Rattle.std.specs.List.{list_any}
use Rattle.text.specs.Text.{digit_of, field_of, Small}
use Rattle.text.proofs.Laws.{field_small}
use Rattle.probe_fields.specs.Fields.{form, has_form, line_form, readable, number_at, bytes_at}

-- ---- tabs and digits at their places
pub form_long : length line_form ≡ 394
unfolding form
form_long = refl

pub tab_places : (i : ℕ) → i < 394
    → list_any (λ y. eqb y i) (256 ∷ 273 ∷ 290 ∷ 307 ∷ 324 ∷ 327 ∷ 330 ∷ 333 ∷ 350 ∷ 353 ∷ 356 ∷ 365 ∷ 368 ∷ 377 ∷ [])
    ≡ get_or line_form i false
unfolding form
tab_places = decide_below Bool beq beq→eq 394 _ _ tt

form_length : (ts : List Bool) (line : List ℕ) → has_form ts line ≡ true → length line ≡ length ts
unfolding has_form
form_length [] [] e = refl
form_length [] (b ∷ line) e = clash false e refl
form_length (t ∷ ts) [] e = clash false e refl
form_length (t ∷ ts) (b ∷ line) e = ap suc (form_length ts line (and_right (cond t (eqb b 0x09) (ltb (digit_of b) 16)) (has_form ts line) e))

pub readable_long : (line : List ℕ) → readable line ≡ true → length line ≡ 394
readable_long line e = form_length line_form line e ∙ form_long

pub other_length : (line : List ℕ) → (length line ≡ 394 → ⊥) → readable line ≡ false
other_length line h = go (readable line) refl
  where
    go : (t : Bool) → readable line ≡ t → t ≡ false
    go true e = absurd (h (readable_long line e))
    go false e = refl

module _ (line : List ℕ) (i : ℕ) (inside : i < 394) (all : length line ≡ 394) {tab fits : Bool} (place : tab ≡ get_or line_form i false)
    (byte : fits ≡ cond tab (eqb (get_or line i 0) 0x09) (ltb (digit_of (get_or line i 0)) 16)) where
  here : has_form (drop i line_form) (drop i line) ≡ (fits && has_form (drop (suc i) line_form) (drop (suc i) line))
  unfolding has_form
  here =
      let l : i < length line = omega (arith, all) in
      let f : i < length line_form = omega (arith, form_long) in
      rw (drop-cons line_form i false, drop-cons line i 0, byte, place)

  pub form_ends : fits ≡ false → has_form (drop i line_form) (drop i line) ≡ false
  form_ends e = rw (here, e)

  pub form_on : fits ≡ true → has_form (drop i line_form) (drop i line) ≡ has_form (drop (i + 1) line_form) (drop (i + 1) line)
  form_on e = rw (add-one i, here, e)

pub form_done : (line : List ℕ) → length line ≡ 394 → has_form (drop 394 line_form) (drop 394 line) ≡ true
unfolding has_form
form_done line all = rw (drop_of_length-le line_form {i = 394} (omega (arith, form_long)), drop_of_length-le line {i = 394} (omega (arith, all)))

-- ---- numbers
module _ (line : List ℕ) (at width most : ℕ) (full : most ≡ 16 ^ width - 1) {d : Option ℕ} (read : d ≡ field_of width most (take (at + width - at) (drop at line))) where
  field_is : d ≡ field_of width (16 ^ width - 1) (take width (drop at line))
  field_is =
      let e : at + width - at ≡ width = omega arith in
      read ∙ ap (λ (k : ℕ). field_of width most (take k (drop at line))) e ∙ ap (λ (m : ℕ). field_of width m (take width (drop at line))) full

  pub value_is : {n : ℕ} → n ≡ unwrap_or d 0 → (n ≡ number_at line at width) × (n ≤ most)
  value_is e = (
    e ∙ ap (λ (o : Option ℕ). unwrap_or o 0) field_is,
    rw (e, read) (small_value _ (field_small width most (take (at + width - at) (drop at line)))),
  )
    where
      small_value : (o : Option ℕ) → Small most o → unwrap_or o 0 ≤ most
      small_value (Some n) s = s.small n refl
      small_value None s = omega arith

-- ---- bytes
bytes_long : (line : List ℕ) (at count : ℕ) → length (bytes_at line at count) ≡ count
unfolding bytes_at
bytes_long line at zero = refl
bytes_long line at (suc count) = ap suc (bytes_long line (at + 2) count)

module _ (line file : List ℕ) (i : ℕ) where
  -- one store of a byte
  pub bytes_more : i < 128 → sets (set file i (number_at line (2 * i) 2)) (i + 1) (bytes_at line (2 * (i + 1)) (128 - (i + 1))) ≡ sets file i (bytes_at line (2 * i) (128 - i))
  unfolding bytes_at
  bytes_more h =
      let left : 128 - i ≡ suc (128 - (i + 1)) = omega arith in
      let next : 2 * (i + 1) ≡ 2 * i + 2 = omega arith in
      rw (left, next, add-one i)

  pub bytes_done : 128 ≤ i → sets file i (bytes_at line (2 * i) (128 - i)) ≡ file
  unfolding bytes_at
  bytes_done h = let none : 128 - i ≡ 0 = omega arith in rw none

-- all bytes of a memory stored
pub bytes_all : (line file : List ℕ) → length file ≡ 128 → sets file 0 (bytes_at line 0 128) ≡ bytes_at line 0 128
bytes_all line file all =
    let bytes : List ℕ = bytes_at line 0 128 in
    sets-eq bytes file 0 (omega (arith, bytes_long line 0 128))
    ∙ ap (λ (s : List ℕ). bytes ++ s) (drop_of_length-le file {i = 0 + length bytes} (omega (arith, bytes_long line 0 128)))
    ∙ append-nil bytes
