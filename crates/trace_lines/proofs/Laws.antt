-- Each test of the reader decides one step of what a line says, and a field that is read is small enough for a device or an event that is taken. Assumes nothing.
use mathlib.Core.Path.{◌≡◌, refl, ◌∙◌}
use mathlib.Core.Bool.{Bool, true, false, cond}
use mathlib.Core.List.{List, [], ◌∷◌}
use Prim.Native.Nat.{ℕ, ◌-◌, ◌^◌, ◌<◌, ◌≤◌}
use native.Mathlib.Omega.{arith}
use lib.Dec.{eqb, ltb}
use lib.ListN.{length, take, drop, length-drop}
use lib.Pow.{pow_pos}
use borrow.Author.Tests.{ne_eqb, eqb-true, lt-ltb, le-ltb}
use Rattle.bits.proofs.Decide.{and_right, either_arm}
use Rattle.map.specs.Map.{Part, part_of}
use Rattle.device_rules.specs.Refusals.{argument_fits}
use Rattle.std.specs.Prelude.{Option, Some, None}
use Rattle.text.proofs.Laws.{starts_short, field_small, rest}
use Rattle.text.specs.Text.{starts_with, is_word, field_of, Small}
use Rattle.text_answers.specs.Answers.{digits_of}
use Rattle.trace_lines.specs.declared.Line.TheVariants.{Event}
use Rattle.trace_lines.specs.declared.Made.{Made}
use Rattle.trace_lines.specs.Lines.{line_of, fields_of, devices_of, device_of, levels_of, event_with, device_with, made_line, start, stop, reset, byte, fetch, pins, device, device34, tab, Taken, Means}

small_levels : (p : Part) {d : Option ℕ} → Small (2 ^ p.width - 1) d → (n : ℕ) → d ≡ Some n → n < 2 ^ p.width
small_levels p s n e = omega (arith, s.small n e, pow_pos p.width)

module _ (p : Part) where
  -- an argument that a line can say is one that is not refused
  pub taken_fits : (kind arg : ℕ) → Taken p kind arg → argument_fits p kind arg ≡ true
  taken_fits kind arg t = two (eqb kind 2) refl
    where
      two : (b : Bool) → eqb kind 2 ≡ b → cond b (ltb arg 256) (cond (eqb kind 3) (ltb arg 2) (cond (eqb kind 4) (ltb arg (2 ^ p.width)) true)) ≡ true
      two true e = lt-ltb arg 256 (omega (arith, t.1 (eqb-true kind 2 e)))
      two false e = three (eqb kind 3) refl
        where
          three : (b : Bool) → eqb kind 3 ≡ b → cond b (ltb arg 2) (cond (eqb kind 4) (ltb arg (2 ^ p.width)) true) ≡ true
          three true e = lt-ltb arg 2 (omega (arith, t.2 (eqb-true kind 3 e)))
          three false e = four (eqb kind 4) refl
            where
              four : (b : Bool) → eqb kind 4 ≡ b → cond b (ltb arg (2 ^ p.width)) true ≡ true
              four true e = lt-ltb arg (2 ^ p.width) (t.3 (eqb-true kind 4 e))
              four false e = refl

  none : Means p None
  none = record {
    makes = λ m e. (let z : ◌≡◌ {A = ℕ} 0 1 = cc in absurd (omega arith));
    takes = λ k a e. (let z : ◌≡◌ {A = ℕ} 0 1 = cc in absurd (omega arith));
  }

  event : (kind arg : ℕ) → Taken p kind arg → Means p (Some (Event kind arg))
  event kind arg t = record {
    makes = λ m e. (let z : ◌≡◌ {A = ℕ} 0 1 = cc in absurd (omega arith));
    takes = λ k a e. (
        let s : kind ≡ k = cc in
        let q : arg ≡ a = cc in
        (omega (arith, t.0), λ z. omega (arith, t.1 (s ∙ z)), λ z. omega (arith, t.2 (s ∙ z)), λ z. omega (arith, t.3 (s ∙ z))));
  }

  -- a kind without an argument
  plain : (kind : ℕ) → kind ≤ 5 → (kind ≡ 2 → ⊥) → (kind ≡ 3 → ⊥) → (kind ≡ 4 → ⊥) → Means p (Some (Event kind 0))
  plain kind h two three four = event kind 0 (h, λ z. absurd (two z), λ z. absurd (three z), λ z. absurd (four z))

  byte_means : (d : Option ℕ) → Small 0xff d → Means p (event_with 2 d)
  byte_means (Some n) b = event 2 n (omega arith, λ z. b.small n refl, λ z. absurd (omega (arith, z)), λ z. absurd (omega (arith, z)))
  byte_means None b = none

  fetch_means : (d : Option ℕ) → Small 1 d → Means p (event_with 3 d)
  fetch_means (Some n) b = event 3 n (omega arith, λ z. absurd (omega (arith, z)), λ z. b.small n refl, λ z. absurd (omega (arith, z)))
  fetch_means None b = none

  pins_mean : (d : Option ℕ) → Small (2 ^ p.width - 1) d → Means p (event_with 4 d)
  pins_mean (Some n) b = event 4 n (omega arith, λ z. absurd (omega (arith, z)), λ z. absurd (omega (arith, z)), λ z. small_levels p b n refl)
  pins_mean None b = none

  made : (part : ℕ) → part < 2 → (c l : Option ℕ) → Small 3 c → Small (2 ^ (part_of part).width - 1) l → Means p (made_line (device_with part c l))
  made part two (Some c) (Some l) a b =
      record {
        makes = λ m e. (
            let s : record { part = part; choice = c; levels = l } ≡ m = cc in
            rw (← s) (two, omega (arith, a.small c refl), small_levels (part_of part) b l refl));
        takes = λ k g e. (let z : ◌≡◌ {A = ℕ} 0 1 = cc in absurd (omega arith));
      }
  made part two (Some c) None a b = none
  made part two None l a b = none

  device_means : (part : ℕ) → part < 2 → (s : List ℕ) → Means p (made_line (device_of part s))
  unfolding device_of
  device_means part two s =
      either_arm (λ (m : Option Made). Means p (made_line m)) (starts_with tab (drop 1 s))
      (made part two (field_of 1 3 (take 1 s)) (levels_of (part_of part) (drop 2 s)) (field_small 1 3 (take 1 s)) (field_small (digits_of (part_of part)) (2 ^ (part_of part).width - 1) (drop 2 s)))
      none

  devices_mean : (s : List ℕ) → Means p (made_line (devices_of s))
  unfolding devices_of
  devices_mean s =
      either_arm (λ (m : Option Made). Means p (made_line m)) (starts_with device s) (device_means 0 (omega arith) (drop 7 s))
      (either_arm (λ (m : Option Made). Means p (made_line m)) (starts_with device34 s) (device_means 1 (omega arith) (drop 9 s)) none)

  fields_mean : (s : List ℕ) → Means p (fields_of p s)
  unfolding fields_of
  fields_mean s =
      either_arm (Means p) (starts_with byte s) (byte_means (field_of 2 0xff (drop 5 s)) (field_small 2 0xff (drop 5 s)))
      (either_arm (Means p) (starts_with fetch s) (fetch_means (field_of 1 1 (drop 6 s)) (field_small 1 1 (drop 6 s)))
      (either_arm (Means p) (starts_with pins s) (pins_mean (levels_of p (drop 5 s)) (field_small (digits_of p) (2 ^ p.width - 1) (drop 5 s))) (devices_mean s)))

  -- a device line that can be read is one of a device that can be made, and an event line is one of an event that is not refused for its kind or its argument
  pub line_means : (s : List ℕ) → Means p (line_of p s)
  unfolding line_of
  line_means s =
      either_arm (Means p) (ltb 32 (length s)) none
      (either_arm (Means p) (is_word start s) (plain 0 (omega arith) (λ z. omega (arith, z)) (λ z. omega (arith, z)) (λ z. omega (arith, z)))
      (either_arm (Means p) (is_word stop s) (plain 1 (omega arith) (λ z. omega (arith, z)) (λ z. omega (arith, z)) (λ z. omega (arith, z)))
      (either_arm (Means p) (is_word reset s) (plain 5 (omega arith) (λ z. omega (arith, z)) (λ z. omega (arith, z)) (λ z. omega (arith, z))) (fields_mean s))))

-- a text is as long as a word that it begins with
pub starts_long : (word text : List ℕ) → starts_with word text ≡ true → length word ≤ length text
unfolding starts_with
starts_long [] text h = omega arith
starts_long (w ∷ word) [] h = let z : ◌≡◌ {A = ℕ} 0 1 = cc in absurd (omega arith)
starts_long (w ∷ word) (b ∷ text) h = let l : length word ≤ length text = starts_long word text (and_right (eqb b w) _ h) in omega arith

module _ (part : ℕ) (s : List ℕ) where
  pub device_short : length s < 2 → None ≡ device_of part s
  unfolding device_of
  device_short h = rw (starts_short tab (drop 1 s) (omega (arith, length-drop 1 s)))

  pub device_no_tab : starts_with tab (take (length s - 1) (drop 1 s)) ≡ false → None ≡ device_of part s
  unfolding device_of
  device_no_tab h = rw (rw rest at h)

  pub device_fields : (choice levels : Option ℕ) (count most : ℕ) → count ≡ digits_of (part_of part) → most ≡ 2 ^ (part_of part).width - 1
      → choice ≡ field_of 1 3 (take 1 s) → levels ≡ field_of count most (take (length s - 2) (drop 2 s))
      → starts_with tab (take (length s - 1) (drop 1 s)) ≡ true → device_with part choice levels ≡ device_of part s
  unfolding device_of
  device_fields choice levels count most d m e f h = rw (e, f, rest, d, m, rw rest at h)

-- what a line says, by the tests that led there
module _ (s : List ℕ) where
  pub devices_one : starts_with device s ≡ true → device_of 0 (take (length s - 7) (drop 7 s)) ≡ devices_of s
  unfolding devices_of
  devices_one h = rw (h, rest)

  pub devices_other : starts_with device s ≡ false → starts_with device34 s ≡ true → device_of 1 (take (length s - 9) (drop 9 s)) ≡ devices_of s
  unfolding devices_of
  devices_other n h = rw (n, h, rest)

  pub devices_none : starts_with device s ≡ false → starts_with device34 s ≡ false → None ≡ devices_of s
  unfolding devices_of
  devices_none n h = rw (n, h)

module _ (p : Part) (s : List ℕ) (not_byte : starts_with byte s ≡ false) where
  pub fields_fetch : starts_with fetch s ≡ true → event_with 3 (field_of 1 1 (drop 6 s)) ≡ fields_of p s
  unfolding fields_of
  fields_fetch h = rw (not_byte, h)

  module _ (not_fetch : starts_with fetch s ≡ false) where
    pub fields_pins : (count most : ℕ) → count ≡ digits_of p → most ≡ 2 ^ p.width - 1 → starts_with pins s ≡ true → event_with 4 (field_of count most (drop 5 s)) ≡ fields_of p s
    unfolding fields_of
    fields_pins count most d m h = rw (not_byte, not_fetch, h, d, m)

    pub fields_device : starts_with pins s ≡ false → made_line (devices_of s) ≡ fields_of p s
    unfolding fields_of
    fields_device h = rw (not_byte, not_fetch, h)

not_word : (word s : List ℕ) → length s < length word → is_word word s ≡ false
unfolding is_word
not_word word s h = rw (ne_eqb (length s) (length word) (λ e. omega (arith, e)))

module _ (p : Part) (s : List ℕ) where
  -- no line of two bytes or fewer says anything
  pub line_tiny : length s < 3 → line_of p s ≡ None
  unfolding line_of fields_of devices_of
  line_tiny h =
      rw (
        le-ltb 32 (length s) (omega arith),
        not_word start s (omega arith),
        not_word stop s (omega arith),
        not_word reset s (omega arith),
        starts_short byte s (omega arith),
        starts_short fetch s (omega arith),
        starts_short pins s (omega arith),
        starts_short device s (omega arith),
        starts_short device34 s (omega arith),
      )

  pub line_long : 32 < length s → None ≡ line_of p s
  unfolding line_of
  line_long long = rw (lt-ltb 32 (length s) long)

  module _ (short : length s ≤ 32) where
    pub line_start : is_word start s ≡ true → Some (Event 0 0) ≡ line_of p s
    unfolding line_of
    line_start h = rw (le-ltb 32 (length s) short, h)

    pub line_stop : is_word start s ≡ false → is_word stop s ≡ true → Some (Event 1 0) ≡ line_of p s
    unfolding line_of
    line_stop a h = rw (le-ltb 32 (length s) short, a, h)

    pub line_reset : is_word start s ≡ false → is_word stop s ≡ false → is_word reset s ≡ true → Some (Event 5 0) ≡ line_of p s
    unfolding line_of
    line_reset a b h = rw (le-ltb 32 (length s) short, a, b, h)

    pub line_fields : is_word start s ≡ false → is_word stop s ≡ false → is_word reset s ≡ false → fields_of p s ≡ line_of p s
    unfolding line_of
    line_fields a b h = rw (le-ltb 32 (length s) short, a, b, h)
