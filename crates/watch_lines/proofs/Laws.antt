-- Each test of the reader decides one step of what a line says, and what is read can be made or is not refused. Assumes nothing.
use mathlib.Core.Path.{◌≡◌, refl, ap, ◌∙◌}
use mathlib.Core.Bool.{true, false}
use mathlib.Core.List.{List}
use Prim.Native.Nat.{ℕ, ◌+◌, ◌-◌, ◌^◌, ◌<◌, ◌≤◌}
use native.Mathlib.Omega.{arith}
use borrow.Author.Tests.{lt-ltb, le-ltb}
use lib.Dec.{ltb}
use lib.ListN.{length, take, drop, length-drop}
use lib.Pow.{pow_pos}
use Rattle.bits.proofs.Decide.{either_arm}
use Rattle.map.specs.Map.{Part, part_of}
use Rattle.std.specs.Prelude.{Option, Some, None}
use Rattle.text.specs.Text.{starts_with, field_of, Small}
use Rattle.text.proofs.Laws.{rest, starts_short, field_small}
use Rattle.text_answers.specs.Answers.{digits_of}
use Rattle.trace_lines.specs.Lines.{line_of, levels_of, tab, device, device34, device_of as tracedDevice, device_with as tracedWith, Taken, Means as TraceMeans}
use Rattle.trace_lines.specs.declared.Line.{Line}
use Rattle.trace_lines.specs.declared.Made.{Made}
use Rattle.trace_lines.specs.declared.Line.TheVariants as trace
use Rattle.trace_lines.proofs.Laws.{line_means, line_tiny, line_long}
use Rattle.watch_lines.specs.declared.Said.TheVariants.{Event}
use Rattle.watch_lines.specs.Watching.{sign, sign_with, device_with, device_of, own_of, said_as, said_by, Means}

-- ---- a device
module _ (part : ℕ) (s : List ℕ) (digits : ℕ) (are : digits ≡ digits_of (part_of part)) where
  by_digits : (n : ℕ) → n ≡ digits_of (part_of part) → starts_with tab (drop (n + 2) s) ≡ false → None ≡ device_of part s
  unfolding device_of
  by_digits n e h = rw (← e) (rw h refl)

  pub device_short : length s < digits + 2 + 1 → None ≡ device_of part s
  device_short h = by_digits digits are (starts_short tab (drop (digits + 2) s) (omega (arith, length-drop (digits + 2) s)))

  pub device_no_tab : starts_with tab (take (length s - (digits + 2)) (drop (digits + 2) s)) ≡ false → None ≡ device_of part s
  device_no_tab h = by_digits digits are (rw rest at h)

  pub device_fields : {made : Option Made} {healthy : Option ℕ} (most : ℕ) → most ≡ 2 ^ (part_of part).width - 1 → made ≡ tracedDevice part (take (digits + 2 - 0) s)
      → healthy ≡ field_of digits most (take (length s - (digits + 2 + 1)) (drop (digits + 2 + 1) s))
      → starts_with tab (take (length s - (digits + 2)) (drop (digits + 2) s)) ≡ true → device_with made healthy ≡ device_of part s
  unfolding device_of
  device_fields most m e f h =
      let k : digits + 2 - 0 ≡ digits + 2 = omega arith in
      rw (← are, e, f, k, rest, m, rw rest at h) refl

-- ---- a line that is no trace's
module _ (s : List ℕ) where
  pub own_long : 32 < length s → None ≡ own_of s
  unfolding own_of
  own_long long = rw (lt-ltb 32 (length s) long)

  module _ (short : length s ≤ 32) where
    pub own_sign : starts_with sign s ≡ true → sign_with (field_of 2 0xff (take (length s - 5) (drop 5 s))) ≡ own_of s
    unfolding own_of
    own_sign h = rw (le-ltb 32 (length s) short, h, rest)

    module _ (no_sign : starts_with sign s ≡ false) where
      pub own_device : starts_with device s ≡ true → device_of 0 (take (length s - 7) (drop 7 s)) ≡ own_of s
      unfolding own_of
      own_device h = rw (le-ltb 32 (length s) short, no_sign, h, rest)

      module _ (no_device : starts_with device s ≡ false) where
        pub own_sister : starts_with device34 s ≡ true → device_of 1 (take (length s - 9) (drop 9 s)) ≡ own_of s
        unfolding own_of
        own_sister h = rw (le-ltb 32 (length s) short, no_sign, no_device, h, rest)

        pub own_none : starts_with device34 s ≡ false → None ≡ own_of s
        unfolding own_of
        own_none h = rw (le-ltb 32 (length s) short, no_sign, no_device, h)

  -- no line of two bytes or fewer says anything
  own_tiny : length s < 3 → own_of s ≡ None
  unfolding own_of
  own_tiny h =
      rw (le-ltb 32 (length s) (omega arith), starts_short sign s (omega arith), starts_short device s (omega arith), starts_short device34 s (omega arith))

  pub said_tiny : (p : Part) → length s < 3 → said_by p s ≡ None
  said_tiny p h = ap (λ (l : Option Line). said_as l s) (line_tiny p s h) ∙ own_tiny h

  pub said_long : (p : Part) → 32 < length s → None ≡ said_by p s
  said_long p h = own_long h ∙ ap (λ (l : Option Line). said_as l s) (line_long p s h)

-- ---- what is read can be made, or is not refused
module _ (p : Part) where
  none : Means p None
  none = record {
    makes = λ m h e. (let z : ◌≡◌ {A = ℕ} 0 1 = cc in absurd (omega arith));
    takes = λ k a e. (let z : ◌≡◌ {A = ℕ} 0 1 = cc in absurd (omega arith));
  }

  signs : (d : Option ℕ) → Means p (sign_with d)
  signs (Some n) = record {
    makes = λ m h e. (let z : ◌≡◌ {A = ℕ} 0 1 = cc in absurd (omega arith));
    takes = λ k a e. (let z : ◌≡◌ {A = ℕ} 0 1 = cc in absurd (omega arith));
  }
  signs None = none

  event : (kind arg : ℕ) → Taken p kind arg → Means p (Some (Event kind arg))
  event kind arg t = record {
    makes = λ m h e. (let z : ◌≡◌ {A = ℕ} 0 1 = cc in absurd (omega arith));
    takes = λ k a e. (
        let s : kind ≡ k = cc in
        let q : arg ≡ a = cc in
        rw (← s, ← q) t);
  }

  small : (part : ℕ) {d : Option ℕ} → Small (2 ^ (part_of part).width - 1) d → (n : ℕ) → d ≡ Some n → n < 2 ^ (part_of part).width
  small part s n e = omega (arith, s.small n e, pow_pos (part_of part).width)

  made : (part : ℕ) → part < 2 → (c l h : Option ℕ) → Small 3 c → Small (2 ^ (part_of part).width - 1) l → Small (2 ^ (part_of part).width - 1) h → Means p (device_with (tracedWith part c l) h)
  made part two (Some c) (Some l) (Some h) a b d = record {
    makes = λ m healthy e. (
        let s : record { part = part; choice = c; levels = l } ≡ m = cc in
        let v : h ≡ healthy = cc in
        rw (← s, ← v) (two, omega (arith, a.small c refl), small part b l refl, small part d h refl));
    takes = λ k g e. (let z : ◌≡◌ {A = ℕ} 0 1 = cc in absurd (omega arith));
  }
  made part two (Some c) (Some l) None a b d = none
  made part two (Some c) None h a b d = none
  made part two None l h a b d = none

  device_means : (part : ℕ) → part < 2 → (s : List ℕ) → Means p (device_of part s)
  unfolding device_of tracedDevice
  device_means part two s =
      either_arm (Means p) (starts_with tab (drop (digits_of (part_of part) + 2) s))
      (either_arm (λ (l : Option Made). Means p (device_with l (levels_of (part_of part) (drop (digits_of (part_of part) + 2 + 1) s)))) (starts_with tab (drop 1 (take (digits_of (part_of part) + 2) s)))
      (made part two _ _ _ (field_small 1 3 _) (field_small (digits_of (part_of part)) (2 ^ (part_of part).width - 1) _) (field_small (digits_of (part_of part)) (2 ^ (part_of part).width - 1) _))
      none)
      none

  own_means : (s : List ℕ) → Means p (own_of s)
  unfolding own_of
  own_means s =
      either_arm (Means p) (ltb 32 (length s)) none
      (either_arm (Means p) (starts_with sign s) (signs (field_of 2 0xff (drop 5 s)))
      (either_arm (Means p) (starts_with device s) (device_means 0 (omega arith) (drop 7 s))
      (either_arm (Means p) (starts_with device34 s) (device_means 1 (omega arith) (drop 9 s)) none)))

  as_means : (l : Option Line) → TraceMeans p l → (s : List ℕ) → Means p (said_as l s)
  as_means (Some (trace.Event kind arg)) m s = event kind arg (m.takes kind arg refl)
  as_means (Some (trace.Device made)) m s = none
  as_means None m s = own_means s

  pub said_means : (s : List ℕ) → Means p (said_by p s)
  said_means s = as_means (line_of p s) (line_means p s) s
