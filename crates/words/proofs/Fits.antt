-- Words that fit: by a test of each, and what their file says of them: all, where they fit. Assumes nothing.
use mathlib.Core.Path.{◌≡◌, refl, sym, ap, ap₂, ◌∙◌}
use mathlib.Core.Bool.{Bool, true, false, cond, not, ◌&&◌}
use mathlib.Core.List.{List}
use Prim.Native.Nat.{ℕ, zero, suc, ◌+◌, ◌*◌, ◌/◌, ◌%◌, ◌^◌, ◌<◌, ◌≤◌}
use native.Mathlib.Nat.{div-add-mod', mod-lt, add-zero}
use native.Mathlib.Omega.{arith}
use borrow.Author.Tests.{eqb-true, ltb-true, ltb-false, lt-ltb, le-ltb}
use lib.Arith.{digits_div, digits_mod}
use lib.Dec.{eqb, ltb}
use lib.ListN.{length, get_or}
use lib.Pow.{pow_pos}
use Rattle.bits.specs.Bits.{bit}
use Rattle.bits.proofs.Laws.{bit_high, bit_ext, bit_tabulate, tabulate_lt}
use Rattle.ports.specs.Ports.{byte_of}
use Rattle.map.specs.Map.{Part, Kind, kind_at, stored, room_at, whole, fitting, fitting_at, fitting_from, file_fits}
use Rattle.map.specs.Map.Kind.{Reserved, Input, Status, InputStatus, Configuration, Latch, Mask, PortKind, Edge, Clear, Output, Polarity, PinKind, Stored}
use Rattle.words.specs.Words.{slot_at, digit_at, held_bit, entry_of, file_of, wide_of, paired, Fit}
use Rattle.words.proofs.Sound.{Sound, base_of, size_of, leads, room_is, way, word_held, byte_there, byte_stored, byte_slot, byte_digit}
use Rattle.words.proofs.Reading.{file_entry}
use Rattle.words.proofs.Storing.{pair_case, pair_wide, second_wide}
use Rattle.words.proofs.Holding.{small_of_clear}

-- each word below 2 to the number of its bits
pub fit_of_small : (p : Part) (w : List ℕ) → length w ≡ 28 → ((s : ℕ) → s < 19 → ltb (get_or w s 0) (2 ^ wide_of p s) ≡ true) → Fit p w
fit_of_small p w full small = record {
  full = full;
  clear = λ s i h e. bit_high (wide_of p s) (get_or w s 0) i (ltb-true _ _ (small s h)) (ltb-false i (wide_of p s) e);
}

-- ---- the file says all of words that fit
module _ (p : Part) (ok : Sound p) (w : List ℕ) where
  held_read : (s : ℕ) → leads s ≡ true → s < 19 → (m : ℕ) → m < size_of p s → bit (get_or (file_of p w) (base_of p s + m / 8) 0) (m % 8) ≡ held_bit w s m
  unfolding entry_of
  held_read s lead hs m hm =
      let d = m / 8 in
      let h : 8 * (m / 8) < size_of p s = omega (arith, hm, div-add-mod' m 8) in
      let q : 8 * (m / 8) + m % 8 ≡ m = omega (arith, div-add-mod' m 8) in
      let b : m % 8 < 8 = mod-lt m (omega arith) in
      ap (λ (x : ℕ). bit x (m % 8))
      (file_entry p ok w (base_of p s + m / 8) (byte_there p ok s (m / 8) lead hs h)
      ∙ ap (λ (t : Bool). cond t (byte_of (digit_at p (base_of p s + m / 8)) (held_bit w (slot_at p (base_of p s + m / 8)))) 0) (byte_stored p ok s (m / 8) lead hs h)
      ∙ ap₂ (λ (d s : ℕ). byte_of d (held_bit w s)) (byte_digit p ok s (m / 8) lead hs h) (byte_slot p ok s (m / 8) lead hs h))
      ∙ bit_tabulate 8 (λ i. held_bit w s (8 * (m / 8) + i)) (m % 8) b
      ∙ ap (held_bit w s) q

module _ (p : Part) (ok : Sound p) (w w' : List ℕ) (fit : Fit p w) (fit' : Fit p w') (e : file_of p w ≡ file_of p w') where
  same_held : (s : ℕ) → leads s ≡ true → s < 19 → (m : ℕ) → m < size_of p s → held_bit w s m ≡ held_bit w' s m
  same_held s lead hs m hm =
      sym (held_read p ok w s lead hs m hm) ∙ ap (λ (l : List ℕ). bit (get_or l (base_of p s + m / 8) 0) (m % 8)) e ∙ held_read p ok w' s lead hs m hm

  -- by the bits that exist
  same_word : (s : ℕ) → s < 19 → ((i : ℕ) → i < wide_of p s → bit (get_or w s 0) i ≡ bit (get_or w' s 0) i) → get_or w s 0 ≡ get_or w' s 0
  same_word s hs q =
      bit_ext (wide_of p s) (get_or w s 0) (get_or w' s 0) (small_of_clear (wide_of p s) (get_or w s 0) (λ i. fit.clear s i hs)) (small_of_clear (wide_of p s) (get_or w' s 0) (λ i. fit'.clear s i hs)) q

  -- a pair's two words: bit i of word r is bit 2 i + r
  pair_bit : (s : ℕ) → paired s ≡ true → leads s ≡ true → s < 19 → (r : ℕ) → r < 2 → (i : ℕ) → i < p.width → bit (get_or w (s + r) 0) i ≡ bit (get_or w' (s + r) 0) i
  unfolding held_bit
  pair_bit s two lead hs r hr i hi =
      let z : size_of p s ≡ 2 * p.width = ap (λ (t : Bool). cond t (2 * p.width) (wide_of p s)) two in
      let q = same_held s lead hs (i * 2 + r) (omega (arith, z, hi, hr)) in
      rw (two, digits_mod i hr, digits_div i hr) at q

  lone_bit : (s : ℕ) → paired s ≡ false → leads s ≡ true → s < 19 → (i : ℕ) → i < wide_of p s → bit (get_or w s 0) i ≡ bit (get_or w' s 0) i
  unfolding held_bit
  lone_bit s one lead hs i hi =
      let z : size_of p s ≡ wide_of p s = ap (λ (t : Bool). cond t (2 * p.width) (wide_of p s)) one in
      rw one at (same_held s lead hs i (omega (arith, z, hi)))

  -- words that fit and stand for the same file are the same
  pub same_word_of : (s : ℕ) → 3 < s → s < 19 → get_or w s 0 ≡ get_or w' s 0
  unfolding wide_of
  same_word_of s h l = go (eqb s 9) refl (eqb s 14) refl (paired s) refl
    where
      lead : eqb s 9 ≡ false → eqb s 14 ≡ false → leads s ≡ true
      lead a b = ap₂ (λ (x y : Bool). (not x && not y) && not (eqb s 14)) (le-ltb s 4 h) a ∙ ap not b

      go : (a : Bool) → eqb s 9 ≡ a → (b : Bool) → eqb s 14 ≡ b → (t : Bool) → paired s ≡ t → get_or w s 0 ≡ get_or w' s 0
      go true a b r t q = rw (eqb-true s 9 a) (same_word 9 (omega arith) (pair_bit 8 refl refl (omega arith) 1 (omega arith)))
      go false a true r t q = rw (eqb-true s 14 r) (same_word 14 (omega arith) (pair_bit 13 refl refl (omega arith) 1 (omega arith)))
      go false a false r true q =
          same_word s l (λ i k. rw add-zero at (pair_bit s q (lead a r) l 0 (omega arith) i (rw (pair_wide p s q) at k)))
      go false a false r false q = same_word s l (lone_bit s q (lead a r) l)

-- ---- the file that fitting words stand for may stand in an image
module _ (p : Part) (ok : Sound p) (w : List ℕ) (fit : Fit p w) where
  held_clear : (s m : ℕ) → s < 19 → ltb m (size_of p s) ≡ false → held_bit w s m ≡ false
  unfolding held_bit
  held_clear s m hs e = go (paired s) refl
    where
      h : m % 2 < 2
      h = mod-lt m (omega arith)

      side : paired s ≡ true → (r : ℕ) → r < 2 → wide_of p (s + r) ≡ p.width
      side t zero l = ap (wide_of p) (add-zero s) ∙ pair_wide p s t
      side t (suc zero) l = second_wide p s t
      side t (suc (suc r)) l = absurd (omega arith)

      low : paired s ≡ true → (r : ℕ) → r < 2 → s + r < 19
      low t r l = pair_case (λ s. s + r < 19) s t (omega arith) (omega arith)

      go : (t : Bool) → paired s ≡ t → cond t (bit (get_or w (s + m % 2) 0) (m / 2)) (bit (get_or w s 0) m) ≡ false
      go true t =
          let z : size_of p s ≡ 2 * p.width = ap (λ (t : Bool). cond t (2 * p.width) (wide_of p s)) t in
          let l : 2 * p.width ≤ m = omega (arith, z, ltb-false m (size_of p s) e) in
          fit.clear (s + m % 2) (m / 2) (low t (m % 2) h) (ap (ltb (m / 2)) (side t (m % 2) h) ∙ le-ltb (m / 2) p.width (omega (arith, l, h, div-add-mod' m 2)))
      go false t =
          let z : size_of p s ≡ wide_of p s = ap (λ (t : Bool). cond t (2 * p.width) (wide_of p s)) t in
          fit.clear s m hs (ap (ltb m) (sym z) ∙ e)

  module _ (n : ℕ) (hn : n < 128) where
    pub entry_small : stored (kind_at p n) ≡ true → entry_of p w n < 2 ^ room_at p n
    unfolding entry_of
    entry_small st = rw (ap (λ (t : Bool). cond t (byte_of (digit_at p n) (held_bit w (slot_at p n))) 0) st) (small_of_clear (room_at p n) (byte_of (digit_at p n) (held_bit w (slot_at p n))) (λ j e. go j e (ltb j 8) refl))
      where
        go : (j : ℕ) → ltb j (room_at p n) ≡ false → (t : Bool) → ltb j 8 ≡ t → bit (byte_of (digit_at p n) (held_bit w (slot_at p n))) j ≡ false
        go j e true q =
            let h : j < 8 = ltb-true j 8 q in
            let l : room_at p n ≤ j = ltb-false j (room_at p n) e in
            bit_tabulate 8 (λ i. held_bit w (slot_at p n) (8 * digit_at p n + i)) j h
            ∙ held_clear (slot_at p n) (8 * digit_at p n + j) (word_held p ok n hn st) (le-ltb (8 * digit_at p n + j) (size_of p (slot_at p n)) (omega (arith, h, l, room_is p ok n hn)))
        go j e false q = bit_high 8 _ j (tabulate_lt 8 _) (ltb-false j 8 q)

    entry_fits : fitting_at p n (entry_of p w n) ≡ true
    unfolding fitting entry_of
    entry_fits = go (kind_at p n) refl (whole p) refl
      where
        v : ℕ
        v = entry_of p w n

        gone : (k : Kind) → kind_at p n ≡ k → stored k ≡ false → v ≡ 0
        gone k e t = ap (λ (t : Bool). cond t (byte_of (digit_at p n) (held_bit w (slot_at p n))) 0) (ap stored e ∙ t)

        small : (k : Kind) → kind_at p n ≡ k → stored k ≡ true → ltb v (2 ^ room_at p n) ≡ true
        small k e t = lt-ltb v (2 ^ room_at p n) (entry_small (ap stored e ∙ t))

        ports : kind_at p n ≡ PortKind → ltb v (2 ^ p.ports) ≡ true
        ports e =
            let q : room_at p n ≡ p.ports = eqb-true _ _ (rw e at (way p ok n hn (ap stored e))) in
            ap (λ (r : ℕ). ltb v (2 ^ r)) (sym q) ∙ small PortKind e refl

        none : (k : Kind) → kind_at p n ≡ k → stored k ≡ false → (t : Bool) → cond t (eqb v 0) (eqb v 0 && ltb v (2 ^ room_at p n)) ≡ true
        none k e s true = ap (λ (x : ℕ). eqb x 0) (gone k e s)
        none k e s false = ap (λ (x : ℕ). eqb x 0 && ltb x (2 ^ room_at p n)) (gone k e s) ∙ lt-ltb 0 (2 ^ room_at p n) (pow_pos (room_at p n))

        some : (k : Kind) → kind_at p n ≡ k → stored k ≡ true → (t : Bool) → cond t true (ltb v (2 ^ room_at p n)) ≡ true
        some k e s true = refl
        some k e s false = small k e s

        go : (k : Kind) → kind_at p n ≡ k → (t : Bool) → whole p ≡ t → cond t (fitting p k v) (fitting p k v && ltb v (2 ^ room_at p n)) ≡ true
        go PortKind e true r = ports e
        go PortKind e false r = ap₂ (λ (a b : Bool). a && b) (ports e) (small PortKind e refl)
        go Reserved e t r = none Reserved e refl t
        go Input e t r = none Input e refl t
        go Status e t r = none Status e refl t
        go InputStatus e t r = none InputStatus e refl t
        go Clear e t r = none Clear e refl t
        go Configuration e t r = some Configuration e refl t
        go Latch e t r = some Latch e refl t
        go Mask e t r = some Mask e refl t
        go Edge e t r = some Edge e refl t
        go Output e t r = some Output e refl t
        go Polarity e t r = some Polarity e refl t
        go PinKind e t r = some PinKind e refl t
        go Stored e t r = some Stored e refl t

  from_entries : (file : List ℕ) (n a : ℕ) → ((m : ℕ) → m < a + n → fitting_at p m (get_or file m 0) ≡ true) → fitting_from p file a n ≡ true
  from_entries file zero a f = refl
  from_entries file (suc n) a f =
      ap (λ (b : Bool). b && fitting_from p file (suc a) n) (f a (omega arith)) ∙ from_entries file n (suc a) (λ m h. f m (omega arith))

  pub file_of_fits : file_fits p (file_of p w) ≡ true
  unfolding file_fits
  file_of_fits = from_entries (file_of p w) 128 0 (λ m h. ap (fitting_at p m) (file_entry p ok w m (omega arith)) ∙ entry_fits m (omega arith))
