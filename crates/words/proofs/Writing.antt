-- A register written in the words is that register written in the file. For every part whose map is sound. Assumes nothing.
use mathlib.Core.Path.{◌≡◌, refl, sym, ap, ap₂, ◌∙◌}
use mathlib.Core.Bool.{Bool, true, false, cond, not, ◌&&◌, ◌||◌}
use mathlib.Core.List.{List}
use Prim.Native.Nat.{ℕ, zero, suc, ◌+◌, ◌-◌, ◌*◌, ◌/◌, ◌%◌, ◌^◌, ◌<◌, min}
use native.Mathlib.Nat.{div-add-mod', mod-lt, mod-le, mod-mod, mod-eq_of_lt, zero-add, add-zero}
use native.Mathlib.Omega.{arith}
use borrow.Author.Tests.{eqb-true, eqb-false, ne_eqb, eq-eqb, ltb-true, ltb-false, lt-ltb, le-ltb}
use lib.Arith.{digits_div, digits_mod}
use lib.Dec.{eqb, ltb}
use lib.ListN.{length, get_or, set, length-set}
use lib.Seq.{get_or-set_same, get_or-set_other}
use Rattle.bits.specs.Bits.{bit, tabulate}
use Rattle.bits.proofs.Decide.{clash}
use Rattle.bits.proofs.Laws.{tabulated, tabulate_ext, bit_mod, bit_high}
use lib.Pow.{pow_pos}
use Rattle.ports.specs.Ports.{byte_of}
use Rattle.map.specs.Map.{Part, Kind, kind_at, stored, code, room_at, whole, kept_in}
use Rattle.map.specs.Map.Kind.{Reserved, Input, Status, InputStatus, Configuration, Latch, Mask, PortKind, Edge, Clear, Output, Polarity, PinKind, Stored}
use Rattle.registers.specs.Registers.{kept_as}
use Rattle.words.specs.Words.{slot_at, digit_at, held_bit, entry_of, file_of, wide_of, paired}
use Rattle.words.proofs.Entries.{set_entries, entries_ext}
use Rattle.words.proofs.Sound.{Sound, base_of, size_of, own_place, word_held, word_high, not_nine, not_fourteen, room_is, way}

-- the low r bits of v, where r is cut at eight, bit by bit
low_bit : (v room x j : ℕ) → room ≡ min 8 x → j < 8 → bit (v % 2 ^ room) j ≡ (bit v j && ltb j x)
low_bit v room x j e h = go (ltb j x) refl
  where
    and_true : (b : Bool) → b ≡ (b && true)
    and_true true = refl
    and_true false = refl

    and_false : (b : Bool) → false ≡ (b && false)
    and_false true = refl
    and_false false = refl

    go : (t : Bool) → ltb j x ≡ t → bit (v % 2 ^ room) j ≡ (bit v j && t)
    go true q = bit_mod room v j (omega (arith, ltb-true j x q, e)) ∙ and_true (bit v j)
    go false q = bit_high room (v % 2 ^ room) j (mod-lt v (pow_pos room)) (omega (arith, ltb-false j x q, e)) ∙ and_false (bit v j)

past : (a b c : ℕ) → ltb (a + b) c ≡ ltb b (c - a)
past a b c = go (ltb (a + b) c) refl
  where
    go : (t : Bool) → ltb (a + b) c ≡ t → t ≡ ltb b (c - a)
    go true q = sym (lt-ltb b (c - a) (omega (arith, ltb-true (a + b) c q)))
    go false q = sym (le-ltb b (c - a) (omega (arith, ltb-false (a + b) c q)))

low_bits : (v d size room : ℕ) → v < 256 → room ≡ min 8 (size - 8 * d) → v % 2 ^ room ≡ tabulate 8 (λ j. bit v j && ltb (8 * d + j) size)
low_bits v d size room hv e =
    tabulated 8 (omega (arith, mod-le v (2 ^ room)))
    (λ j h. low_bit v room (size - 8 * d) j e h ∙ ap (λ (t : Bool). bit v j && t) (sym (past (8 * d) j size)))

div8 : (d b : ℕ) → b < 8 → (8 * d + b) / 8 ≡ d
div8 d b h = ap (λ (x : ℕ). x / 8) (omega arith) ∙ digits_div d h

mod8 : (d b : ℕ) → b < 8 → (8 * d + b) % 8 ≡ b
mod8 d b h = ap (λ (x : ℕ). x % 8) (omega arith) ∙ digits_mod d h

-- ---- what is kept of v: the bits that exist
module _ (p : Part) (ok : Sound p) (n v : ℕ) (hn : n < 128) (st : stored (kind_at p n) ≡ true) (hv : v < 256) where
  others_kept : (k : Kind) → eqb (code k) (code PortKind) ≡ false → kept_as p k v ≡ v
  others_kept PortKind e = clash true refl e
  others_kept Reserved e = refl
  others_kept Input e = refl
  others_kept Status e = refl
  others_kept InputStatus e = refl
  others_kept Configuration e = refl
  others_kept Latch e = refl
  others_kept Mask e = refl
  others_kept Edge e = refl
  others_kept Clear e = refl
  others_kept Output e = refl
  others_kept Polarity e = refl
  others_kept PinKind e = refl
  others_kept Stored e = refl

  pub kept_is : kept_in p n (kept_as p (kind_at p n) v) ≡ v % 2 ^ room_at p n
  kept_is = go (kind_at p n) (eqb (code (kind_at p n)) (code PortKind)) refl (whole p) refl (way p ok n hn st)
    where
      full : eqb (room_at p n) 8 ≡ true → v ≡ v % 2 ^ room_at p n
      full e = sym (ap (λ (r : ℕ). v % 2 ^ r) (eqb-true (room_at p n) 8 e) ∙ mod-eq_of_lt hv)

      port : (k : Kind) → eqb (code k) (code PortKind) ≡ true → kept_as p k v ≡ v % 2 ^ p.ports
      port PortKind e = refl
      port Reserved e = clash false e refl
      port Input e = clash false e refl
      port Status e = clash false e refl
      port InputStatus e = clash false e refl
      port Configuration e = clash false e refl
      port Latch e = clash false e refl
      port Mask e = clash false e refl
      port Edge e = clash false e refl
      port Clear e = clash false e refl
      port Output e = clash false e refl
      port Polarity e = clash false e refl
      port PinKind e = clash false e refl
      port Stored e = clash false e refl

      go : (k : Kind) (b : Bool) → eqb (code k) (code PortKind) ≡ b → (t : Bool) → whole p ≡ t
          → cond b (eqb (room_at p n) p.ports) (not t || eqb (room_at p n) 8) ≡ true
          → cond t (kept_as p k v) (kept_as p k v % 2 ^ room_at p n) ≡ v % 2 ^ room_at p n
      go k true e true q f = port k e ∙ ap (λ (r : ℕ). v % 2 ^ r) (sym (eqb-true (room_at p n) p.ports f))
      go k true e false q f =
          let r : room_at p n ≡ p.ports = eqb-true (room_at p n) p.ports f in
          ap (λ (x : ℕ). x % 2 ^ room_at p n) (port k e ∙ ap (λ (r : ℕ). v % 2 ^ r) (sym r)) ∙ mod-mod v (2 ^ room_at p n)
      go k false e true q f = others_kept k e ∙ full f
      go k false e false q f = ap (λ (x : ℕ). x % 2 ^ room_at p n) (others_kept k e)

-- ---- words whose bits at n's place are those of v that exist, and which are the same elsewhere
module _ (p : Part) (ok : Sound p) (w w' : List ℕ) (n v : ℕ) (hn : n < 128) (st : stored (kind_at p n) ≡ true) (hv : v < 256)
    (here : (m : ℕ) → held_bit w' (slot_at p n) m ≡ cond (eqb (m / 8) (digit_at p n)) (bit v (m % 8) && ltb m (size_of p (slot_at p n))) (held_bit w (slot_at p n) m))
    (other : (s : ℕ) → (s ≡ slot_at p n → ⊥) → eqb s 9 ≡ false → eqb s 14 ≡ false → (m : ℕ) → held_bit w' s m ≡ held_bit w s m) where
  new_entry : entry_of p w' n ≡ v % 2 ^ room_at p n
  unfolding entry_of
  new_entry =
      ap (λ (t : Bool). cond t (byte_of (digit_at p n) (held_bit w' (slot_at p n))) 0) st
      ∙ tabulate_ext 8 (λ j h. here (8 * digit_at p n + j)
      ∙ ap₂ (λ (t : Bool) (x : ℕ). cond t (bit v x && ltb (8 * digit_at p n + j) (size_of p (slot_at p n))) (held_bit w (slot_at p n) (8 * digit_at p n + j)))
      (eq-eqb _ _ (div8 (digit_at p n) j h)) (mod8 (digit_at p n) j h))
      ∙ sym (low_bits v (digit_at p n) (size_of p (slot_at p n)) (room_at p n) hv (room_is p ok n hn))

  old_entry : (j : ℕ) → j < 128 → (j ≡ n → ⊥) → entry_of p w j ≡ entry_of p w' j
  unfolding entry_of
  old_entry j hj d = go (stored (kind_at p j)) refl
    where
      same_bits : stored (kind_at p j) ≡ true → (b : Bool) → eqb (slot_at p j) (slot_at p n) ≡ b → (i : ℕ) → i < 8
          → held_bit w (slot_at p j) (8 * digit_at p j + i) ≡ held_bit w' (slot_at p j) (8 * digit_at p j + i)
      same_bits sj false e i hi =
          sym (other (slot_at p j) (eqb-false _ _ e) (not_nine p ok j hj sj) (not_fourteen p ok j hj sj) (8 * digit_at p j + i))
      same_bits sj true e i hi =
          let q : slot_at p j ≡ slot_at p n = eqb-true _ _ e in
          let far : (8 * digit_at p j + i) / 8 ≡ digit_at p n → ⊥ =
          (λ z. d (sym (own_place p ok j hj sj) ∙ ap₂ (λ (s x : ℕ). base_of p s + x) q (sym (div8 (digit_at p j) i hi) ∙ z) ∙ own_place p ok n hn st)) in
          ap (λ (s : ℕ). held_bit w s (8 * digit_at p j + i)) q
          ∙ sym (here (8 * digit_at p j + i)
          ∙ ap (λ (t : Bool). cond t (bit v ((8 * digit_at p j + i) % 8) && ltb (8 * digit_at p j + i) (size_of p (slot_at p n))) (held_bit w (slot_at p n) (8 * digit_at p j + i)))
          (ne_eqb _ _ far))
          ∙ ap (λ (s : ℕ). held_bit w' s (8 * digit_at p j + i)) (sym q)

      go : (t : Bool) → stored (kind_at p j) ≡ t
          → cond t (byte_of (digit_at p j) (held_bit w (slot_at p j))) 0 ≡ cond t (byte_of (digit_at p j) (held_bit w' (slot_at p j))) 0
      go true e = tabulate_ext 8 (λ i h. same_bits e (eqb (slot_at p j) (slot_at p n)) refl i h)
      go false e = refl

  pub file_written : set (file_of p w) n (kept_in p n (kept_as p (kind_at p n) v)) ≡ file_of p w'
  unfolding file_of
  file_written =
      set_entries (entry_of p w) (entry_of p w') (kept_in p n (kept_as p (kind_at p n) v)) 0 128 n
      (ap (entry_of p w') (zero-add n) ∙ new_entry ∙ sym (kept_is p ok n v hn st hv))
      (λ j h d. ap (entry_of p w) (zero-add j) ∙ old_entry j h d ∙ ap (entry_of p w') (sym (zero-add j)))

-- bit m of two bits a pin is the pin m / 2's
fourth : (m : ℕ) → m / 2 / 4 ≡ m / 8
fourth m =
    let a : m % 2 < 2 = mod-lt m (omega arith) in
    let b : m / 2 % 4 < 4 = mod-lt (m / 2) (omega arith) in
    let c : m % 8 < 8 = mod-lt m (omega arith) in
    omega (arith, div-add-mod' m 2, div-add-mod' (m / 2) 4, div-add-mod' m 8)

field : (m : ℕ) → 2 * (m / 2 % 4) + m % 2 ≡ m % 8
field m = omega (arith, fourth m, div-add-mod' m 2, div-add-mod' (m / 2) 4, div-add-mod' m 8)

within_too : (m w : ℕ) → ltb (m / 2) w ≡ ltb m (2 * w)
within_too m w = go (ltb (m / 2) w) refl
  where
    h : m % 2 < 2
    h = mod-lt m (omega arith)

    go : (t : Bool) → ltb (m / 2) w ≡ t → t ≡ ltb m (2 * w)
    go true q = sym (lt-ltb m (2 * w) (omega (arith, ltb-true (m / 2) w q, div-add-mod' m 2)))
    go false q = sym (le-ltb m (2 * w) (omega (arith, ltb-false (m / 2) w q, div-add-mod' m 2)))

-- ---- the words themselves: where bit m of what is kept from word s on stands
abbrev seat : (s m : ℕ) → ℕ
seat s m = cond (paired s) (s + m % 2) s

seat_case : (P : ℕ → Type 0) (s m : ℕ) → P s → ((s ≡ 8) → P (s + 1)) → ((s ≡ 13) → P (s + 1)) → P (seat s m)
seat_case P s m z f g = go (eqb s 8) refl (eqb s 13) refl
  where
    h : m % 2 < 2
    h = mod-lt m (omega arith)

    odd : P (s + 1) → (r : ℕ) → r < 2 → P (s + r)
    odd q zero l = rw add-zero z
    odd q (suc zero) l = q
    odd q (suc (suc r)) l = absurd (omega arith)

    go : (a : Bool) → eqb s 8 ≡ a → (b : Bool) → eqb s 13 ≡ b → P (cond (a || b) (s + m % 2) s)
    go true q b r = odd (f (eqb-true s 8 q)) (m % 2) h
    go false q true r = odd (g (eqb-true s 13 r)) (m % 2) h
    go false q false r = z

held_is : (w : List ℕ) (s m : ℕ) → held_bit w s m ≡ bit (get_or w (seat s m) 0) (cond (paired s) (m / 2) m)
unfolding held_bit
held_is w s m = go (paired s)
  where
    go : (t : Bool) → cond t (bit (get_or w (s + m % 2) 0) (m / 2)) (bit (get_or w s 0) m) ≡ bit (get_or w (cond t (s + m % 2) s) 0) (cond t (m / 2) m)
    go true = refl
    go false = refl

-- the file is what the words from 4 to 18 say
pub file_beside : (p : Part) (ok : Sound p) (w w' : List ℕ) → ((s : ℕ) → 3 < s → s < 19 → get_or w' s 0 ≡ get_or w s 0) → file_of p w' ≡ file_of p w
unfolding file_of entry_of
file_beside p ok w w' q = entries_ext (entry_of p w') (entry_of p w) 0 128 (λ j h. ap (entry_of p w') (zero-add j) ∙ go j h (stored (kind_at p j)) refl ∙ ap (entry_of p w) (sym (zero-add j)))
  where
    same : (j : ℕ) → j < 128 → stored (kind_at p j) ≡ true → (m : ℕ) → held_bit w' (slot_at p j) m ≡ held_bit w (slot_at p j) m
    same j h st m =
        let there : (3 < seat (slot_at p j) m) × (seat (slot_at p j) m < 19) =
        seat_case (λ x. (3 < x) × (x < 19)) (slot_at p j) m (word_high p ok j h st, word_held p ok j h st) (λ e. (omega (arith, e), omega (arith, e))) (λ e. (omega (arith, e), omega (arith, e))) in
        held_is w' (slot_at p j) m
        ∙ ap (λ (y : ℕ). bit y (cond (paired (slot_at p j)) (m / 2) m)) (q (seat (slot_at p j) m) there.0 there.1)
        ∙ sym (held_is w (slot_at p j) m)

    go : (j : ℕ) → j < 128 → (t : Bool) → stored (kind_at p j) ≡ t
        → cond t (byte_of (digit_at p j) (held_bit w' (slot_at p j))) 0 ≡ cond t (byte_of (digit_at p j) (held_bit w (slot_at p j))) 0
    go j h true st = tabulate_ext 8 (λ i l. same j h st (8 * digit_at p j + i))
    go j h false st = refl

-- a word that is no pair's second is apart from the others
apart : (s s' m : ℕ) → eqb s 9 ≡ false → eqb s 14 ≡ false → (s' ≡ s → ⊥) → seat s' m ≡ s → ⊥
apart s s' m a b d = seat_case (λ x. x ≡ s → ⊥) s' m d (λ q e. eqb-false s 9 a (omega (arith, q, e))) (λ q e. eqb-false s 14 b (omega (arith, q, e)))

-- and so is a pair's second
apart_second : (s s' m : ℕ) → paired s ≡ true → eqb s' 9 ≡ false → eqb s' 14 ≡ false → (s' ≡ s → ⊥) → seat s' m ≡ s + 1 → ⊥
apart_second s s' m t a b d =
    seat_case (λ x. x ≡ s + 1 → ⊥) s' m (second s' refl)
    (λ q e. d (omega (arith, e))) (λ q e. d (omega (arith, e)))
  where
    second : (x : ℕ) → x ≡ s' → x ≡ s + 1 → ⊥
    second x z e = go (eqb s 8) refl (eqb s 13) refl t
      where
        go : (a : Bool) → eqb s 8 ≡ a → (b : Bool) → eqb s 13 ≡ b → (a || b) ≡ true → ⊥
        go true q b r h = eqb-false s' 9 a (omega (arith, eqb-true s 8 q, e, z))
        go false q true r h = eqb-false s' 14 b (omega (arith, eqb-true s 13 r, e, z))
        go false q false r h = clash false h refl

module _ (p : Part) (ok : Sound p) (w : List ℕ) (n v : ℕ) (hn : n < 128) (st : stored (kind_at p n) ≡ true) (hv : v < 256) (full : length w ≡ 28) where
  -- a group that is kept in one word
  pub one_word : paired (slot_at p n) ≡ false → (x : ℕ)
      → ((m : ℕ) → bit x m ≡ cond (eqb (m / 8) (digit_at p n)) (bit v (m % 8) && ltb m (size_of p (slot_at p n))) (bit (get_or w (slot_at p n) 0) m))
      → set (file_of p w) n (kept_in p n (kept_as p (kind_at p n) v)) ≡ file_of p (set w (slot_at p n) x)
  unfolding held_bit
  one_word alone x q = file_written p ok w (set w (slot_at p n) x) n v hn st hv here other
    where
      inside : slot_at p n < length w
      inside = omega (arith, full, word_held p ok n hn st)

      lone : (l : List ℕ) (m : ℕ) → held_bit l (slot_at p n) m ≡ bit (get_or l (slot_at p n) 0) m
      lone l m = ap (λ (t : Bool). cond t (bit (get_or l (slot_at p n + m % 2) 0) (m / 2)) (bit (get_or l (slot_at p n) 0) m)) alone

      here : (m : ℕ) → held_bit (set w (slot_at p n) x) (slot_at p n) m
          ≡ cond (eqb (m / 8) (digit_at p n)) (bit v (m % 8) && ltb m (size_of p (slot_at p n))) (held_bit w (slot_at p n) m)
      here m =
          lone (set w (slot_at p n) x) m ∙ ap (λ (y : ℕ). bit y m) (get_or-set_same w (slot_at p n) x 0 inside) ∙ q m
          ∙ ap (λ (b : Bool). cond (eqb (m / 8) (digit_at p n)) (bit v (m % 8) && ltb m (size_of p (slot_at p n))) b) (sym (lone w m))

      other : (s : ℕ) → (s ≡ slot_at p n → ⊥) → eqb s 9 ≡ false → eqb s 14 ≡ false → (m : ℕ) → held_bit (set w (slot_at p n) x) s m ≡ held_bit w s m
      other s d a b m =
          held_is (set w (slot_at p n) x) s m
          ∙ ap (λ (y : ℕ). bit y (cond (paired s) (m / 2) m))
          (get_or-set_other w (slot_at p n) (seat s m) x 0 (apart (slot_at p n) s m (not_nine p ok n hn st) (not_fourteen p ok n hn st) d))
          ∙ sym (held_is w s m)

  -- a group that is kept in two words: the low bits of its fields in one, the high bits in the next
  pub two_words : paired (slot_at p n) ≡ true → (a b : ℕ)
      → ((i : ℕ) → bit a i ≡ cond (eqb (i / 4) (digit_at p n)) (bit v (2 * (i % 4)) && ltb i p.width) (bit (get_or w (slot_at p n) 0) i))
      → ((i : ℕ) → bit b i ≡ cond (eqb (i / 4) (digit_at p n)) (bit v (2 * (i % 4) + 1) && ltb i p.width) (bit (get_or w (slot_at p n + 1) 0) i))
      → set (file_of p w) n (kept_in p n (kept_as p (kind_at p n) v)) ≡ file_of p (set (set w (slot_at p n) a) (slot_at p n + 1) b)
  unfolding held_bit
  two_words two a b qa qb = file_written p ok w w' n v hn st hv here other
    where
      w' : List ℕ
      w' = set (set w (slot_at p n) a) (slot_at p n + 1) b

      inside : slot_at p n + 1 < 19
      inside = go (eqb (slot_at p n) 8) refl (eqb (slot_at p n) 13) refl two
        where
          go : (a : Bool) → eqb (slot_at p n) 8 ≡ a → (b : Bool) → eqb (slot_at p n) 13 ≡ b → (a || b) ≡ true → slot_at p n + 1 < 19
          go true q b r h = omega (arith, eqb-true (slot_at p n) 8 q)
          go false q true r h = omega (arith, eqb-true (slot_at p n) 13 r)
          go false q false r h = clash false h refl

      first : get_or w' (slot_at p n) 0 ≡ a
      first =
          get_or-set_other (set w (slot_at p n) a) (slot_at p n + 1) (slot_at p n) b 0 (λ e. omega (arith, e))
          ∙ get_or-set_same w (slot_at p n) a 0 (omega (arith, full, inside))

      second : get_or w' (slot_at p n + 1) 0 ≡ b
      second = get_or-set_same (set w (slot_at p n) a) (slot_at p n + 1) b 0 (simp length-set (omega (arith, full, inside)))

      -- the low bits, or the high ones
      half : (r : ℕ) → r < 2 → (i : ℕ)
          → bit (get_or w' (slot_at p n + r) 0) i ≡ cond (eqb (i / 4) (digit_at p n)) (bit v (2 * (i % 4) + r) && ltb i p.width) (bit (get_or w (slot_at p n + r) 0) i)
      half zero h i = simp add-zero (ap (λ (y : ℕ). bit y i) first ∙ qa i)
      half (suc zero) h i = ap (λ (y : ℕ). bit y i) second ∙ qb i
      half (suc (suc r)) h i = absurd (omega arith)

      twice : (l : List ℕ) (m : ℕ) → held_bit l (slot_at p n) m ≡ bit (get_or l (slot_at p n + m % 2) 0) (m / 2)
      twice l m = ap (λ (t : Bool). cond t (bit (get_or l (slot_at p n + m % 2) 0) (m / 2)) (bit (get_or l (slot_at p n) 0) m)) two

      here : (m : ℕ) → held_bit w' (slot_at p n) m
          ≡ cond (eqb (m / 8) (digit_at p n)) (bit v (m % 8) && ltb m (size_of p (slot_at p n))) (held_bit w (slot_at p n) m)
      here m =
          let z : size_of p (slot_at p n) ≡ 2 * p.width = ap (λ (t : Bool). cond t (2 * p.width) (wide_of p (slot_at p n))) two in
          twice w' m ∙ half (m % 2) (mod-lt m (omega arith)) (m / 2) ∙ cc (fourth m, field m, within_too m p.width, z, twice w m)

      other : (s : ℕ) → (s ≡ slot_at p n → ⊥) → eqb s 9 ≡ false → eqb s 14 ≡ false → (m : ℕ) → held_bit w' s m ≡ held_bit w s m
      other s d a₁ b₁ m =
          held_is w' s m
          ∙ ap (λ (y : ℕ). bit y (cond (paired s) (m / 2) m))
          (get_or-set_other (set w (slot_at p n) a) (slot_at p n + 1) (seat s m) b 0 (apart_second (slot_at p n) s m two a₁ b₁ d)
          ∙ get_or-set_other w (slot_at p n) (seat s m) a 0 (apart (slot_at p n) s m (not_nine p ok n hn st) (not_fourteen p ok n hn st) d))
          ∙ sym (held_is w s m)
