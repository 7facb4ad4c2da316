-- What the file shows is what the words show: pin by pin, and byte by byte. Assumes nothing.
use mathlib.Core.Path.{◌≡◌, refl, sym, ap, ap₂, ◌∙◌}
use mathlib.Core.Bool.{Bool, true, false, cond}
use mathlib.Core.List.{List}
use Prim.Native.Nat.{ℕ, zero, suc, ◌+◌, ◌-◌, ◌*◌, ◌/◌, ◌%◌, ◌^◌, ◌<◌}
use native.Mathlib.Nat.{div-add-mod', mod-lt}
use native.Mathlib.Omega.{arith}
use lib.Arith.{digits_div, digits_mod}
use lib.Bits.{bit_and, bit_or}
use lib.Dec.{eqb}
use lib.ListN.{get_or}
use Rattle.bits.specs.Bits.{bit, tabulate}
use Rattle.bits.proofs.Decide.{each}
use Rattle.bits.proofs.Laws.{bit_tabulate, tabulate_ext}
use Rattle.bits.proofs.Join.{digit_of_lem}
use Rattle.pins.specs.Pin.{input_bit}
use Rattle.pins.specs.AllPins.{pin_at}
use Rattle.pins.specs.OnePin.{input_of}
use Rattle.ports.specs.Ports.{byte_of}
use Rattle.map.specs.Map.{Part, Kind, kind_at, first_of, stored, code}
use Rattle.map.specs.Map.Kind.{Reserved, Input, Status, InputStatus, Configuration, Latch, Mask, PortKind, Edge, Clear, Output, Polarity, PinKind, Stored}
use Rattle.registers.specs.Registers.{one_pin, shown_as, shown}
use Rattle.registers.specs.Interrupt.{shown_kept}
use Rattle.words.specs.Words.{slot_at, digit_at, held_bit, entry_of, paired, sets_in, interrupt_in, core_in, pin_in, zipped}
use Rattle.words.proofs.Sound.{Sound, grouped, place_is, place_ported}
use Rattle.words.proofs.Reading.{file_entry, group_read, kind_read, registers_read}

-- ---- pins
module _ (p : Part) (ok : Sound p) (w : List ℕ) (i : ℕ) where
  pub one_pin_lem : i < p.width → one_pin p (core_in p w) i ≡ pin_in w i
  one_pin_lem h = λ j. record { registers = registers_read p ok w i h j; pin = pin_at (sets_in w) i }

  -- the input port bit, also of a pin that does not exist
  pub input_read : i < 8 * p.ports → input_of (one_pin p (core_in p w) i) ≡ input_of (pin_in w i)
  input_read h = λ j.
      input_bit (group_read p ok w i h Configuration refl refl refl j) (group_read p ok w i h Latch refl refl refl j) (group_read p ok w i h Polarity refl refl refl j)
      (kind_read p ok w i h j) (group_read p ok w i h PinKind refl refl refl j) (pin_at (sets_in w) i)

-- ---- bytes
half : (k j : ℕ) → j < 8 → ((8 * k + j) % 2 ≡ j % 2) × ((8 * k + j) / 2 ≡ 4 * k + j / 2)
half k j h =
    let a : j % 2 < 2 = mod-lt j (omega arith) in
    let b : (8 * k + j) % 2 < 2 = mod-lt (8 * k + j) (omega arith) in
    let q : (8 * k + j) / 2 ≡ 4 * k + j / 2 = omega (arith, div-add-mod' j 2, div-add-mod' (8 * k + j) 2) in
    (omega (arith, q, div-add-mod' j 2, div-add-mod' (8 * k + j) 2), q)

-- the code's byte of two half bytes
abbrev zip_code : (lo hi : ℕ) → ℕ
zip_code lo hi =
    bit_or (bit_or (bit_or (bit_or (bit_or (bit_or (bit_or (bit_and lo 1) (bit_and lo 2 * 2 ^ 1 % 2 ^ 8)) (bit_and lo 4 * 2 ^ 2 % 2 ^ 8)) (bit_and lo 8 * 2 ^ 3 % 2 ^ 8))
    (bit_and hi 1 * 2 ^ 1 % 2 ^ 8)) (bit_and hi 2 * 2 ^ 2 % 2 ^ 8)) (bit_and hi 4 * 2 ^ 3 % 2 ^ 8)) (bit_and hi 8 * 2 ^ 4 % 2 ^ 8)

zip_all : (b : ℕ) → b < 256 → zip_code (b % 16) (b / 16) ≡ zipped (b % 16) (b / 16)
unfolding bit tabulate
zip_all = each 256 _ _ tt

pub zip_right : (lo hi : ℕ) → lo < 16 → hi < 16 → zip_code lo hi ≡ zipped lo hi
zip_right lo hi hl hh = rw (digits_mod hi hl, digits_div hi hl) at (zip_all (hi * 16 + lo) (omega arith))

module _ (p : Part) (ok : Sound p) (n : ℕ) (hn : n < 128) (w : List ℕ) where
  -- where nothing is stored
  pub no_entry : stored (kind_at p n) ≡ false → 0 ≡ entry_of p w n
  unfolding entry_of
  no_entry st = sym (ap (λ (t : Bool). cond t (byte_of (digit_at p n) (held_bit w (slot_at p n))) 0) st)

  shown_as_lem : (k : Kind) → kind_at p n ≡ k → (code k ≡ 1 → ⊥) → (code k ≡ 2 → ⊥) → (code k ≡ 3 → ⊥) → entry_of p w n ≡ shown_as p k (core_in p w) n
  unfolding shown_as
  shown_as_lem Input e a b c = absurd (a refl)
  shown_as_lem Status e a b c = absurd (b refl)
  shown_as_lem InputStatus e a b c = absurd (c refl)
  shown_as_lem Reserved e a b c = sym (no_entry (ap stored e))
  shown_as_lem Clear e a b c = sym (no_entry (ap stored e))
  shown_as_lem Configuration e a b c = sym (file_entry p ok w n hn)
  shown_as_lem Latch e a b c = sym (file_entry p ok w n hn)
  shown_as_lem Mask e a b c = sym (file_entry p ok w n hn)
  shown_as_lem PortKind e a b c = sym (file_entry p ok w n hn)
  shown_as_lem Edge e a b c = sym (file_entry p ok w n hn)
  shown_as_lem Output e a b c = sym (file_entry p ok w n hn)
  shown_as_lem Polarity e a b c = sym (file_entry p ok w n hn)
  shown_as_lem PinKind e a b c = sym (file_entry p ok w n hn)
  shown_as_lem Stored e a b c = sym (file_entry p ok w n hn)

  -- a kind that shows no pins shows what is stored
  pub entry_shown : (code (kind_at p n) ≡ 1 → ⊥) → (code (kind_at p n) ≡ 2 → ⊥) → (code (kind_at p n) ≡ 3 → ⊥) → entry_of p w n ≡ shown p (core_in p w) n
  entry_shown = shown_as_lem (kind_at p n) refl

  module _ (st : stored (kind_at p n) ≡ true) (s : ℕ) (es : s ≡ slot_at p n) (d : ℕ) (ed : d ≡ digit_at p n) where
    entry_is : byte_of d (held_bit w s) ≡ entry_of p w n
    unfolding entry_of
    entry_is =
        ap₂ (λ (d s : ℕ). byte_of d (held_bit w s)) ed es
        ∙ ap (λ (t : Bool). cond t (byte_of (digit_at p n) (held_bit w (slot_at p n))) 0) (sym st)

    pub one_byte : paired s ≡ false → {b : ℕ} → b ≡ byte_of d (bit (get_or w s 0)) → b ≡ entry_of p w n
    unfolding held_bit
    one_byte e q = q ∙ tabulate_ext 8 (λ j h. sym (ap (λ (t : Bool). cond t (bit (get_or w (s + (8 * d + j) % 2) 0) ((8 * d + j) / 2)) (bit (get_or w s 0) (8 * d + j))) e)) ∙ entry_is

    pub two_byte : paired s ≡ true → (lo hi : ℕ) → lo ≡ bit_and (get_or w s 0 / 2 ^ (4 * d)) 15 → hi ≡ bit_and (get_or w (s + 1) 0 / 2 ^ (4 * d)) 15
        → {b : ℕ} → b ≡ zipped lo hi → b ≡ entry_of p w n
    unfolding held_bit
    two_byte e lo hi ql qh q = q ∙ tabulate_ext 8 each_bit ∙ entry_is
      where
        nibble : (r x : ℕ) → x ≡ bit_and (get_or w (s + r) 0 / 2 ^ (4 * d)) 15 → (i : ℕ) → i < 4 → bit x i ≡ bit (get_or w (s + r) 0) (4 * d + i)
        nibble r x e i h = ap (λ (y : ℕ). bit y i) (e ∙ digit_of_lem 4 (get_or w (s + r) 0) (4 * d)) ∙ bit_tabulate 4 (λ j. bit (get_or w (s + r) 0) (4 * d + j)) i h

        side : (r : ℕ) → r < 2 → (i : ℕ) → i < 4 → bit (cond (eqb r 0) lo hi) i ≡ bit (get_or w (s + r) 0) (4 * d + i)
        side zero h i hi' = nibble 0 lo (ql ∙ ap (λ (z : ℕ). bit_and (get_or w z 0 / 2 ^ (4 * d)) 15) (omega arith)) i hi'
        side (suc zero) h i hi' = nibble 1 hi qh i hi'
        side (suc (suc r)) h i hi' = absurd (omega arith)

        each_bit : (j : ℕ) → j < 8 → bit (cond (eqb (j % 2) 0) lo hi) (j / 2) ≡ held_bit w s (8 * d + j)
        each_bit j h =
            side (j % 2) (mod-lt j (omega arith)) (j / 2) (omega (arith, div-add-mod' j 2))
            ∙ ap₂ (λ (r i : ℕ). bit (get_or w (s + r) 0) i) (sym (half d j h).0) (sym (half d j h).1)
            ∙ ap (λ (t : Bool). cond t (bit (get_or w (s + (8 * d + j) % 2) 0) ((8 * d + j) / 2)) (bit (get_or w s 0) (8 * d + j))) (sym e)

  -- a kind that shows pins
  pub shown_port : (k : Kind) → kind_at p n ≡ k → grouped k ≡ true → eqb (code k) (code Edge) ≡ false → (d : ℕ) → d ≡ digit_at p n → (f : ℕ → Bool)
      → byte_of (n - first_of p k) f ≡ shown_as p k (core_in p w) n
      → (s : ℕ) → ((i : ℕ) → i < 8 * p.ports → bit s i ≡ f i) → {b : ℕ} → b ≡ byte_of d (bit s) → b ≡ shown p (core_in p w) n
  shown_port k e g z d ed f r s h q =
      let l : digit_at p n < p.ports = place_ported p ok n hn k e g z in
      q ∙ tabulate_ext 8 (λ j m. h (8 * d + j) (omega (arith, ed, l)))
      ∙ ap (λ (d : ℕ). byte_of d f) (ed ∙ place_is p ok n hn k e g) ∙ r ∙ ap (λ (k : Kind). shown_as p k (core_in p w) n) (sym e)

  -- what is kept of the interrupt is shown as interrupt status, and there alone
  pub shown_else : eqb (code (kind_at p n)) (code Status) ≡ false → {b : ℕ} → b ≡ shown p (core_in p w) n → b ≡ shown_kept p (kind_at p n) (core_in p w) (interrupt_in w) n
  unfolding shown_kept
  shown_else z q = simp z q

  pub shown_status : kind_at p n ≡ Status → (d : ℕ) → d ≡ digit_at p n → {b : ℕ} → b ≡ byte_of d (bit (get_or w 19 0))
      → b ≡ shown_kept p (kind_at p n) (core_in p w) (interrupt_in w) n
  unfolding shown_kept
  shown_status e d ed q = simp e (q ∙ ap (λ (d : ℕ). byte_of d (bit (get_or w 19 0))) (ed ∙ place_is p ok n hn Status e refl))
