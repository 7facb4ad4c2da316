-- What the file that the words stand for says of a pin, is what the words say. For every part whose map is sound. Assumes nothing.
use mathlib.Core.Path.{◌≡◌, refl, sym, ap, ap₂, ◌∙◌}
use mathlib.Core.Bool.{Bool, true, false, cond}
use mathlib.Core.List.{List}
use Prim.Native.Nat.{ℕ, ◌+◌, ◌*◌, ◌/◌, ◌%◌, ◌<◌}
use native.Mathlib.Nat.{div-add-mod', mod-lt, zero-add, add-zero}
use native.Mathlib.Omega.{arith}
use lib.Arith.{digits_div, digits_mod}
use lib.ListN.{get_or}
use Rattle.bits.specs.Bits.{bit}
use Rattle.bits.proofs.Laws.{bit_tabulate}
use Rattle.ports.specs.Ports.{byte_of, rising_bit, falling_bit}
use Rattle.map.specs.Map.{Part, Kind, first_of, code}
use Rattle.map.specs.Map.Kind.{Configuration, Latch, Mask, PortKind, Edge, Output, Polarity, PinKind}
use Rattle.registers.specs.Registers.{group_bit, edge_byte, registers_at}
use Rattle.words.specs.Words.{slot_at, digit_at, held_bit, entry_of, file_of, paired, words_at}
use Rattle.words.proofs.Entries.{entry_at}
use Rattle.words.proofs.Sound.{Sound, single, count_of, number_there, stored_there, word_there, place_there}

module _ (p : Part) (ok : Sound p) (w : List ℕ) where
  pub file_entry : (n : ℕ) → n < 128 → get_or (file_of p w) n 0 ≡ entry_of p w n
  unfolding file_of
  file_entry n h = entry_at (entry_of p w) 0 128 n h ∙ ap (entry_of p w) (zero-add n)

  -- bit b of register j of kind k
  pub kind_bit : (k : Kind) → single k ≡ true → (j : ℕ) → j < count_of p k → j < 16 → (b : ℕ) → b < 8
      → bit (get_or (file_of p w) (first_of p k + j) 0) b ≡ held_bit w (code k) (8 * j + b)
  unfolding entry_of
  kind_bit k one j hj few b hb =
      ap (λ (x : ℕ). bit x b)
      (file_entry (first_of p k + j) (number_there p ok k one j hj few)
      ∙ ap (λ (t : Bool). cond t (byte_of (digit_at p (first_of p k + j)) (held_bit w (slot_at p (first_of p k + j)))) 0) (stored_there p ok k one j hj few)
      ∙ ap₂ (λ (d s : ℕ). byte_of d (held_bit w s)) (place_there p ok k one j hj few) (word_there p ok k one j hj few))
      ∙ bit_tabulate 8 (λ i. held_bit w (code k) (8 * j + i)) b hb

  module _ (i : ℕ) (hi : i < 8 * p.ports) where
    port_few : i / 8 < p.ports
    port_few = omega (arith, div-add-mod' i 8)

    -- a group of one byte a port
    pub group_read : (k : Kind) → single k ≡ true → count_of p k ≡ p.ports → paired (code k) ≡ false → group_bit p (file_of p w) k i ≡ bit (get_or w (code k) 0) i
    unfolding held_bit
    group_read k one count alone =
        let m : i % 8 < 8 = mod-lt i (omega arith) in
        let q : 8 * (i / 8) + i % 8 ≡ i = omega (arith, div-add-mod' i 8) in
        let l : i / 8 < count_of p k = omega (arith, count, port_few) in
        kind_bit k one (i / 8) l (omega (arith, port_few, ok.port_few)) (i % 8) m
        ∙ ap (λ (t : Bool). cond t (bit (get_or w (code k + (8 * (i / 8) + i % 8) % 2) 0) ((8 * (i / 8) + i % 8) / 2)) (bit (get_or w (code k) 0) (8 * (i / 8) + i % 8))) alone
        ∙ ap (bit (get_or w (code k) 0)) q

    -- the port kind
    pub kind_read : bit (get_or (file_of p w) (first_of p PortKind) 0) (i / 8) ≡ bit (get_or w 7 0) (i / 8)
    unfolding held_bit
    kind_read =
        ap (λ (x : ℕ). bit (get_or (file_of p w) x 0) (i / 8)) (sym (add-zero (first_of p PortKind)))
        ∙ kind_bit PortKind refl 0 (omega arith) (omega arith) (i / 8) (omega (arith, port_few, ok.port_few))
        ∙ ap (bit (get_or w 7 0)) (zero-add (i / 8))

  module _ (i : ℕ) (hi : i < p.width) where
    edge_few : i / 4 < (2 * p.width + 7) / 8
    edge_few =
        let r : (2 * p.width + 7) % 8 < 8 = mod-lt (2 * p.width + 7) (omega arith) in
        omega (arith, div-add-mod' i 4, div-add-mod' (2 * p.width + 7) 8)

    inside : i < 8 * p.ports
    inside = omega (arith, ok.narrow)

    -- the edge fields
    edge_bit : (b : ℕ) → b < 2 → i / 4 < 16 → bit (edge_byte p (file_of p w) i) (2 * (i % 4) + b) ≡ bit (get_or w (8 + b) 0) i
    unfolding held_bit
    edge_bit b hb few =
        let m : i % 4 < 4 = mod-lt i (omega arith) in
        let q : 8 * (i / 4) + (2 * (i % 4) + b) ≡ i * 2 + b = omega (arith, div-add-mod' i 4) in
        kind_bit Edge refl (i / 4) edge_few few (2 * (i % 4) + b) (omega arith)
        ∙ ap (λ (x : ℕ). bit (get_or w (8 + x % 2) 0) (x / 2)) q
        ∙ ap₂ (λ (x y : ℕ). bit (get_or w (8 + x) 0) y) (digits_mod i hb) (digits_div i hb)

    edge_small : i / 4 < 16
    edge_small = omega (arith, div-add-mod' i 4, ok.narrow, ok.port_few)

    pub rising_read : rising_bit (edge_byte p (file_of p w) i) i ≡ bit (get_or w 8 0) i
    rising_read = ap (bit (edge_byte p (file_of p w) i)) (sym (add-zero (2 * (i % 4)))) ∙ edge_bit 0 (omega arith) edge_small

    pub falling_read : falling_bit (edge_byte p (file_of p w) i) i ≡ bit (get_or w 9 0) i
    falling_read = edge_bit 1 (omega arith) edge_small

    pub registers_read : registers_at p (file_of p w) i ≡ words_at w i
    registers_read = λ j. record {
      source = record {
        configuration = group_read i inside Configuration refl refl refl j;
        mask = group_read i inside Mask refl refl refl j;
        latch = group_read i inside Latch refl refl refl j;
        rising = rising_read j;
        falling = falling_read j;
      };
      output = group_read i inside Output refl refl refl j;
      polarity = group_read i inside Polarity refl refl refl j;
      port_kind = kind_read i inside j;
      pin_kind = group_read i inside PinKind refl refl refl j;
    }
