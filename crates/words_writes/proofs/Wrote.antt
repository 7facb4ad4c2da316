-- The words that a write leaves hold the register file and the pins that the rules say: what is stored by `Storing`, what moves by `Moving`. Assumes nothing.
use mathlib.Core.Path.{◌≡◌, refl, sym, ap, ◌∙◌}
use mathlib.Core.Bool.{Bool, true, false, cond, ◌&&◌}
use mathlib.Core.List.{List}
use Prim.Native.Nat.{ℕ, ◌+◌, ◌-◌, ◌<◌}
use native.Mathlib.Omega.{arith}
use borrow.Author.Tests.{lt-ltb}
use lib.Dec.{eqb, ltb}
use lib.ListN.{get_or, set}
use lib.Seq.{get_or-set_other}
use Rattle.bits.specs.Bits.{bit}
use Rattle.bits.proofs.Decide.{clash}
use Rattle.pins.specs.Pin.{Pin, only}
use Rattle.pins.specs.AllPins.{map_pins}
use Rattle.pins.specs.OnePin.{Happening, pin_after}
use Rattle.pins.specs.OnePin.Happening.{Elsewhere}
use Rattle.ports.specs.Ports.{in_port, port_bit, in_edge, rising_bit, falling_bit}
use Rattle.map.specs.Map.{Part, Kind, kind_at, first_of, code, stored, kept_in, part_of}
use Rattle.registers.specs.Registers.{core, kept_as, written, written_to}
use Rattle.words.specs.Words.{slot_at, digit_at, paired, file_of, stored_in, wide_of, sets_in, with_sets, core_in, words_at, merged_at, merged_pair, Fit, Holds}
use Rattle.words.proofs.Sound.{Sound, sound, grouped, single, word_held, word_high}
use Rattle.words.proofs.Moving.{still, unmoved_by, moved_by}
use Rattle.words.proofs.Storing.{pair_case, wrote_one, fit_one, wrote_two, fit_two}
use Rattle.words_rows.specs.Rows.{rule_at}
use Rattle.words_rows.proofs.Taken.{its_kind, its_word}
use Rattle.words.proofs.Holding.{within, pin_word, holds_written, holds_kept, holds_stored}

-- a bit of the written byte at a pin that it holds
there : (h : Bool) {b a l : Bool} → b ≡ (h && (a && l)) → l ≡ true → h ≡ true → b ≡ a
there true {b} {a} e q t = e ∙ ap (λ (l : Bool). a && l) q ∙ and_true a
  where
    and_true : (a : Bool) → (a && true) ≡ a
    and_true true = refl
    and_true false = refl
there false e q t = clash false t refl

module _ (p : Part) (ok : Sound p) (w : List ℕ) (fit : Fit p w) (n v : ℕ) (hn : n < 128) (hv : v < 256) where
  unstored : stored (kind_at p n) ≡ false → file_of p w ≡ cond (stored (kind_at p n)) (set (file_of p w) n (kept_in p n (kept_as p (kind_at p n) v))) (file_of p w)
  unstored st = sym (ap (λ (b : Bool). cond b (set (file_of p w) n (kept_in p n (kept_as p (kind_at p n) v))) (file_of p w)) st)

  pub nothing_kept : stored (kind_at p n) ≡ false → Holds p w w (core (stored_in p w n v) (sets_in w))
  nothing_kept st = holds_kept p ok w w n v hn fit fit (unstored st) (λ s h. refl) (λ s h. refl)

  -- nothing stored, nothing moved
  pub nothing_wrote : stored (kind_at p n) ≡ false → still (kind_at p n) ≡ true → Holds p w w (written p (core_in p w) n v)
  nothing_wrote st t =
      holds_stored p ok w w n v hn fit fit (unstored st) (λ s h. refl) (λ s h. refl) (unmoved_by p ok w (sets_in w) n v hn (within p ok w fit) t)

  module _ (st : stored (kind_at p n) ≡ true) (s : ℕ) (es : s ≡ slot_at p n) where
    there_after : (x t : ℕ) → 18 < t → get_or (set w s x) t 0 ≡ get_or w t 0
    there_after x t h = get_or-set_other w s t x 0 (λ e. omega (arith, e, es, word_held p ok n hn st))

    there_before : (x t : ℕ) → t < 4 → get_or (set w s x) t 0 ≡ get_or w t 0
    there_before x t h = get_or-set_other w s t x 0 (λ e. omega (arith, e, es, word_high p ok n hn st))

    -- one byte of a word
    module _ (one : paired s ≡ false) (here on : ℕ) (hh : (i : ℕ) → bit here i ≡ in_port (digit_at p n) i)
        (ho_slot : (i : ℕ) → bit on i ≡ (in_port (digit_at p n) i && (port_bit v i && ltb i (wide_of p (slot_at p n))))) where
      ho : (i : ℕ) → bit on i ≡ (in_port (digit_at p n) i && (port_bit v i && ltb i (wide_of p s)))
      ho i = ho_slot i ∙ ap (λ (t : ℕ). in_port (digit_at p n) i && (port_bit v i && ltb i (wide_of p t))) (sym es)

      pub byte_kept : Holds p w (merged_at w s here on) (core (stored_in p w n v) (sets_in w))
      byte_kept =
          holds_kept p ok w (merged_at w s here on) n v hn fit (fit_one p ok n v s hn hv w fit st es one here on hh ho)
          (wrote_one p ok n v s hn hv w fit st es one here on hh ho) (there_after _) (there_before _)

      pub byte_wrote : still (kind_at p n) ≡ true → Holds p w (merged_at w s here on) (written p (core_in p w) n v)
      byte_wrote t =
          holds_stored p ok w (merged_at w s here on) n v hn fit (fit_one p ok n v s hn hv w fit st es one here on hh ho)
          (wrote_one p ok n v s hn hv w fit st es one here on hh ho) (there_after _) (there_before _) (unmoved_by p ok w (sets_in w) n v hn (within p ok w fit) t)

      -- and the pins moved by the rule of its kind
      pub byte_moved : (k : Kind) → kind_at p n ≡ k → grouped k ≡ true → wide_of p s ≡ p.width
          → (e : ℕ → Happening) → ((i : ℕ) → written_to p k n v i ≡ cond (in_port (n - first_of p k) i) (e i) Elsewhere)
          → (done : ℕ → Pin → Pin) → ((i : ℕ) → bit on i ≡ port_bit v i → (q : Pin) → done i q ≡ pin_after (e i) (words_at w i) q)
          → {w' : List ℕ} → w' ≡ with_sets (merged_at w s here on) (map_pins p.width (sets_in w) (λ i. only (bit here i) (done i)))
          → Holds p w w' (written p (core_in p w) n v)
      byte_moved k ek g wide e r done hd q =
          rw q
          (holds_written p ok w (merged_at w s here on) n v hn fit (fit_one p ok n v s hn hv w fit st es one here on hh ho)
          (wrote_one p ok n v s hn hv w fit st es one here on hh ho) (there_after _) _
          (moved_by p ok w (sets_in w) n v hn k ek g in_port e r here hh done
          (λ i l t. hd i (there (in_port (digit_at p n) i) (ho i) (ap (ltb i) wide ∙ lt-ltb i p.width l) t)) refl))

    -- four bits of two words
    module _ (two : paired s ≡ true) (here low high : ℕ) (hh : (i : ℕ) → bit here i ≡ in_edge (digit_at p n) i)
        (hl : (i : ℕ) → bit low i ≡ (in_edge (digit_at p n) i && (rising_bit v i && ltb i p.width)))
        (hb : (i : ℕ) → bit high i ≡ (in_edge (digit_at p n) i && (falling_bit v i && ltb i p.width))) where
      second : s + 1 < 19
      second = pair_case (λ s. s + 1 < 19) s two (omega arith) (omega arith)

      pair_after : (t : ℕ) → 18 < t → get_or (merged_pair w s here low high) t 0 ≡ get_or w t 0
      pair_after t h = get_or-set_other (merged_at w s here low) (s + 1) t _ 0 (λ e. omega (arith, e, second)) ∙ there_after _ t h

      pub pair_kept : Holds p w (merged_pair w s here low high) (core (stored_in p w n v) (sets_in w))
      pair_kept =
          holds_kept p ok w (merged_pair w s here low high) n v hn fit (fit_two p ok n v s hn hv w fit st es two here low high hh hl hb)
          (wrote_two p ok n v s hn hv w fit st es two here low high hh hl hb) pair_after
          (λ t h. get_or-set_other (merged_at w s here low) (s + 1) t _ 0 (λ e. omega (arith, e, es, word_high p ok n hn st)) ∙ there_before _ t h)

      pub pair_wrote : still (kind_at p n) ≡ true → Holds p w (merged_pair w s here low high) (written p (core_in p w) n v)
      pair_wrote t =
          holds_stored p ok w (merged_pair w s here low high) n v hn fit (fit_two p ok n v s hn hv w fit st es two here low high hh hl hb)
          (wrote_two p ok n v s hn hv w fit st es two here low high hh hl hb) pair_after
          (λ t h. get_or-set_other (merged_at w s here low) (s + 1) t _ 0 (λ e. omega (arith, e, es, word_high p ok n hn st)) ∙ there_before _ t h)
          (unmoved_by p ok w (sets_in w) n v hn (within p ok w fit) t)

      pub pair_moved : (k : Kind) → kind_at p n ≡ k → grouped k ≡ true
          → (e : ℕ → Happening) → ((i : ℕ) → written_to p k n v i ≡ cond (in_edge (n - first_of p k) i) (e i) Elsewhere)
          → (done : ℕ → Pin → Pin) → ((i : ℕ) → bit low i ≡ rising_bit v i → bit high i ≡ falling_bit v i → (q : Pin) → done i q ≡ pin_after (e i) (words_at w i) q)
          → {w' : List ℕ} → w' ≡ with_sets (merged_pair w s here low high) (map_pins p.width (sets_in w) (λ i. only (bit here i) (done i)))
          → Holds p w w' (written p (core_in p w) n v)
      pair_moved k ek g e r done hd q =
          rw q
          (holds_written p ok w (merged_pair w s here low high) n v hn fit (fit_two p ok n v s hn hv w fit st es two here low high hh hl hb)
          (wrote_two p ok n v s hn hv w fit st es two here low high hh hl hb) pair_after _
          (moved_by p ok w (sets_in w) n v hn k ek g in_edge e r here hh done
          (λ i l t. hd i (there (in_edge (digit_at p n) i) (hl i) (lt-ltb i p.width l) t) (there (in_edge (digit_at p n) i) (hb i) (lt-ltb i p.width l) t)) refl))

  -- nothing stored, the pins moved
  pub only_moved : (here on : ℕ) → ((i : ℕ) → bit here i ≡ in_port (digit_at p n) i)
      → ((i : ℕ) → bit on i ≡ (in_port (digit_at p n) i && (port_bit v i && ltb i (wide_of p (slot_at p n)))))
      → (k : Kind) → kind_at p n ≡ k → stored k ≡ false → grouped k ≡ true
      → (e : ℕ → Happening) → ((i : ℕ) → written_to p k n v i ≡ cond (in_port (n - first_of p k) i) (e i) Elsewhere)
      → (done : ℕ → Pin → Pin) → ((i : ℕ) → bit on i ≡ port_bit v i → (q : Pin) → done i q ≡ pin_after (e i) (words_at w i) q)
      → {w' : List ℕ} → w' ≡ with_sets w (map_pins p.width (sets_in w) (λ i. only (bit here i) (done i)))
      → Holds p w w' (written p (core_in p w) n v)
  only_moved here on hh ho k ek none-stored g e r done hd q =
      let st : stored (kind_at p n) ≡ false = ap stored ek ∙ none-stored in
      let none : slot_at p n ≡ 0 = rw st at (ok.nowhere n hn) in
      let wide : wide_of p (slot_at p n) ≡ p.width = ap (wide_of p) none ∙ pin_word p ok 0 (omega arith) refl in
      rw q
      (holds_written p ok w w n v hn fit fit (unstored st) (λ s h. refl) _
      (moved_by p ok w (sets_in w) n v hn k ek g in_port e r here hh done
      (λ i l t. hd i (there (in_port (digit_at p n) i) (ho i) (ap (ltb i) wide ∙ lt-ltb i p.width l) t)) refl))

-- ---- by the rule
module _ (part : ℕ) (w : List ℕ) (fit : Fit (part_of part) w) (n v r : ℕ) (hn : n < 128) (hv : v < 256) (er : r ≡ rule_at (part_of part) n) where
  -- a register of one byte a port that moves the pins of its port and is stored
  pub rule_moved : (k : Kind) → r ≡ code k → single k ≡ true → stored k ≡ true → grouped k ≡ true → paired (code k) ≡ false → code k < 17 → eqb (code k) 7 ≡ false
      → (here on : ℕ) → (paired (slot_at (part_of part) n) ≡ false → (i : ℕ) → bit here i ≡ in_port (digit_at (part_of part) n) i)
      → (paired (slot_at (part_of part) n) ≡ false → (i : ℕ) → bit on i ≡ (in_port (digit_at (part_of part) n) i && (port_bit v i && ltb i (wide_of (part_of part) (slot_at (part_of part) n)))))
      → (e : ℕ → Happening) → ((i : ℕ) → written_to (part_of part) k n v i ≡ cond (in_port (n - first_of (part_of part) k) i) (e i) Elsewhere)
      → (done : ℕ → Pin → Pin) → ((i : ℕ) → bit on i ≡ port_bit v i → (q : Pin) → done i q ≡ pin_after (e i) (words_at w i) q)
      → {w' : List ℕ} → w' ≡ with_sets (merged_at w (code k) here on) (map_pins (part_of part).width (sets_in w) (λ i. only (bit here i) (done i)))
      → Holds (part_of part) w w' (written (part_of part) (core_in (part_of part) w) n v)
  rule_moved k ek one st g alone low apart here on hh ho e re done hd q =
      let slot : code k ≡ slot_at (part_of part) n = its_word part n r hn er k ek one in
      let single-word : paired (slot_at (part_of part) n) ≡ false = ap paired (sym slot) ∙ alone in
      byte_moved (part_of part) (sound part) w fit n v hn hv (ap stored (its_kind part n r hn er k ek) ∙ st) (code k) slot alone here on (hh single-word) (ho single-word)
      k (its_kind part n r hn er k ek) g (pin_word (part_of part) (sound part) (code k) low apart) e re done hd q
