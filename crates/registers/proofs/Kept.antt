-- What is kept of the interrupt, where it was right before, is right after every operation: for every part whose map has the tests. Assumes nothing.
use mathlib.Core.Path.{◌≡◌, refl, sym, ap, ◌∙◌}
use mathlib.Core.Bool.{Bool, true, false, cond}
use Prim.Native.Nat.{ℕ, zero, suc, ◌<◌}
use native.Mathlib.Omega.{arith}
use lib.Dec.{eqb}
use lib.ListN.{length}
use Rattle.bits.specs.Bits.{bit, tabulate, some}
use Rattle.bits.proofs.Decide.{clash}
use Rattle.bits.proofs.Laws.{bit_tabulate, bit_zero, tabulate_ext, some_ext}
use Rattle.ports.specs.Ports.{port_bit}
use Rattle.pins.specs.OnePin.{OnePin, Happening, after, registers_after, pin_after, status_of}
use Rattle.pins.specs.OnePin.Happening.{OutputWritten, PolarityWritten, PinKindWritten, Reset, Elsewhere}
use Rattle.pins.specs.Kept.{status_after}
use Rattle.pins.specs.Pin.{reset}
use Rattle.pins.specs.AllPins.{map_pins, asserted}
use Rattle.pins.proofs.Kept.{kept_one}
use Rattle.map.specs.Map.{Part, Kind, kind_at, code, defaults}
use Rattle.map.specs.Map.Kind.{Reserved, Input, Status, InputStatus, Configuration, Latch, Mask, PortKind, Edge, Clear, Output, Polarity, PinKind, Stored}
use Rattle.registers.specs.Registers.{Core, core, one_pin, of_port, written_to, written, fetched_as, fetched, levelled, int_asserted}
use Rattle.registers.specs.Interrupt.{Interrupt, int_level, interrupt_of, worked_out, after_each, rings, rings_written, rings_fetched, rings_levelled, quiet}
use Rattle.registers.proofs.Pinwise.{Mapped}
use Rattle.registers.proofs.Written.{write_pin, fetch_pin, level_pin, reset_pin}

-- equal field by field
pub same_interrupt : {a b : Interrupt} → a.status ≡ b.status → a.line ≡ b.line → a ≡ b
same_interrupt status line = λ j. record { status = status j; line = line j }

-- ---- operations that touch no status bit
elsewhere : (b : Bool) (e : Happening) (s : OnePin) → status_of s ≡ status_of (after e s) → status_of s ≡ status_of (after (cond b e Elsewhere) s)
unfolding registers_after pin_after
elsewhere true e s q = q
elsewhere false e s q = refl

still_write : (p : Part) (k : Kind) → rings k ≡ false → (n v i : ℕ) (s : OnePin) → status_of s ≡ status_of (after (written_to p k n v i) s)
unfolding written_to registers_after pin_after
still_write p Output t n v i s = elsewhere (of_port p Output n i) (OutputWritten (port_bit v i)) s refl
still_write p Polarity t n v i s = elsewhere (of_port p Polarity n i) (PolarityWritten (port_bit v i)) s refl
still_write p PinKind t n v i s = elsewhere (of_port p PinKind n i) (PinKindWritten (port_bit v i)) s refl
still_write p PortKind t n v i s = refl
still_write p Stored t n v i s = refl
still_write p Reserved t n v i s = refl
still_write p Input t n v i s = refl
still_write p Status t n v i s = refl
still_write p InputStatus t n v i s = refl
still_write p Configuration t n v i s = clash true refl t
still_write p Latch t n v i s = clash true refl t
still_write p Mask t n v i s = clash true refl t
still_write p Edge t n v i s = clash true refl t
still_write p Clear t n v i s = clash true refl t

still_fetch : (p : Part) (k : Kind) → eqb (code k) (code Input) ≡ false → (n i : ℕ) (s : OnePin) → status_of s ≡ status_of (after (fetched_as p k n i) s)
unfolding fetched_as registers_after pin_after
still_fetch p Input t n i s = clash true refl t
still_fetch p Reserved t n i s = refl
still_fetch p Status t n i s = refl
still_fetch p InputStatus t n i s = refl
still_fetch p Configuration t n i s = refl
still_fetch p Latch t n i s = refl
still_fetch p Mask t n i s = refl
still_fetch p PortKind t n i s = refl
still_fetch p Edge t n i s = refl
still_fetch p Clear t n i s = refl
still_fetch p Output t n i s = refl
still_fetch p Polarity t n i s = refl
still_fetch p PinKind t n i s = refl
still_fetch p Stored t n i s = refl

no_status : (w : ℕ) (f : ℕ → Bool) → ((i : ℕ) → i < w → f i ≡ false) → (tabulate w f ≡ 0) × (some w f ≡ false)
unfolding tabulate some
no_status zero f q = (refl, refl)
no_status (suc w) f q =
    let rest = no_status w (λ i. f (suc i)) (λ i h. q (suc i) (omega arith)) in
    let first = q zero (omega arith) in
    (simp (rest.0, first), simp (first, rest.1))

module _ (p : Part) (s : Core) where
  -- every pin's bit goes by its own sentence
  each_right : (happens : ℕ → Happening) (t : Core) → ((i : ℕ) → i < p.width → one_pin p t i ≡ after (happens i) (one_pin p s i))
      → after_each p s (worked_out p s) happens ≡ worked_out p t
  unfolding after_each worked_out
  each_right happens t q =
      ap (interrupt_of p) (tabulate_ext p.width (λ i h.
      ap (status_after (happens i) (one_pin p s i)) (bit_tabulate p.width (λ i. status_of (one_pin p s i)) i h)
      ∙ kept_one (happens i) (one_pin p s i) ∙ ap status_of (sym (q i h))))

  -- no pin's bit changes
  still_right : (happens : ℕ → Happening) (t : Core) → ((i : ℕ) → i < p.width → one_pin p t i ≡ after (happens i) (one_pin p s i))
      → ((i : ℕ) → status_of (one_pin p s i) ≡ status_of (after (happens i) (one_pin p s i))) → worked_out p s ≡ worked_out p t
  unfolding worked_out
  still_right happens t q still =
      ap (interrupt_of p) (tabulate_ext p.width (λ i h. still i ∙ ap status_of (sym (q i h))))

  module _ (kept : Interrupt) (right : kept ≡ worked_out p s) where
    pub kept_written : Mapped p → length s.file ≡ 128 → (n : ℕ) → n < 128 → (v : ℕ)
        → rings_written p (kind_at p n) s kept n v ≡ worked_out p (written p s n v)
    unfolding rings_written
    kept_written ok full n hn v = go (rings (kind_at p n)) refl
      where
        pins : (i : ℕ) → i < p.width → one_pin p (written p s n v) i ≡ after (written_to p (kind_at p n) n v i) (one_pin p s i)
        pins i h = write_pin p s i h ok full n hn v

        go : (t : Bool) → rings (kind_at p n) ≡ t → cond t (after_each p s kept (written_to p (kind_at p n) n v)) kept ≡ worked_out p (written p s n v)
        go true e = ap (λ (kept : Interrupt). after_each p s kept (written_to p (kind_at p n) n v)) right ∙ each_right _ _ pins
        go false e = right ∙ still_right _ _ pins (λ i. still_write p (kind_at p n) e n v i (one_pin p s i))

    -- where the register cannot ring, what is kept is right as it is
    pub unrung_written : Mapped p → length s.file ≡ 128 → (n : ℕ) → n < 128 → (v : ℕ) → rings (kind_at p n) ≡ false → kept ≡ worked_out p (written p s n v)
    unfolding rings_written
    unrung_written ok full n hn v t =
        ap (λ (b : Bool). cond b (after_each p s kept (written_to p (kind_at p n) n v)) kept) (sym t) ∙ kept_written ok full n hn v

    pub kept_fetched : (n : ℕ) → rings_fetched p (kind_at p n) s kept n ≡ worked_out p (fetched p s n)
    unfolding rings_fetched
    kept_fetched n = go (eqb (code (kind_at p n)) (code Input)) refl
      where
        pins : (i : ℕ) → i < p.width → one_pin p (fetched p s n) i ≡ after (fetched_as p (kind_at p n) n i) (one_pin p s i)
        pins i h = fetch_pin p s i h n

        go : (t : Bool) → eqb (code (kind_at p n)) (code Input) ≡ t → cond t (after_each p s kept (fetched_as p (kind_at p n) n)) kept ≡ worked_out p (fetched p s n)
        go true e = ap (λ (kept : Interrupt). after_each p s kept (fetched_as p (kind_at p n) n)) right ∙ each_right _ _ pins
        go false e = right ∙ still_right _ _ pins (λ i. still_fetch p (kind_at p n) e n i (one_pin p s i))

    pub unrung_fetched : (n : ℕ) → eqb (code (kind_at p n)) (code Input) ≡ false → kept ≡ worked_out p (fetched p s n)
    unfolding rings_fetched
    unrung_fetched n t = ap (λ (b : Bool). cond b (after_each p s kept (fetched_as p (kind_at p n) n)) kept) (sym t) ∙ kept_fetched n

    pub kept_levelled : (new : ℕ) → rings_levelled p s kept new ≡ worked_out p (levelled p s new)
    kept_levelled new = ap (λ (kept : Interrupt). rings_levelled p s kept new) right ∙ each_right _ _ (λ i h. level_pin p s i h new)

  -- after a reset, whatever was kept
  pub kept_reset : Mapped p → quiet ≡ worked_out p (core (defaults p) (map_pins p.width s.sets (λ i. reset)))
  unfolding worked_out asserted status_after
  kept_reset ok =
      let none = no_status p.width (λ i. status_of (one_pin p (core (defaults p) (map_pins p.width s.sets (λ i. reset))) i))
      (λ i h. ap status_of (reset_pin p s i h ok) ∙ sym (kept_one Reset (one_pin p s i))) in
      let clear = no_status p.width (bit 0) (λ i h. bit_zero i) in
      let line : int_level p 0 ≡ 1 = ap (λ (b : Bool). cond {A = ℕ} b 0 1) clear.1 in
      same_interrupt refl (sym line) ∙ ap (interrupt_of p) (sym none.0)

  -- the line that is kept right is INT's, as the rules work it out
  pub line_right : (kept : Interrupt) → kept ≡ worked_out p s → eqb kept.line 0 ≡ int_asserted p s
  unfolding worked_out asserted int_asserted
  line_right kept right =
      ap (λ (k : Interrupt). eqb k.line 0) right ∙ level (some p.width (λ i. bit (tabulate p.width (λ i. status_of (one_pin p s i))) i))
      ∙ some_ext p.width (λ i h. bit_tabulate p.width (λ i. status_of (one_pin p s i)) i h)
    where
      level : (b : Bool) → eqb (cond {A = ℕ} b 0 1) 0 ≡ b
      level true = refl
      level false = refl

  -- and 0 or 1
  pub line_small : (kept : Interrupt) → kept ≡ worked_out p s → kept.line < 2
  unfolding worked_out
  line_small kept right = rw (ap (λ (k : Interrupt). k.line) right) (level (asserted p.width (λ i. bit (tabulate p.width (λ i. status_of (one_pin p s i))) i)))
    where
      level : (b : Bool) → cond {A = ℕ} b 0 1 < 2
      level true = omega arith
      level false = omega arith
