-- What can be seen of the words: drives, INT; and what levels and a fetch do to the pins. Assumes nothing.
use mathlib.Core.Path.{◌≡◌, refl, sym, ap, ◌∙◌}
use mathlib.Core.Bool.{Bool, cond, ◌&&◌}
use mathlib.Core.List.{List}
use Prim.Native.Nat.{ℕ, ◌/◌, ◌-◌, ◌^◌, ◌<◌}
use native.Mathlib.Omega.{arith}
use lib.ListN.{get_or}
use lib.Pow.{pow_pos}
use Rattle.bits.specs.Bits.{bit}
use Rattle.bits.proofs.Laws.{bit_ones, tabulated, tabulate_lt}
use Rattle.pins.specs.Pin.{Source, only, input_fetched, drive, is_low, is_high, level_to}
use Rattle.pins.specs.AllPins.{PinsOf, pin_at, map_pins, drive_at, asserted}
use Rattle.pins.specs.OnePin.{Registers, OnePin, Happening, pin_after, drive_of, status_of}
use Rattle.pins.specs.OnePin.Happening.{InputFetched, Elsewhere}
use Rattle.pins.specs.declared.Sets.{Sets}
use Rattle.pins.proofs.AllPins.{map_ext, map_within}
use Rattle.ports.specs.Ports.{in_port}
use Rattle.map.specs.Map.{Part, Kind, kind_at, first_of, code}
use Rattle.map.specs.Map.Kind.{Reserved, Input, Status, InputStatus, Configuration, Latch, Mask, PortKind, Edge, Clear, Output, Polarity, PinKind, Stored}
use Rattle.registers.specs.Registers.{core, registers_at, fetched_as, fetched, levelled, driven_low, driven_high}
use Rattle.registers.specs.Interrupt.{int_level, worked_out}
use Rattle.registers.proofs.Writing.{same, unmoved, written_here}
use Rattle.words.specs.Words.{digit_at, file_of, sets_in, with_sets, core_in, words_at, pin_in, Fit, Holds}
use Rattle.words.proofs.Sound.{Sound, place_is}
use Rattle.words.proofs.Reading.{registers_read}
use Rattle.words.proofs.Holding.{word_small, within, holds_sets}
use Rattle.words.proofs.Showing.{one_pin_lem}

module _ (p : Part) (ok : Sound p) (w : List ℕ) where
  pub low_read : (all s : ℕ) → all ≡ 2 ^ p.width - 1
      → ((port_kind pin_kind : Bool) → PinsOf s (λ i. bit all i && is_low (drive (bit (get_or w 4 0) i) (bit (get_or w 10 0) i) port_kind pin_kind)) all)
      → s ≡ driven_low p (core_in p w)
  unfolding driven_low
  low_read all s e h =
      tabulated p.width ((h (bit all 0) (bit all 0)).small p.width (omega (arith, e, pow_pos p.width)))
      (λ i l. (h (bit (get_or w 7 0) (i / 8)) (bit (get_or w 12 0) i)).pins i
      ∙ ap (λ (b : Bool). b && is_low (drive_of (pin_in w i))) (ap (λ (x : ℕ). bit x i) e ∙ bit_ones p.width i l)
      ∙ ap (λ (s : OnePin). is_low (drive_of s)) (sym (one_pin_lem p ok w i l)))

  pub high_read : (kinds s : ℕ) → Fit p w → ((i : ℕ) → i < 40 → bit kinds i ≡ bit (get_or w 7 0) (i / 8))
      → PinsOf s (λ i. is_high (drive_at (get_or w 4 0) (get_or w 10 0) kinds (get_or w 12 0) i)) (get_or w 10 0)
      → s ≡ driven_high p (core_in p w)
  unfolding driven_high
  high_read kinds s fit hk h =
      tabulated p.width (h.small p.width (word_small p ok w fit 10 (omega arith) refl))
      (λ i l. h.pins i
      ∙ ap (λ (b : Bool). is_high (drive (bit (get_or w 4 0) i) (bit (get_or w 10 0) i) b (bit (get_or w 12 0) i)))
      (hk i (omega (arith, l, ok.narrow, ok.port_few)))
      ∙ ap (λ (s : OnePin). is_high (drive_of s)) (sym (one_pin_lem p ok w i l)))

  -- INT's level, of a status set of the part's pins
  pub line_worked : (s r : ℕ) → s ≡ (worked_out p (core_in p w)).status → ((w : ℕ) → s < 2 ^ w → r ≡ cond (asserted w (λ i. bit s i)) 0 1) → r ≡ (worked_out p (core_in p w)).line
  unfolding worked_out
  line_worked s r e q = q p.width (rw e (tabulate_lt p.width _)) ∙ ap (int_level p) e

  -- the status set that the rules work out
  pub status_worked : (s : ℕ) → Fit p w → PinsOf s (λ i. status_of (pin_in w i)) (get_or w 4 0) → s ≡ (worked_out p (core_in p w)).status
  unfolding worked_out
  status_worked s fit h =
      tabulated p.width (h.small p.width (word_small p ok w fit 4 (omega arith) refl)) (λ i l. h.pins i ∙ ap status_of (sym (one_pin_lem p ok w i l)))

-- ---- a fetch
other_fetch : (p : Part) (k : Kind) → (code k ≡ 1 → ⊥) → (n i : ℕ) → fetched_as p k n i ≡ Elsewhere
unfolding fetched_as
other_fetch p Input z n i = absurd (z refl)
other_fetch p Reserved z n i = refl
other_fetch p Status z n i = refl
other_fetch p InputStatus z n i = refl
other_fetch p Configuration z n i = refl
other_fetch p Latch z n i = refl
other_fetch p Mask z n i = refl
other_fetch p PortKind z n i = refl
other_fetch p Edge z n i = refl
other_fetch p Clear z n i = refl
other_fetch p Output z n i = refl
other_fetch p Polarity z n i = refl
other_fetch p PinKind z n i = refl
other_fetch p Stored z n i = refl

module _ (p : Part) (ok : Sound p) (w : List ℕ) (fit : Fit p w) where
  module _ (n : ℕ) (hn : n < 128) where
    pub other_fetched : (code (kind_at p n) ≡ 1 → ⊥) → Holds p w w (fetched p (core_in p w) n)
    unfolding fetched pin_after
    other_fetched z = record {
      core = same refl (unmoved p.width (sets_in w) _ (within p ok w fit)
          (λ i. ap (λ (e : Happening). pin_after e (registers_at p (file_of p w) i) (pin_at (sets_in w) i)) (other_fetch p (kind_at p n) z n i)));
      fit = fit;
      rest = λ s h. refl;
    }

    -- the eight pins of an input port register
    pub input_fetched_lem : kind_at p n ≡ Input → (here : ℕ) → ((i : ℕ) → bit here i ≡ in_port (digit_at p n) i) → (y : Sets)
        → y ≡ map_pins p.width (sets_in w) (λ i. only (bit here i) input_fetched) → Holds p w (with_sets w y) (fetched p (core_in p w) n)
    unfolding fetched fetched_as pin_after
    input_fetched_lem e here g y q =
        holds_sets p ok w w y fit (rw q (map_within p.width (sets_in w) _))
        (same refl
        (q ∙ map_ext p.width (sets_in w) _ _ (λ i l.
        ap (λ (b : Bool). only b input_fetched (pin_at (sets_in w) i)) (g i ∙ ap (λ (k : ℕ). in_port k i) (place_is p ok n hn Input e refl))
        ∙ written_here (in_port (n - first_of p Input) i) (λ t. input_fetched) InputFetched (registers_at p (file_of p w) i) (pin_at (sets_in w) i) refl))
        ∙ ap (λ (k : Kind). core (file_of p w) (map_pins p.width (sets_in w) (λ i. pin_after (fetched_as p k n i) (registers_at p (file_of p w) i)))) (sym e))
        (λ s h. refl)

  -- ---- levels
  pub levels_moved : (new : ℕ) (v : ℕ → Source) → ((i : ℕ) → v i ≡ (words_at w i).source) → (y : Sets)
      → y ≡ map_pins p.width (sets_in w) (λ i. level_to (v i) (bit new i)) → Holds p w (with_sets w y) (levelled p (core_in p w) new)
  unfolding levelled pin_after
  levels_moved new v e y q =
      holds_sets p ok w w y fit (rw q (map_within p.width (sets_in w) _))
      (same refl
      (q ∙ map_ext p.width (sets_in w) _ _ (λ i l. ap (λ (v : Source). level_to v (bit new i) (pin_at (sets_in w) i))
      (e i ∙ sym (ap (λ (r : Registers). r.source) (registers_read p ok w i l))))))
      (λ s h. refl)
