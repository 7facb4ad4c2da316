-- What a write does to the pins, in words: nothing, or its kind's rule at the pins of the register. Assumes nothing.
use mathlib.Core.Path.{◌≡◌, refl, sym, ap, ap₂, ◌∙◌}
use mathlib.Core.Bool.{Bool, true, false, cond, not}
use mathlib.Core.List.{List}
use Prim.Native.Nat.{ℕ, ◌-◌, ◌<◌}
use Rattle.bits.specs.Bits.{bit}
use Rattle.bits.proofs.Decide.{clash}
use Rattle.pins.specs.Pin.{Pin, only}
use Rattle.pins.specs.AllPins.{Within, pin_at, map_pins}
use Rattle.pins.specs.OnePin.{Registers, Happening, pin_after}
use Rattle.pins.specs.OnePin.Happening.{OutputWritten, PolarityWritten, PinKindWritten, Elsewhere}
use Rattle.pins.specs.declared.Sets.{Sets}
use Rattle.pins.proofs.AllPins.{map_ext}
use Rattle.ports.specs.Ports.{port_bit}
use Rattle.map.specs.Map.{Part, Kind, kind_at, first_of}
use Rattle.map.specs.Map.Kind.{Reserved, Input, Status, InputStatus, Configuration, Latch, Mask, PortKind, Edge, Clear, Output, Polarity, PinKind, Stored}
use Rattle.registers.specs.Registers.{registers_at, of_port, written_to}
use Rattle.registers.specs.Interrupt.{rings}
use Rattle.registers.proofs.Writing.{unmoved}
use Rattle.words.specs.Words.{digit_at, file_of, words_at}
use Rattle.words.proofs.Sound.{Sound, grouped, place_is}
use Rattle.words.proofs.Reading.{registers_read}

-- kinds whose registers move no pin's stored bits
abbrev pub still : Kind → Bool
still k = not (rings k)

stays : (here : Bool) (e : Happening) (r : Registers) (x : Pin) → pin_after e r x ≡ x → pin_after (cond here e Elsewhere) r x ≡ x
unfolding pin_after
stays true e r x q = q
stays false e r x q = refl

module _ (p : Part) (n v : ℕ) where
  still_pin : (k : Kind) → still k ≡ true → (i : ℕ) (r : Registers) (x : Pin) → pin_after (written_to p k n v i) r x ≡ x
  unfolding written_to pin_after
  still_pin Reserved t i r x = refl
  still_pin Input t i r x = refl
  still_pin Status t i r x = refl
  still_pin InputStatus t i r x = refl
  still_pin PortKind t i r x = refl
  still_pin Stored t i r x = refl
  still_pin Output t i r x = stays (of_port p Output n i) (OutputWritten (port_bit v i)) r x refl
  still_pin Polarity t i r x = stays (of_port p Polarity n i) (PolarityWritten (port_bit v i)) r x refl
  still_pin PinKind t i r x = stays (of_port p PinKind n i) (PinKindWritten (port_bit v i)) r x refl
  still_pin Configuration t i r x = clash false t refl
  still_pin Latch t i r x = clash false t refl
  still_pin Mask t i r x = clash false t refl
  still_pin Edge t i r x = clash false t refl
  still_pin Clear t i r x = clash false t refl

-- a rule at a pin that the register holds
at_pin : (here inside : Bool) → here ≡ inside → (done : Pin → Pin) (e : Happening) (r : Registers) (q : Pin) → (inside ≡ true → done q ≡ pin_after e r q)
    → only here done q ≡ pin_after (cond inside e Elsewhere) r q
unfolding only pin_after
at_pin true true z done e r q h = h refl
at_pin false false z done e r q h = refl
at_pin true false z done e r q h = clash false (sym z) refl
at_pin false true z done e r q h = clash false z refl

module _ (p : Part) (ok : Sound p) (w : List ℕ) (x : Sets) (n v : ℕ) (hn : n < 128) where
  -- what the pins must be afterwards
  abbrev pub Moved : Sets → Type 0
  Moved y = y ≡ map_pins p.width x (λ i. pin_after (written_to p (kind_at p n) n v i) (registers_at p (file_of p w) i))

  pub unmoved_by : Within p.width x → still (kind_at p n) ≡ true → Moved x
  unmoved_by d t = unmoved p.width x _ d (λ i. still_pin p n v (kind_at p n) t i (registers_at p (file_of p w) i) (pin_at x i))

  -- a kind with a rule: `done` at the pins of `here`, which are those that the register holds
  pub moved_by : (k : Kind) → kind_at p n ≡ k → grouped k ≡ true
      → (inside : ℕ → ℕ → Bool) (e : ℕ → Happening) → ((i : ℕ) → written_to p k n v i ≡ cond (inside (n - first_of p k) i) (e i) Elsewhere)
      → (here : ℕ) → ((i : ℕ) → bit here i ≡ inside (digit_at p n) i)
      → (done : ℕ → Pin → Pin) → ((i : ℕ) → i < p.width → inside (digit_at p n) i ≡ true → (q : Pin) → done i q ≡ pin_after (e i) (words_at w i) q)
      → {y : Sets} → y ≡ map_pins p.width x (λ i. only (bit here i) (done i)) → Moved y
  moved_by k ek g inside e r here hh done hd q =
      q ∙ map_ext p.width x _ _ (λ i l.
      at_pin (bit here i) (inside (digit_at p n) i) (hh i) (done i) (e i) (words_at w i) (pin_at x i) (λ t. hd i l t (pin_at x i))
      ∙ ap (λ (j : ℕ). pin_after (cond (inside j i) (e i) Elsewhere) (words_at w i) (pin_at x i)) (place_is p ok n hn k ek g)
      ∙ ap₂ (λ (h : Happening) (r : Registers). pin_after h r (pin_at x i))
      (sym (r i) ∙ ap (λ (k : Kind). written_to p k n v i) (sym ek)) (sym (registers_read p ok w i l)))
