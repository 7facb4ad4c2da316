-- A status bit that shows 1 goes to 0 only by a listed cause, for one pin in whatever state. Assumes nothing.
use mathlib.Core.Path.{◌≡◌, refl}
use mathlib.Core.Bool.{Bool, true, false, not, ◌&&◌, ◌||◌}
use borrow.Author.Tests.{not-true}
use Rattle.bits.specs.Bits.{differs}
use Rattle.bits.proofs.Decide.{clash, and_left, and_right, taut}
use Rattle.pins.specs.Pin.{source, pin, pending, status, matches, level_to, clear_written, mask_written, latch_written, configuration_written}
use Rattle.pins.specs.OnePin.{OnePin, Happening, registers_after, pin_after, after, status_of}
use Rattle.pins.specs.OnePin.Happening.{LevelTo, InputFetched, ClearWritten, MaskWritten, EdgeWritten, LatchWritten, ConfigurationWritten, OutputWritten, PolarityWritten, PortKindWritten, PinKindWritten, StoredWritten, Reset, Elsewhere}
use Rattle.pins.specs.Cause.{Cause}
use Rattle.pins.specs.Cause.Cause.{fetched, cleared, masked, edged, unlatched, turned, was_reset, returned}

-- the test `not before || after || cause` came out true
then : (before after cause : Bool) → (not before || after || cause) ≡ true → before ≡ true → after ≡ false → cause ≡ true
then true after cause e p q = rw q at e
then false after cause e p q = clash false p refl

alike : (a b : Bool) → not (differs a b) ≡ true → a ≡ b
alike true true e = refl
alike true false e = clash false e refl
alike false true e = clash false e refl
alike false false e = refl

-- ---- the tests, at each choice of the Bools
level_ends : (configuration mask latch rising falling new level reference held edge : Bool)
    → (not (status (source configuration mask latch rising falling) (pin level reference held edge))
    || status (source configuration mask latch rising falling) (level_to (source configuration mask latch rising falling) new (pin level reference held edge))
    || ((not rising && not falling) && (not latch && not (differs new reference)))) ≡ true
unfolding status pending level_to matches
level_ends = taut 10 _ _ tt

unmasked_ends : (configuration mask latch rising falling level reference held edge : Bool)
    → (not (status (source configuration mask latch rising falling) (pin level reference held edge))
    || status (source configuration false latch rising falling) (pin level reference held edge) || false) ≡ true
unfolding status pending
unmasked_ends = taut 9 _ _ tt

latched_ends : (configuration mask latch rising falling level reference held edge : Bool)
    → (not (status (source configuration mask latch rising falling) (pin level reference held edge))
    || status (source configuration mask true rising falling) (latch_written configuration latch true (pin level reference held edge)) || false) ≡ true
unfolding status pending latch_written
latched_ends = taut 9 _ _ tt

input_ends : (configuration mask latch rising falling level reference held edge : Bool)
    → (not (status (source configuration mask latch rising falling) (pin level reference held edge))
    || status (source true mask latch rising falling) (configuration_written latch configuration true (pin level reference held edge)) || false) ≡ true
unfolding status pending configuration_written
input_ends = taut 9 _ _ tt

pub only_by_cause : (e : Happening) (s : OnePin) → status_of s ≡ true → status_of (after e s) ≡ false → Cause e s
unfolding registers_after pin_after clear_written mask_written
only_by_cause (LevelTo new) s p q =
    let v = s.registers.source in
    let x = s.pin in
    let t = then (status_of s) (status_of (after (LevelTo new) s)) _ (level_ends v.configuration v.mask v.latch v.rising v.falling new x.level x.reference x.held x.edge) p q in
    let a = and_left (not v.rising && not v.falling) (not v.latch && not (differs new x.reference)) t in
    let b = and_right (not v.rising && not v.falling) (not v.latch && not (differs new x.reference)) t in
    returned
    (not-true v.rising (and_left (not v.rising) (not v.falling) a))
    (not-true v.falling (and_right (not v.rising) (not v.falling) a))
    (not-true v.latch (and_left (not v.latch) (not (differs new x.reference)) b))
    (alike new x.reference (and_right (not v.latch) (not (differs new x.reference)) b))
only_by_cause InputFetched s p q = fetched
only_by_cause (ClearWritten true) s p q = cleared
only_by_cause (ClearWritten false) s p q = clash (status_of s) p q
only_by_cause (MaskWritten true) s p q = masked
only_by_cause (MaskWritten false) s p q =
    let v = s.registers.source in
    let x = s.pin in
    clash false (then (status_of s) (status_of (after (MaskWritten false) s)) false (unmasked_ends v.configuration v.mask v.latch v.rising v.falling x.level x.reference x.held x.edge) p q) refl
only_by_cause (EdgeWritten rising falling) s p q = edged
only_by_cause (LatchWritten true) s p q =
    let v = s.registers.source in
    let x = s.pin in
    clash false (then (status_of s) (status_of (after (LatchWritten true) s)) false (latched_ends v.configuration v.mask v.latch v.rising v.falling x.level x.reference x.held x.edge) p q) refl
only_by_cause (LatchWritten false) s p q = unlatched
only_by_cause (ConfigurationWritten true) s p q =
    let v = s.registers.source in
    let x = s.pin in
    clash false (then (status_of s) (status_of (after (ConfigurationWritten true) s)) false (input_ends v.configuration v.mask v.latch v.rising v.falling x.level x.reference x.held x.edge) p q) refl
only_by_cause (ConfigurationWritten false) s p q = turned
only_by_cause (OutputWritten now) s p q = clash (status_of s) p q
only_by_cause (PolarityWritten now) s p q = clash (status_of s) p q
only_by_cause (PortKindWritten now) s p q = clash (status_of s) p q
only_by_cause (PinKindWritten now) s p q = clash (status_of s) p q
only_by_cause StoredWritten s p q = clash (status_of s) p q
only_by_cause Reset s p q = was_reset
only_by_cause Elsewhere s p q = clash (status_of s) p q

-- output level, polarity, output kind, drive strength and pulls touch no mark, and so no status bit
pub record Untouched (e : Happening) (s : OnePin) : Type 0 where
  pub marks : (after e s).pin ≡ s.pin
  pub bit : status_of (after e s) ≡ status_of s

pub touch_nothing : (now : Bool) (s : OnePin)
    → Untouched (OutputWritten now) s × Untouched (PolarityWritten now) s × Untouched (PortKindWritten now) s
    × Untouched (PinKindWritten now) s × Untouched StoredWritten s
unfolding registers_after pin_after
touch_nothing now s = (
  record { marks = refl; bit = refl },
  record { marks = refl; bit = refl },
  record { marks = refl; bit = refl },
  record { marks = refl; bit = refl },
  record { marks = refl; bit = refl },
)
