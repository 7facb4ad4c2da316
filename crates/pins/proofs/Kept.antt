-- What is kept of a status bit that was right is right again after whatever happens, for one pin in whatever state. Assumes nothing.
use mathlib.Core.Path.{◌≡◌, refl}
use mathlib.Core.Bool.{Bool, true, false, cond}
use Rattle.bits.proofs.Decide.{taut}
use Rattle.pins.specs.Pin.{source, pin, pending, status, settle, input_fetched, clear_written, mask_written, configuration_written, reset}
use Rattle.pins.specs.OnePin.{OnePin, Happening, registers_after, pin_after, after, status_of}
use Rattle.pins.specs.OnePin.Happening.{LevelTo, InputFetched, ClearWritten, MaskWritten, EdgeWritten, LatchWritten, ConfigurationWritten, OutputWritten, PolarityWritten, PortKindWritten, PinKindWritten, StoredWritten, Reset, Elsewhere}
use Rattle.pins.specs.Kept.{status_after}

-- ---- at each choice of the Bools
settled_quiet : (configuration mask latch rising falling level reference held edge : Bool)
    → false ≡ status (source configuration mask latch rising falling) (settle (pin level reference held edge))
unfolding status pending settle
settled_quiet = taut 9 _ _ tt

masked_quiet : (configuration latch rising falling level reference held edge : Bool)
    → false ≡ status (source configuration true latch rising falling) (mask_written true (pin level reference held edge))
unfolding status pending mask_written
masked_quiet = taut 8 _ _ tt

turned_input : (configuration mask latch rising falling level reference held edge : Bool)
    → cond configuration (status (source configuration mask latch rising falling) (pin level reference held edge))
    (status (source true mask latch rising falling) (configuration_written latch configuration true (pin level reference held edge)))
    ≡ status (source true mask latch rising falling) (configuration_written latch configuration true (pin level reference held edge))
unfolding status pending configuration_written
turned_input = taut 9 _ _ tt

pub kept_one : (e : Happening) (s : OnePin) → status_after e s (status_of s) ≡ status_of (after e s)
unfolding status_after registers_after pin_after input_fetched clear_written reset status
kept_one (LevelTo new) s = refl
kept_one InputFetched s =
    let v = s.registers.source in
    let x = s.pin in
    settled_quiet v.configuration v.mask v.latch v.rising v.falling x.level x.reference x.held x.edge
kept_one (ClearWritten true) s =
    let v = s.registers.source in
    let x = s.pin in
    settled_quiet v.configuration v.mask v.latch v.rising v.falling x.level x.reference x.held x.edge
kept_one (ClearWritten false) s = refl
kept_one (MaskWritten true) s =
    let v = s.registers.source in
    let x = s.pin in
    masked_quiet v.configuration v.latch v.rising v.falling x.level x.reference x.held x.edge
kept_one (MaskWritten false) s = refl
kept_one (EdgeWritten rising falling) s = refl
kept_one (LatchWritten now) s = refl
kept_one (ConfigurationWritten true) s =
    let v = s.registers.source in
    let x = s.pin in
    turned_input v.configuration v.mask v.latch v.rising v.falling x.level x.reference x.held x.edge
kept_one (ConfigurationWritten false) s = refl
kept_one (OutputWritten now) s = refl
kept_one (PolarityWritten now) s = refl
kept_one (PortKindWritten now) s = refl
kept_one (PinKindWritten now) s = refl
kept_one StoredWritten s = refl
kept_one Reset s =
    let v = s.registers.source in
    let x = s.pin in
    settled_quiet true true false false false x.level x.reference x.held x.edge
kept_one Elsewhere s = refl
