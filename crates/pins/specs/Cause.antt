-- What may end a status bit: the list, one line a cause. It speaks of the pin before and of what happens, and of nothing else.
use Rattle.std.specs.Prelude.{◌≡◌, Bool, true, false}
use Rattle.pins.specs.OnePin.{OnePin, Happening}
use Rattle.pins.specs.OnePin.Happening.{LevelTo, InputFetched, ClearWritten, MaskWritten, EdgeWritten, LatchWritten, ConfigurationWritten, Reset}

pub data Cause : Happening → OnePin → Type 0 where
  -- a fetch of its input port register
  fetched : {s : OnePin} → Cause InputFetched s
  -- its clear bit
  cleared : {s : OnePin} → Cause (ClearWritten true) s
  -- mask 1
  masked : {s : OnePin} → Cause (MaskWritten true) s
  -- a write to its edge field
  edged : {rising falling : Bool} {s : OnePin} → Cause (EdgeWritten rising falling) s
  -- latch 0
  unlatched : {s : OnePin} → Cause (LatchWritten false) s
  -- configuration 0
  turned : {s : OnePin} → Cause (ConfigurationWritten false) s
  -- any reset
  was_reset : {s : OnePin} → Cause Reset s
  -- for an unlatched level source, return to the reference
  returned : {new : Bool} {s : OnePin} → s.registers.source.rising ≡ false → s.registers.source.falling ≡ false
      → s.registers.source.latch ≡ false → new ≡ s.pin.reference → Cause (LevelTo new) s
