-- The status bit of one pin as the state keeps it: what each happening writes to it, one sentence each.
-- That it is then the bit that the rules work out is a theorem (`kept_one`).
use Rattle.std.specs.Prelude.{Bool, true, false, cond}
use Rattle.pins.specs.OnePin.{OnePin, Happening, after, status_of}
use Rattle.pins.specs.OnePin.Happening.{LevelTo, InputFetched, ClearWritten, MaskWritten, EdgeWritten, LatchWritten, ConfigurationWritten, OutputWritten, PolarityWritten, PortKindWritten, PinKindWritten, StoredWritten, Reset, Elsewhere}

unfoldable pub status_after : Happening → OnePin → (kept : Bool) → Bool
-- a level: worked out anew, of what is stored of the pin then
status_after (LevelTo new) s kept = status_of (after (LevelTo new) s)
-- a settled pin is not pending: by a fetch of its input port register, by its clear bit, by any reset
status_after InputFetched s kept = false
status_after (ClearWritten true) s kept = false
status_after (ClearWritten false) s kept = kept
status_after Reset s kept = false
-- masked, it shows nothing; unmasked, what is pending shows
status_after (MaskWritten true) s kept = false
status_after (MaskWritten false) s kept = status_of (after (MaskWritten false) s)
-- another edge field or latch bit is another source: worked out anew
status_after (EdgeWritten rising falling) s kept = status_of (after (EdgeWritten rising falling) s)
status_after (LatchWritten now) s kept = status_of (after (LatchWritten now) s)
-- an output has none; of a pin that turns to input it is worked out anew; one that was an input keeps it
status_after (ConfigurationWritten false) s kept = false
status_after (ConfigurationWritten true) s kept = cond s.registers.source.configuration kept (status_of (after (ConfigurationWritten true) s))
-- nothing else writes it
status_after (OutputWritten now) s kept = kept
status_after (PolarityWritten now) s kept = kept
status_after (PortKindWritten now) s kept = kept
status_after (PinKindWritten now) s kept = kept
status_after StoredWritten s kept = kept
status_after Elsewhere s kept = kept
