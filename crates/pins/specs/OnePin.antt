-- One pin as a machine: its bits in the registers, what is stored of it, and what can happen to it.
use Rattle.std.specs.Prelude.{Bool, true, false}
use Rattle.pins.specs.Pin.{Source, Pin, Drive, source, drive, input_bit, status, level_to, input_fetched, clear_written, mask_written, edge_written, latch_written, configuration_written, reset}

-- what the registers say of the pin
pub record Registers : Type 0 where
  pub source : Source
  pub output : Bool
  pub polarity : Bool
  pub port_kind : Bool
  pub pin_kind : Bool

pub record OnePin : Type 0 where
  pub registers : Registers
  pub pin : Pin

-- What can happen to the pin. A register written is the one that holds the pin's bit, which becomes `now`.
pub data Happening : Type 0 where
  LevelTo : (new : Bool) → Happening
  InputFetched : Happening
  ClearWritten : (now : Bool) → Happening
  MaskWritten : (now : Bool) → Happening
  EdgeWritten : (rising falling : Bool) → Happening
  LatchWritten : (now : Bool) → Happening
  ConfigurationWritten : (now : Bool) → Happening
  OutputWritten : (now : Bool) → Happening
  PolarityWritten : (now : Bool) → Happening
  PortKindWritten : (now : Bool) → Happening
  PinKindWritten : (now : Bool) → Happening
  -- drive strength, pull enable, pull select, debounce: stored, and of no effect
  StoredWritten : Happening
  Reset : Happening
  -- whatever concerns other pins only, or none
  Elsewhere : Happening

abbrev pub registers : Source → (output polarity port_kind pin_kind : Bool) → Registers
registers source output polarity port_kind pin_kind =
    record { source = source; output = output; polarity = polarity; port_kind = port_kind; pin_kind = pin_kind }

-- after any reset: output 1, configuration 1, mask 1, all else 0
abbrev pub defaults : Registers
defaults = registers (source true true false false false) true false false false

-- the same registers but for those of the source
abbrev pub with_source : Registers → Source → Registers
with_source v source = registers source v.output v.polarity v.port_kind v.pin_kind

unfoldable pub registers_after : Happening → Registers → Registers
registers_after (LevelTo new) v = v
registers_after InputFetched v = v
registers_after (ClearWritten now) v = v
registers_after (MaskWritten now) v =
    with_source v (source v.source.configuration now v.source.latch v.source.rising v.source.falling)
registers_after (EdgeWritten rising falling) v =
    with_source v (source v.source.configuration v.source.mask v.source.latch rising falling)
registers_after (LatchWritten now) v =
    with_source v (source v.source.configuration v.source.mask now v.source.rising v.source.falling)
registers_after (ConfigurationWritten now) v =
    with_source v (source now v.source.mask v.source.latch v.source.rising v.source.falling)
registers_after (OutputWritten now) v = registers v.source now v.polarity v.port_kind v.pin_kind
registers_after (PolarityWritten now) v = registers v.source v.output now v.port_kind v.pin_kind
registers_after (PortKindWritten now) v = registers v.source v.output v.polarity now v.pin_kind
registers_after (PinKindWritten now) v = registers v.source v.output v.polarity v.port_kind now
registers_after StoredWritten v = v
registers_after Reset v = defaults
registers_after Elsewhere v = v

unfoldable pub pin_after : Happening → Registers → Pin → Pin
pin_after (LevelTo new) v x = level_to v.source new x
pin_after InputFetched v x = input_fetched x
pin_after (ClearWritten now) v x = clear_written now x
pin_after (MaskWritten now) v x = mask_written now x
pin_after (EdgeWritten rising falling) v x = edge_written rising falling x
pin_after (LatchWritten now) v x = latch_written v.source.configuration v.source.latch now x
pin_after (ConfigurationWritten now) v x = configuration_written v.source.latch v.source.configuration now x
pin_after (OutputWritten now) v x = x
pin_after (PolarityWritten now) v x = x
pin_after (PortKindWritten now) v x = x
pin_after (PinKindWritten now) v x = x
pin_after StoredWritten v x = x
pin_after Reset v x = reset x
pin_after Elsewhere v x = x

abbrev pub after : Happening → OnePin → OnePin
after e s = record { registers = registers_after e s.registers; pin = pin_after e s.registers s.pin }

-- what one sees of it: its drive, its input port bit, its status bit
abbrev pub drive_of : OnePin → Drive
drive_of s = drive s.registers.source.configuration s.registers.output s.registers.port_kind s.registers.pin_kind

abbrev pub input_of : OnePin → Bool
input_of s = input_bit s.registers.source.configuration s.registers.source.latch s.registers.polarity
    s.registers.port_kind s.registers.pin_kind s.pin

abbrev pub status_of : OnePin → Bool
status_of s = status s.registers.source s.pin
