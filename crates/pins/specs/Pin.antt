-- The rules of one pin, in Bools: what is stored of it, what it drives and shows, and what each event and each write does to it.
use Rattle.std.specs.Prelude.{Bool, true, false, not, ◌&&◌, ◌||◌, cond}
use Rattle.bits.specs.Bits.{differs}

-- Stored for each pin: level, reference, held mark, edge mark.
pub record Pin : Type 0 where
  pub level : Bool
  pub reference : Bool
  pub held : Bool
  pub edge : Bool

abbrev pub pin : (level reference held edge : Bool) → Pin
pin level reference held edge = record { level = level; reference = reference; held = held; edge = edge }

-- What the registers that events depend on say of the pin. Configuration 1: input. Mask 1: masked.
-- The edge field's low bit asks for rising edges, its high bit for falling ones: 01 rising, 10 falling, 11 either.
pub record Source : Type 0 where
  pub configuration : Bool
  pub mask : Bool
  pub latch : Bool
  pub rising : Bool
  pub falling : Bool

abbrev pub source : (configuration mask latch rising falling : Bool) → Source
source configuration mask latch rising falling =
    record { configuration = configuration; mask = mask; latch = latch; rising = rising; falling = falling }

pub data Drive : Type 0 where
  Low High Released : Drive

-- The pin is open-drain exactly if its port's bit differs from its own bit: the own bit flips the port's kind.
unfoldable pub open_drain : (port_kind pin_kind : Bool) → Bool
open_drain port_kind pin_kind = differs port_kind pin_kind

-- Drive. Configuration 1: released. Else output bit 0: low; output bit 1: high, or released if open-drain.
unfoldable pub drive : (configuration output port_kind pin_kind : Bool) → Drive
drive true output port_kind pin_kind = Released
drive false false port_kind pin_kind = Low
drive false true port_kind pin_kind = cond (open_drain port_kind pin_kind) Released High

unfoldable pub is_low : Drive → Bool
is_low Low = true
is_low High = false
is_low Released = false

unfoldable pub is_high : Drive → Bool
is_high Low = false
is_high High = true
is_high Released = false

-- Input port bit, and the same bit in input status. Output pin: its level, or 0 if open-drain.
-- Input pin: the opposite of the reference if latch bit and held mark are set, else the level; inverted if the polarity bit is set.
unfoldable pub input_bit : (configuration latch polarity port_kind pin_kind : Bool) → Pin → Bool
input_bit false latch polarity port_kind pin_kind x = x.level && not (open_drain port_kind pin_kind)
input_bit true latch polarity port_kind pin_kind x = differs polarity (cond (latch && x.held) (not x.reference) x.level)

-- Pending. Edge field 00: if the latch bit is 0, the level differs from the reference; if 1, the held mark. Another field: the edge mark.
unfoldable pub pending : Source → Pin → Bool
pending v x = cond (v.rising || v.falling) x.edge (cond v.latch x.held (differs x.level x.reference))

-- The status bit is 1 exactly if the pin is an input, unmasked and pending.
unfoldable pub status : Source → Pin → Bool
status v x = v.configuration && not v.mask && pending v x

-- To settle a pin: edge mark and held mark to 0, reference to level.
unfoldable pub settle : Pin → Pin
settle x = pin x.level x.level false false

-- A change of level matches the edge field: 01 rising, 10 falling, 11 either.
unfoldable pub matches : Source → (old new : Bool) → Bool
matches v old new = (v.rising && not old && new) || (v.falling && old && not new)

-- Levels. For an input with latch 1 whose new level differs from the reference, the held mark becomes 1.
-- For an unmasked input whose change from the old level matches its field, the edge mark becomes 1. Then the level is the new one.
unfoldable pub level_to : Source → (new : Bool) → Pin → Pin
level_to v new x =
    pin new x.reference (x.held || (v.configuration && v.latch && differs new x.reference))
    (x.edge || (v.configuration && not v.mask && matches v x.level new))

-- A fetch of its input port register settles the pin, acknowledged or not.
unfoldable pub input_fetched : Pin → Pin
input_fetched x = settle x

-- Writing 1 to its clear bit settles the pin, edge or level source; 0 does nothing.
unfoldable pub clear_written : (now : Bool) → Pin → Pin
clear_written true x = settle x
clear_written false x = x

-- Mask written 1: edge mark to 0. Written 0: nothing.
unfoldable pub mask_written : (now : Bool) → Pin → Pin
mask_written true x = pin x.level x.reference x.held false
mask_written false x = x

-- Edge field written 00: edge mark to 0. Other fields keep it.
unfoldable pub edge_written : (rising falling : Bool) → Pin → Pin
edge_written false false x = pin x.level x.reference x.held false
edge_written true falling x = x
edge_written false true x = x

-- Latch written 0: held mark to 0. From 0 to 1 on an input: held exactly if the level differs from the reference; on an output: 0.
-- From 1 to 1: nothing.
unfoldable pub latch_written : (configuration was now : Bool) → Pin → Pin
latch_written configuration was false x = pin x.level x.reference false x.edge
latch_written true false true x = pin x.level x.reference (differs x.level x.reference) x.edge
latch_written false false true x = pin x.level x.reference false x.edge
latch_written configuration true true x = x

-- Configuration written 0: held mark and edge mark to 0. From 0 to 1: the reference stays what it was, the edge mark is 0,
-- and the held mark is 1 exactly if the latch bit is set and the level differs from the reference. From 1 to 1: nothing.
unfoldable pub configuration_written : (latch was now : Bool) → Pin → Pin
configuration_written latch was false x = pin x.level x.reference false false
configuration_written latch false true x = pin x.level x.reference (latch && differs x.level x.reference) false
configuration_written latch true true x = x

-- Reset, of whatever kind: no events held, the reference set to the present level. The level stays.
unfoldable pub reset : Pin → Pin
reset x = settle x

-- A rule for the pins that a register holds: a pin that it does not hold stays as it is.
unfoldable pub only : (here : Bool) → (Pin → Pin) → Pin → Pin
only true rule x = rule x
only false rule x = x
