-- What an event on the device is to pin i: the state before and the event say it, and nothing else.
use Rattle.std.specs.Prelude.{cond, ℕ, eqb}
use Rattle.bits.specs.Bits.{bit}
use Rattle.pins.specs.OnePin.{Happening}
use Rattle.pins.specs.OnePin.Happening.{LevelTo, Reset, Elsewhere}
use Rattle.map.specs.Map.{Part, kind_at}
use Rattle.registers.specs.Registers.{written_to, fetched_as}
use Rattle.device_rules.specs.Device.{State, Event, Bus, bus_at, number}
use Rattle.device_rules.specs.Device.Bus.{Idle, Opened, Chosen, Filling, Sending, Call, Armed, Deaf, Asking, Named, Reopened, Telling}
use Rattle.device_rules.specs.Device.Event.{Start, Stop, HardwareReset, ByteSent, ByteFetched, Levels}

-- a byte from the master reaches a register only in Filling
unfoldable pub sent_in : Part → Bus → State → (b i : ℕ) → Happening
sent_in p Filling s b i = written_to p (kind_at p s.pointer) s.pointer b i
sent_in p Idle s b i = Elsewhere
sent_in p Opened s b i = Elsewhere
sent_in p Chosen s b i = Elsewhere
sent_in p Sending s b i = Elsewhere
sent_in p Call s b i = Elsewhere
sent_in p Armed s b i = Elsewhere
sent_in p Deaf s b i = Elsewhere
sent_in p Asking s b i = Elsewhere
sent_in p Named s b i = Elsewhere
sent_in p Reopened s b i = Elsewhere
sent_in p Telling s b i = Elsewhere

-- a fetch reaches a register only in Sending
unfoldable pub fetched_in : Part → Bus → State → (i : ℕ) → Happening
fetched_in p Sending s i = fetched_as p (kind_at p s.pointer) s.pointer i
fetched_in p Idle s i = Elsewhere
fetched_in p Opened s i = Elsewhere
fetched_in p Chosen s i = Elsewhere
fetched_in p Filling s i = Elsewhere
fetched_in p Call s i = Elsewhere
fetched_in p Armed s i = Elsewhere
fetched_in p Deaf s i = Elsewhere
fetched_in p Asking s i = Elsewhere
fetched_in p Named s i = Elsewhere
fetched_in p Reopened s i = Elsewhere
fetched_in p Telling s i = Elsewhere

unfoldable pub happens_to : Part → State → Event → (i : ℕ) → Happening
happens_to p s Start i = Elsewhere
happens_to p s Stop i = cond (eqb s.bus (number Armed)) Reset Elsewhere
happens_to p s HardwareReset i = Reset
happens_to p s (ByteSent b) i = sent_in p (bus_at s.bus) s b i
happens_to p s (ByteFetched acknowledged) i = fetched_in p (bus_at s.bus) s i
happens_to p s (Levels new) i = LevelTo (bit new i)
