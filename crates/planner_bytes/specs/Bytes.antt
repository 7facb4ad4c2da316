-- A pin's bits in a setting's pin sets.
use Rattle.std.specs.Prelude.{ℕ}
use Rattle.bits.specs.Bits.{bit}
use Rattle.planner_quiet.specs.Settings.{PinBits}
use Rattle.planner_bytes.specs.declared.PinSets.{PinSets}

-- bit i of the four sets
abbrev pub pin_in : PinSets → ℕ → PinBits
pin_in x i = record { output = bit x.output i; configuration = bit x.configuration i; port_kind = bit x.kind i; pin_kind = bit x.flip i }
