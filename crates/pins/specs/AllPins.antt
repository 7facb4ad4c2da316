-- All pins at once: each number is a pin set, and its bit i belongs to pin i. The number of pins is w, whatever it is.
use Rattle.std.specs.Prelude.{◌≡◌, Bool, ℕ, ◌<◌, ◌^◌}
use Rattle.bits.specs.Bits.{bit, tabulate, some}
use Rattle.pins.specs.Pin.{Source, Pin, Drive, drive}
use Rattle.pins.specs.declared.Sets.{Sets}
use Rattle.pins.specs.declared.Sources.{Sources}

-- pin i of what is stored of the pins: four sets, level, reference, held and edge
abbrev pub pin_at : Sets → ℕ → Pin
pin_at x i = record { level = bit x.level i; reference = bit x.reference i; held = bit x.held i; edge = bit x.edge i }

-- what the code's five words say of pin i
abbrev pub source_at : Sources → ℕ → Source
source_at v i = record {
  configuration = bit v.configuration i;
  mask = bit v.mask i;
  latch = bit v.latch i;
  rising = bit v.rising i;
  falling = bit v.falling i;
}

abbrev pub drive_at : (configuration output port_kind pin_kind : ℕ) → ℕ → Drive
drive_at configuration output port_kind pin_kind i = drive (bit configuration i) (bit output i) (bit port_kind i) (bit pin_kind i)

-- each is a set of the w pins
pub record Within (w : ℕ) (x : Sets) : Type 0 where
  pub level_small : x.level < 2 ^ w
  pub reference_small : x.reference < 2 ^ w
  pub held_small : x.held < 2 ^ w
  pub edge_small : x.edge < 2 ^ w

-- each pin i is changed by rule i
unfoldable pub map_pins : ℕ → Sets → (ℕ → Pin → Pin) → Sets
map_pins w x rule = record {
  level = tabulate w (λ i. (rule i (pin_at x i)).level);
  reference = tabulate w (λ i. (rule i (pin_at x i)).reference);
  held = tabulate w (λ i. (rule i (pin_at x i)).held);
  edge = tabulate w (λ i. (rule i (pin_at x i)).edge);
}

-- s holds pin i exactly if f i, at every pin, and is a set of w pins wherever `within` is one
pub record PinsOf (s : ℕ) (f : ℕ → Bool) (within : ℕ) : Type 0 where
  pub pins : (i : ℕ) → bit s i ≡ f i
  pub small : (w : ℕ) → within < 2 ^ w → s < 2 ^ w

-- INT is asserted (low) exactly if some status bit of the w pins is 1
unfoldable pub asserted : ℕ → (status : ℕ → Bool) → Bool
asserted w status = some w status
