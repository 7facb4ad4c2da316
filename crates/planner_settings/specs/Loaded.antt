-- What the code knows of a part and of a setting.
use Rattle.std.specs.Prelude.{false, cond, ◌&&◌, ◌≡◌, ℕ, suc, ◌+◌, ◌-◌, ◌*◌, ◌^◌, ◌≤◌, ◌<◌, ltb}
use Rattle.bits.specs.Bits.{bit}
use Rattle.map.specs.Map.{Part, first_of}
use Rattle.map.specs.Map.Kind.{Output, Configuration, PortKind, PinKind}
use Rattle.planner_quiet.specs.Settings.{shape_of, Settings, bits_of}
use Rattle.planner_promise.specs.Formed.{formed}
use Rattle.planner_bytes.specs.Bytes.{pin_in}
use Rattle.planner_bytes.specs.declared.PinSets.{PinSets}
use Rattle.planner_settings.specs.declared.Layout.{Layout}

-- the numbers of a part, and that they are small
pub record LaidOut (p : Part) (l : Layout) : Type 0 where
  pub some : 0 < l.ports
  pub few : l.ports ≤ 5
  pub output_small : l.output < 128
  pub configuration_small : l.configuration < 128
  pub flip_small : l.flip < 128
  pub ports_is : l.ports ≡ p.ports
  pub output_is : l.output ≡ first_of p Output
  pub configuration_is : l.configuration ≡ first_of p Configuration
  pub kind_is : l.kind ≡ first_of p PortKind
  pub flip_is : l.flip ≡ first_of p PinKind
  pub kinds_is : suc l.kinds ≡ 2 ^ p.ports
  pub last_is : suc l.last ≡ 2 ^ (shape_of p).width (p.ports - 1)

-- the pin sets of a setting: pin j of port k is pin 8k + j, and there is no pin past the ports
pub record Loaded (p : Part) (s : Settings) (x : PinSets) : Type 0 where
  pub pins : (k j : ℕ) → k < p.ports → j < 8 → pin_in x (8 * k + j) ≡ bits_of (shape_of p) s k j
  pub none : (i : ℕ) → 8 * p.ports ≤ i → bit x.output i ≡ false

-- the refusals that need no look at a pin, in their order; 0 for none
abbrev pub early : Part → (start goal : Settings) → (room needed : ℕ) → ℕ
early p start goal room needed = cond (formed p start && formed p goal) (cond (ltb room needed) 6 0) 5
