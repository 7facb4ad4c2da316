-- The pairs that the code tries, port by port.
use Rattle.std.specs.Prelude.{List, [], ◌++◌, ℕ, zero, suc, ◌+◌}
use Rattle.bits.specs.Bits.{bit}
use Rattle.ports.specs.Ports.{byte_of}
use Rattle.map.specs.Map.{Part, Kind, first_of}
use Rattle.map.specs.Map.Kind.{Output, Configuration, PinKind}
use Rattle.planner_bytes.specs.declared.PinSets.{PinSets}
use Rattle.planner_pairs.specs.Pairs.{pair_of}

-- port k's byte of a group, from one pin set to another
abbrev pub port_pair : Part → Kind → (k was to : ℕ) → List ℕ
port_pair p g k was to = pair_of (first_of p g + k) (byte_of k (bit was)) (byte_of k (bit to))

-- port k's output and configuration, behind what is there
abbrev pub turn_pairs : Part → (a b : PinSets) → (k : ℕ) → List ℕ → List ℕ
turn_pairs p a b k out = (out ++ port_pair p Output k a.output b.output) ++ port_pair p Configuration k a.configuration b.configuration

-- every port to the middle
abbrev pub opens_to : Part → (s m : PinSets) → (ports : ℕ) → List ℕ
opens_to p s m zero = []
opens_to p s m (suc k) = turn_pairs p s m k (opens_to p s m k)

-- port k to the goal: pin kinds, output, configuration
abbrev pub close_pairs : Part → (m g : PinSets) → (k : ℕ) → List ℕ → List ℕ
close_pairs p m g k out = turn_pairs p m g k (out ++ port_pair p PinKind k m.flip g.flip)

abbrev pub closes_to : Part → (m g : PinSets) → List ℕ → (ports : ℕ) → List ℕ
closes_to p m g out zero = out
closes_to p m g out (suc k) = close_pairs p m g k (closes_to p m g out k)
