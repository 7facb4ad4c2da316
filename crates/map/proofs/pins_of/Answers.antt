-- `map::pins_of`: the first part's pins, or the sister's. Assumes nothing.
use mathlib.Core.Path.{sym, ap}
use Prim.Native.Nat.{ℕ, ◌-◌, ◌^◌}
use Rattle.map.specs.Map.{Part, part_of}
use Rattle.map.proofs.Parts.{sister}
use Rattle.map.proofs.pins_of.Goals as goal

pub returns-then-part-eq0 : goal.returns-then-part-eq0
returns-then-part-eq0 c = ap (λ (p : ℕ). 2 ^ (part_of p).width - 1) (sym c.if-part-eq0.true)

pub returns : goal.returns
returns c = ap (λ (p : Part). 2 ^ p.width - 1) (sister c.args.part c.if-part-eq0.false)
