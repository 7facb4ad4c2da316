-- `map::onward_of`: the first part's step, or the sister's. Assumes nothing.
use mathlib.Core.Path.{sym, ap, ◌∙◌}
use Prim.Native.Nat.{ℕ}
use Rattle.map.specs.Map.{Part, part_of, reserved, onward}
use Rattle.map.proofs.Parts.{sister}
use Rattle.map.proofs.onward_of.Goals as goal

pub onward24-requires : goal.onward24-requires
onward24-requires c = let a = c.args in ap (λ (p : ℕ). reserved (part_of p) a.n) (sym c.if-part-eq0.true) ∙ c.requires

pub returns-then-part-eq0 : goal.returns-then-part-eq0
returns-then-part-eq0 c = let a = c.args in c.onward24.ensures ∙ ap (λ (p : ℕ). onward (part_of p) a.n) (sym c.if-part-eq0.true)

pub onward34-requires : goal.onward34-requires
onward34-requires c = let a = c.args in ap (λ (p : Part). reserved p a.n) (sister a.part c.if-part-eq0.false) ∙ c.requires

pub returns : goal.returns
returns c = let a = c.args in c.onward34.ensures ∙ ap (λ (p : Part). onward p a.n) (sister a.part c.if-part-eq0.false)
