-- `words_fits::spare_in`: each part has its own limits. Assumes nothing.
use native.Mathlib.Omega.{arith}
use mathlib.Core.Path.{◌≡◌}
use Rattle.words_fits.proofs.Parts.{limits24, limits34}
use Rattle.words_fits.proofs.spare_in.Goals as goal

pub returns-then-this-eq0 : goal.returns-then-this-eq0
returns-then-this-eq0 g c = rw c.if-this-eq0.true (c.spare.ensures 0 limits24)

pub returns : goal.returns
returns g c = let e : g.row.PART ≡ 1 = omega arith in rw e (c.spare-2.ensures 1 limits34)
