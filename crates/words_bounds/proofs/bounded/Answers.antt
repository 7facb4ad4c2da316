-- `words_bounds::bounded`: nothing that may not be set is (`tested`, `passes`). Assumes nothing.
use mathlib.Core.Path.{refl, sym, ap, ◌∙◌}
use mathlib.Core.Bool.{false}
use Prim.Native.Nat.{ℕ}
use lib.Bits.{bit_or, bit_xor}
use lib.ListN.{get_or}
use native.Mathlib.Omega.{arith}
use borrow.Author.Tests.{eqb-true, eq-eqb}
use Rattle.bits.proofs.Decide.{clash}
use Rattle.words_bounds.proofs.Testing.{tested, passes}
use Rattle.words_bounds.proofs.bounded.Goals as goal

pub returns-then-words-gt-LAST_BUS : goal.returns-then-words-gt-LAST_BUS
returns-then-words-gt-LAST_BUS c = (λ r. clash false r refl, λ b. absurd (let h = c.if-words-gt-LAST_BUS.true in omega (arith, b.bus_small)))

pub returns-then-words-gt-LAST_PLACE : goal.returns-then-words-gt-LAST_PLACE
returns-then-words-gt-LAST_PLACE c = (λ r. clash false r refl, λ b. absurd (let h = c.if-words-gt-LAST_PLACE.true in omega (arith, b.place_small)))

pub returns : goal.returns
returns c =
    let a = c.args in
    let w = a.words.now in
    let whole = ap (λ (x : ℕ). bit_or (bit_or (bit_or a.spare x) c.stale.result) (bit_xor (get_or w 27 0) a.part)) c.odd.ensures in (
      λ r. tested a.part w a.spare _ c.requires (c.stale.ensures a.part) c.if-words-gt-LAST_BUS.false c.if-words-gt-LAST_PLACE.false (sym whole ∙ eqb-true _ 0 r),
      λ b. eq-eqb _ 0 (whole ∙ passes a.part w a.spare _ c.requires (c.stale.ensures a.part) b),
    )
