-- `text_answers::digits_of`: by the part (`sister`). Assumes nothing.
use mathlib.Core.Path.{ap, sym}
use Prim.Native.Nat.{ℕ}
use native.Mathlib.Omega.{arith}
use Rattle.map.specs.Map.{part_of}
use Rattle.text_answers.specs.Answers.{digits_of}
use Rattle.text_answers.proofs.Laws.{sister}
use Rattle.text_answers.proofs.digits_of.Goals as goal

pub returns-then-part-eq0 : goal.returns-then-part-eq0
returns-then-part-eq0 c = (sym (ap (λ (n : ℕ). digits_of (part_of n)) c.if-part-eq0.true), omega arith)

pub returns : goal.returns
returns c = (sym (ap digits_of (sister _ c.if-part-eq0.false)), omega arith)
