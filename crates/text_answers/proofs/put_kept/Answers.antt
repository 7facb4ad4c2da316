-- `text_answers::put_kept`: the first bytes or all of them, by the part. Assumes nothing.
use borrow.Author.Rules.{rules}
use native.Mathlib.Omega.{arith}
use mathlib.Core.Path.{◌≡◌, ap, sym, ◌∙◌}
use Prim.Native.Nat.{ℕ}
use lib.Seq.{take_all}
use Rattle.map.specs.Map.{Part, part_of}
use Rattle.text.proofs.Laws.{wrote_as}
use Rattle.text_answers.specs.Answers.{kept_of}
use Rattle.text_answers.proofs.Laws.{sister}
use Rattle.text_answers.proofs.put_kept.Goals as goal

pub slice_bounds-put-end : goal.slice_bounds-put-end
slice_bounds-put-end c = omega (arith, c.requires.1)

pub returns-then-part-eq0 : goal.returns-then-part-eq0
returns-then-part-eq0 c =
    let s = c.args in
    let z : s.part ≡ 0 = search rules in
    wrote_as (ap (λ (n : ℕ). kept_of (part_of n) s.kept.now) (sym z)) c.put.ensures

pub slice_bounds-put-end-2 : goal.slice_bounds-put-end-2
slice_bounds-put-end-2 c = omega (arith, c.requires.1)

pub put-requires-2 : goal.put-requires-2
put-requires-2 c = omega (arith, c.requires.0, c.requires.1)

pub returns : goal.returns
returns c =
    let s = c.args in
    let e = ap (λ (x : Part). kept_of x s.kept.now) (sister s.part (search rules)) ∙ take_all 22 s.kept.now (omega (arith, c.requires.1)) in
    wrote_as (sym e) c.put-2.ensures
