-- `words_tables::row_of`: the first part's row, or the sister's. Assumes nothing.
use mathlib.Core.Path.{sym, ap, ◌∙◌}
use Prim.Native.Nat.{ℕ}
use Rattle.map.specs.Map.{Part, part_of}
use Rattle.words_rows.specs.Rows.{row_at}
use Rattle.map.proofs.Parts.{sister}
use Rattle.words_tables.proofs.row_of.Goals as goal

pub returns-then-part-eq0 : goal.returns-then-part-eq0
returns-then-part-eq0 c = c.row24.ensures ∙ ap (λ (p : ℕ). row_at (part_of p) c.args.n) (sym c.if-part-eq0.true)

pub returns : goal.returns
returns c = c.row34.ensures ∙ ap (λ (p : Part). row_at p c.args.n) (sister c.args.part c.if-part-eq0.false)
