-- `words_moves::put_pair`: one merge after the other. Assumes nothing.
use mathlib.Core.Path.{ap, ◌∙◌}
use mathlib.Core.List.{List}
use Prim.Native.Nat.{ℕ, ◌+◌}
use Rattle.words.specs.Words.{merged_at}
use Rattle.words_moves.proofs.put_pair.Goals as goal

pub returns : goal.returns
returns c =
    let a = c.args in
    c.put-2.ensures ∙ ap (λ (l : List ℕ). merged_at l (a.at + 1) a.here a.high) c.put.ensures
