-- `ghixramel_compare`: what was found, the part as its place and its length (`part_told`). Assumes nothing.
use mathlib.Core.Path.{refl, ap, ◌∙◌}
use mathlib.Core.List.{[], ◌∷◌}
use Prim.Native.Nat.{ℕ}
use Rattle.compare_logs.proofs.Laws.{part_told}
use Rattle.ghixramel.proofs.ghixramel_compare.Goals as goal

pub returns : goal.returns
returns c =
    (refl, ap (λ (v : ℕ). v ∷ []) (c.from.ensures ∙ c.find-found.ensures.verdict_is), part_told c.args.events.now c.args.answers.now c.find-found.ensures)
