-- `words_fetches::was_fetched`: Deaf, or the pointer's step by the mode. Assumes nothing.
use mathlib.Core.Path.{refl, ap, ◌∙◌}
use lib.ListN.{get_or, set}
use Rattle.map.specs.Map.{part_of}
use Rattle.map.proofs.Onward.{known_small, in_group, over_map}
use Rattle.words_rows.proofs.Taken.{next_of}
use Rattle.words_fetches.proofs.was_fetched.Goals as goal

pub returns-then-not-acknowledged : goal.returns-then-not-acknowledged
returns-then-not-acknowledged c =
    let deaf = c.if-not-acknowledged.true in
    (c.goes.ensures.0, λ k packed e. simp deaf c.goes.ensures.1)

pub returns-then-words-ne0 : goal.returns-then-words-ne0
returns-then-words-ne0 c =
    let a = c.args in
    let w = a.words.now in
    let on = c.if-not-acknowledged.false in (
      c.steps_over_map.ensures.0,
      λ k packed e.
          simp on
          (c.steps_over_map.ensures.1 k packed ∙ ap (set w 21) (over_map (part_of k) (get_or w 24 0) (get_or w 21 0) packed.mode_small c.if-words-ne0.true)),
    )

pub returns : goal.returns
returns c =
    let a = c.args in
    let w = a.words.now in
    let n = get_or w 21 0 in
    let on = c.if-not-acknowledged.false in (
      refl,
      λ k packed e.
          let known = packed.pointer_known in
          simp on
          (ap (set w 21) (next_of a.row k n known e (c.successor.ensures k n (known_small (part_of k) n known) e) ∙ in_group (part_of k) (get_or w 24 0) n c.if-words-ne0.false)),
    )
