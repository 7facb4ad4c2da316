-- `words_data::steps_over_map`: the map's step onward. Assumes nothing.
use mathlib.Core.Path.{◌≡◌, refl, ap, ◌∙◌}
use mathlib.Core.Bool.{false}
use Prim.Native.Nat.{ℕ, ◌%◌, ◌<◌}
use native.Mathlib.Nat.{mod-eq_of_lt}
use lib.ListN.{get_or, set}
use Rattle.map.specs.Map.{part_of, reserved, onward}
use Rattle.map.proofs.Onward.{known_small}
use Rattle.words_data.proofs.steps_over_map.Goals as goal

-- a register's number is below 128
whole : (part n : ℕ) → reserved (part_of part) n ≡ false → n % 128 ≡ n
whole part n known = let h : n < 128 = known_small (part_of part) n known in mod-eq_of_lt h

pub onward_of-requires : goal.onward_of-requires
onward_of-requires c =
    let w = c.args.words.now in
    let known = c.requires.pointer_known in
    ap (reserved (part_of (get_or w 27 0))) (whole (get_or w 27 0) (get_or w 21 0) known) ∙ known

pub returns : goal.returns
returns c =
    let w = c.args.words.now in
    let n = get_or w 21 0 in (
      refl,
      λ k packed.
          ap (set w 21) (c.onward_of.ensures ∙ ap (λ (part : ℕ). onward (part_of part) (n % 128)) packed.part_is ∙ ap (onward (part_of k)) (whole k n packed.pointer_known)),
    )
