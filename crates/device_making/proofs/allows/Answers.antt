-- `device_making::allows`: each test is one of the refusal's. Assumes nothing.
use native.Mathlib.Omega.{arith}
use lib.Pow.{pow_pos}
use Rattle.map.specs.Map.{part_of}
use Rattle.device_rules.proofs.Making.{choice_over, levels_over, id_over, none_over}
use Rattle.device_making.proofs.allows.Goals as goal

pub returns-then-from-choice : goal.returns-then-from-choice
returns-then-from-choice c = let x = c.args in choice_over (part_of x.part) x.choice x.levels x.number (omega (arith, c.if-from-choice.true))

pub returns-then-pins_of-levels : goal.returns-then-pins_of-levels
returns-then-pins_of-levels c =
    let x = c.args in
    let all = c.pins_of.ensures in
    let some = pow_pos (part_of x.part).width in
    levels_over (part_of x.part) x.choice x.levels x.number (omega (arith, c.if-from-choice.false)) (omega (arith, all, some, c.if-pins_of-levels.true))

pub returns-then-number-gt-LAST_ID : goal.returns-then-number-gt-LAST_ID
returns-then-number-gt-LAST_ID c =
    let x = c.args in
    let all = c.pins_of.ensures in
    let some = pow_pos (part_of x.part).width in
    id_over (part_of x.part) x.choice x.levels x.number (omega (arith, c.if-from-choice.false)) (omega (arith, all, some, c.if-pins_of-levels.false)) (omega (arith, c.if-number-gt-LAST_ID.true))

pub returns : goal.returns
returns c =
    let x = c.args in
    let all = c.pins_of.ensures in
    let some = pow_pos (part_of x.part).width in
    none_over (part_of x.part) x.choice x.levels x.number (omega (arith, c.if-from-choice.false)) (omega (arith, all, some, c.if-pins_of-levels.false)) (omega (arith, c.if-number-gt-LAST_ID.false))
