-- `words_device::event`: START or STOP, or the row at the pointer of packed words. Assumes nothing.
use lib.ListN.{get_or}
use Rattle.map.specs.Map.{part_of}
use Rattle.map.proofs.Onward.{known_small}
use Rattle.words_state.proofs.Standing.{its_pins}
use Rattle.words_device.proofs.event.Goals as goal

pub condition-requires : goal.condition-requires
condition-requires c = (c.requires, its_pins _ c.args.words.now c.requires _ c.pins_of.ensures, c.if-kind-lt-BYTE.true)

pub returns-then-kind-lt-BYTE : goal.returns-then-kind-lt-BYTE
returns-then-kind-lt-BYTE c = c.condition.ensures _ c.args.arg c.requires c.pins_of.ensures

pub row_of-row-requires : goal.row_of-row-requires
row_of-row-requires c =
    let w = c.args.words.now in
    known_small (part_of (get_or w 27 0)) (get_or w 21 0) c.requires.pointer_known
