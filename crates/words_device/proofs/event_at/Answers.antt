-- `words_device::event_at`: a command, or another event of the bus. Assumes nothing.
use mathlib.Core.Path.{sym, ap}
use Prim.Native.Nat.{ℕ}
use Rattle.map.specs.Map.{part_of}
use Rattle.device_rules.specs.Refusals.{stepped}
use Rattle.words_state.specs.Packed.{state_in}
use Rattle.words_state.proofs.Left.{by_rule}
use Rattle.words_state.proofs.Standing.{stands, its_pins}
use Rattle.words_device.proofs.event_at.Goals as goal

pub command-requires : goal.command-requires
command-requires c =
    (stands _ c.args.words.now c.requires.0 _ _ c.row_of-wanted.ensures, (c.is_command.ensures.0 c.if-is_command.true).1)

pub returns-then-is_command : goal.returns-then-is_command
returns-then-is_command c =
    let a = c.args in
    let p = part_of a.part in
    let yes = c.is_command.ensures.0 c.if-is_command.true in
    by_rule (c.command.ensures a.part c.requires.0 yes.1 c.row_of-wanted.ensures) (ap (λ (n : ℕ). stepped p (state_in p a.words.now) n a.arg) (sym yes.0))

pub event-requires : goal.event-requires
event-requires c =
    let w = c.args.words.now in
    let k = c.requires.0 in (
      stands _ w k _ _ c.requires.1,
      its_pins _ w k _ c.pins_of.ensures,
      c.is_command.ensures.1 c.if-is_command.false,
    )

pub returns : goal.returns
returns c = c.event.ensures _ c.requires.0 c.pins_of.ensures c.requires.1 (c.is_command.ensures.1 c.if-is_command.false)
