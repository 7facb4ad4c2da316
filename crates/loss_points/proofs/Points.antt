-- Every bench point of the marks holds of the specification, by computation. Assumes nothing.
use lib.Dec.{T}
use Rattle.bits.specs.Bits.{bit, tabulate, some}
use Rattle.pins.specs.Pin.{pending, status, settle, matches, level_to, input_fetched, mask_written, configuration_written, reset, open_drain, input_bit}
use Rattle.pins.specs.AllPins.{map_pins, asserted}
use Rattle.pins.specs.Kept.{status_after}
use Rattle.pins.specs.OnePin.{registers_after, pin_after}
use Rattle.map.specs.Map.{kind_at, reserved, next, onward, next_in, defaults, fitting, file_fits}
use Rattle.registers.specs.Registers.{shown_as, written_to, written_as, fetched_as, fetched, levelled}
use Rattle.registers.specs.Interrupt.{worked_out, after_each, rings_written, rings_fetched, shown_kept}
use Rattle.device_rules.specs.Device.{resetted, byte_in, fetch_in, start_in, step}
use Rattle.device_rules.specs.Refusals.{sets_fit, identity_fits, interrupt_fits, image_fits, refusal, stepped}
use Rattle.device_rules.specs.PowerOn.{power_on}
use Rattle.loss_rules.specs.Marks.{sets_mark, mark_after, quiet_and_healthy, mark_signed, noted, marks_after, signed, marks_fit, new_marks, marked_step, sign_refused, sign_off}
use Rattle.loss_demands.specs.Watched.{acted, after_all}
use Rattle.loss_points.specs.Points.{points, all}

pub all_points : T (all points)
unfolding bit tabulate some pending status settle matches level_to input_fetched mask_written configuration_written reset open_drain input_bit map_pins asserted status_after registers_after pin_after kind_at reserved next onward next_in defaults fitting file_fits shown_as written_to written_as fetched_as fetched levelled worked_out after_each rings_written rings_fetched shown_kept resetted byte_in fetch_in start_in step sets_fit identity_fits interrupt_fits image_fits refusal stepped power_on sets_mark mark_after quiet_and_healthy mark_signed noted marks_after signed marks_fit new_marks marked_step sign_refused sign_off acted after_all
all_points = tt
