-- Every bench point of one pin holds of the rules, by computation. Assumes nothing.
use lib.Dec.{T}
use Rattle.pins.specs.Pin.{open_drain, drive, is_low, is_high, input_bit, pending, status, settle, matches, level_to, input_fetched, clear_written, mask_written, latch_written, configuration_written, reset}
use Rattle.pins.specs.OnePin.{registers_after, pin_after}
use Rattle.pins.specs.Points.{points, all}

pub all_points : T (all points)
unfolding open_drain drive is_low is_high input_bit pending status settle matches level_to input_fetched clear_written mask_written latch_written configuration_written reset registers_after pin_after
all_points = tt
