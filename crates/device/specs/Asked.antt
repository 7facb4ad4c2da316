-- What is asked of a device, and what is answered: of a broken image, refused with 3, nothing is told of its state; a register number that is reserved or over 7Fh is refused with 2.
use Rattle.std.specs.Prelude.{Bool, cond, ℕ, Result, Ok, Err}
use Rattle.map.specs.Map.{part_of, reserved}
use Rattle.registers.specs.Registers.{driven_low, driven_high, int_asserted}
use Rattle.device_rules.specs.Device.{shown_in}
use Rattle.device_making.specs.declared.Refusal.{Refusal}
use Rattle.device_making.specs.declared.Refusal.TheVariants.{BadArgument, BadImage}
use Rattle.device.specs.Held.{state_in, fits_in}
use Rattle.device.specs.declared.Device.{Device}

-- the pins driven low, and driven high
abbrev pub low_of : Device → Result ℕ Refusal
low_of d = cond (fits_in d) (Ok (driven_low (part_of d.part) (state_in d).regs)) (Err BadImage)

abbrev pub high_of : Device → Result ℕ Refusal
high_of d = cond (fits_in d) (Ok (driven_high (part_of d.part) (state_in d).regs)) (Err BadImage)

-- whether INT is asserted
abbrev pub line_of : Device → Result Bool Refusal
line_of d = cond (fits_in d) (Ok (int_asserted (part_of d.part) (state_in d).regs)) (Err BadImage)

-- the byte that a fetch of register n would show
abbrev pub shown_of : Device → (n : ℕ) → Result ℕ Refusal
shown_of d n = cond (fits_in d) (cond (reserved (part_of d.part) n) (Err BadArgument) (Ok (shown_in (part_of d.part) (state_in d) n))) (Err BadImage)
