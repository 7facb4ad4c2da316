-- Events by their kind and argument, and which images, kinds and arguments are refused.
use Rattle.std.specs.Prelude.{Bool, true, cond, not, ◌&&◌, [], ◌∷◌, ℕ, ◌^◌, eqb, ltb, leb, get_or}
use Rattle.pins.specs.declared.Sets.{Sets}
use Rattle.map.specs.Map.{Part, reserved, file_fits}
use Rattle.registers.specs.Interrupt.{worked_out}
use Rattle.device_rules.specs.Device.{Identity, State, Event, Outcome, out, step}
use Rattle.device_rules.specs.Device.Event.{Start, Stop, HardwareReset, ByteSent, ByteFetched, Levels}
use Rattle.device_rules.specs.declared.Answer.TheVariants.{Refused}

-- Event kinds: 0 START, 1 STOP, 2 byte, 3 fetch (1 = acknowledged), 4 levels, 5 hardware reset.
abbrev pub event_of : (kind arg : ℕ) → Event
event_of kind arg = get_or (Start ∷ Stop ∷ ByteSent arg ∷ ByteFetched (eqb arg 1) ∷ Levels arg ∷ []) kind HardwareReset

-- ---- refusals, by their numbers; 0 is none
-- 3: pointer reserved or over 7Fh, mode over 1, bus state over 11, address choice over 3, a Device ID of more than 24 bits, place over 2, a pin set that has other pins than the part's,
-- an entry of the file that may not stand there, or a status set or a line that is not what the rules work out
unfoldable pub sets_fit : Part → Sets → Bool
sets_fit p x = ltb x.level (2 ^ p.width) && (ltb x.reference (2 ^ p.width) && (ltb x.held (2 ^ p.width) && ltb x.edge (2 ^ p.width)))

unfoldable pub interrupt_fits : Part → State → Bool
interrupt_fits p s = eqb s.interrupt.status (worked_out p s.regs).status && eqb s.interrupt.line (worked_out p s.regs).line

unfoldable pub identity_fits : Identity → Bool
identity_fits id = ltb id.number (2 ^ 24) && ltb id.place 3

unfoldable pub image_fits : Part → State → Bool
image_fits p s =
    not (reserved p s.pointer)
    && (ltb s.mode 2
    && (ltb s.bus 12 && (ltb s.choice 4 && (identity_fits s.id && (sets_fit p s.regs.sets && (file_fits p s.regs.file && interrupt_fits p s))))))

-- what an argument of the kind must be below; START, STOP and reset ignore it
abbrev pub argument_fits : Part → (kind arg : ℕ) → Bool
argument_fits p kind arg =
    cond (eqb kind 2) (ltb arg 256) (cond (eqb kind 3) (ltb arg 2) (cond (eqb kind 4) (ltb arg (2 ^ p.width)) true))

-- tested in this order: image 3, event kind above 5: 1, argument 2
unfoldable pub refusal : Part → State → (kind arg : ℕ) → ℕ
refusal p s kind arg = cond (image_fits p s) (cond (leb kind 5) (cond (argument_fits p kind arg) 0 2) 1) 3

-- an event given by its kind and argument: refused, the state as given; else the step
unfoldable pub stepped : Part → State → (kind arg : ℕ) → Outcome
stepped p s kind arg = cond (eqb (refusal p s kind arg) 0) (step p s (event_of kind arg)) (out (Refused (refusal p s kind arg)) s)
