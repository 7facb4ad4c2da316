-- A status bit that shows 1 goes to 0 only by a listed cause: every lawful part, every well-formed state, every event, every pin. Assumes nothing.
use mathlib.Core.Path.{◌≡◌, sym, ap, ◌∙◌}
use mathlib.Core.Bool.{Bool, true, false, cond}
use Prim.Native.Nat.{ℕ, ◌<◌}
use lib.Dec.{eqb}
use Rattle.bits.proofs.Decide.{clash}
use Rattle.pins.specs.OnePin.{status_of}
use Rattle.pins.specs.Cause.{Cause}
use Rattle.pins.proofs.Causes.{only_by_cause}
use Rattle.map.specs.Map.{Part}
use Rattle.registers.specs.Registers.{one_pin}
use Rattle.registers.proofs.Lawful.{Lawful}
use Rattle.device_rules.specs.Device.{State, out, step}
use Rattle.device_rules.specs.Refusals.{refusal, stepped, event_of}
use Rattle.device_rules.specs.declared.Answer.TheVariants.{Refused}
use Rattle.device_demands.specs.Happens.{happens_to}
use Rattle.device_demands.proofs.Machine.{as_one_pin}
use Rattle.device_demands.proofs.Keeps.{WellFormed}

pub no_flag_without_cause : (p : Part) → Lawful p → (s : State) → WellFormed p s → (kind arg i : ℕ) → i < p.width
    → status_of (one_pin p s.regs i) ≡ true → status_of (one_pin p (stepped p s kind arg).after.regs i) ≡ false
    → Cause (happens_to p s (event_of kind arg) i) (one_pin p s.regs i)
unfolding stepped
no_flag_without_cause p ok s g kind arg i hi before gone = go (eqb (refusal p s kind arg) 0) gone
  where
    go : (taken : Bool)
        → status_of (one_pin p (cond taken (step p s (event_of kind arg)) (out (Refused (refusal p s kind arg)) s)).after.regs i) ≡ false
        → Cause (happens_to p s (event_of kind arg) i) (one_pin p s.regs i)
    go true e =
        only_by_cause (happens_to p s (event_of kind arg) i) (one_pin p s.regs i) before
        (ap status_of (sym (as_one_pin p ok s i hi g.full g.sound.pointer_small (event_of kind arg))) ∙ e)
    go false e = clash (status_of (one_pin p s.regs i)) before e
