-- Every bench point holds of the specification, by computation: images from power-on on are never broken, and so are not tested again at each event. Assumes nothing.
use mathlib.Core.Path.{◌≡◌, refl, sym, ap, ap₂, subst, ◌∙◌}
use mathlib.Core.Bool.{Bool, true, false, cond, ◌&&◌}
use mathlib.Core.List.{List, [], ◌∷◌}
use Prim.Native.Nat.{ℕ}
use native.Mathlib.Omega.{arith}
use lib.Dec.{T, eqb, leb}
use lib.Pow.{pow_pos}
use Rattle.bits.specs.Bits.{bit, tabulate, some}
use Rattle.pins.specs.Pin.{open_drain, drive, is_low, is_high, input_bit, pending, status, settle, matches, level_to, input_fetched, clear_written, mask_written, edge_written, latch_written, configuration_written, reset}
use Rattle.pins.specs.AllPins.{map_pins, asserted}
use Rattle.pins.specs.Kept.{status_after}
use Rattle.pins.specs.OnePin.{registers_after, pin_after}
use Rattle.map.specs.Map.{Part, part_of, kind_at, reserved, next, onward, next_in, walked, defaults, fitting, file_fits}
use Rattle.registers.specs.Registers.{driven_low, driven_high, int_asserted, shown_as, written_to, written_as, fetched_as, fetched, levelled}
use Rattle.registers.specs.Interrupt.{worked_out, after_each, rings_written, rings_fetched, shown_kept}
use Rattle.registers.proofs.Lawful.{Lawful, lawful}
use Rattle.device_rules.specs.Device.{State, Outcome, out, resetted, byte_in, fetch_in, start_in, step}
use Rattle.device_rules.specs.Refusals.{sets_fit, identity_fits, interrupt_fits, image_fits, refusal, stepped, event_of, argument_fits}
use Rattle.device_rules.specs.declared.Answer.TheVariants.{Refused}
use Rattle.device_rules.specs.PowerOn.{power_on}
use Rattle.device_demands.specs.Run.{Asked}
use Rattle.device_demands.proofs.Keeps.{WellFormed, image_of, stepped_keeps, power_on_fits}
use Rattle.planner_quiet.specs.Route.{mid_configuration, mid_output, plan_of}
use Rattle.planner_promise.specs.Answer.{answer_of}
use Rattle.points.specs.Bench.{Case, last, begun, holds, cases, all}
use Rattle.points.specs.Bench.Case.{case, made, image, planned}

-- an event on an image that fits, by its kind and argument
abbrev taken : Part → State → (kind arg : ℕ) → Outcome
taken p s kind arg = cond (leb kind 5) (cond (argument_fits p kind arg) (step p s (event_of kind arg)) (out (Refused 2) s)) (out (Refused 1) s)

stepped_taken : (p : Part) (s : State) → WellFormed p s → (kind arg : ℕ) → stepped p s kind arg ≡ taken p s kind arg
unfolding stepped refusal
stepped_taken p s g kind arg = simp (image_of p s g.sound) (go (leb kind 5) (argument_fits p kind arg))
  where
    go : (k a : Bool)
        → cond (eqb (cond k (cond a 0 2) 1) 0) (step p s (event_of kind arg)) (out (Refused (cond k (cond a 0 2) 1)) s)
        ≡ cond k (cond a (step p s (event_of kind arg)) (out (Refused 2) s)) (out (Refused 1) s)
    go true true = refl
    go true false = refl
    go false a = refl

-- the last outcome, no image tested
abbrev last_taken : Part → Outcome → List Asked → Outcome
last_taken p o [] = o
last_taken p o (e ∷ es) = last_taken p (taken p o.after e.kind e.arg) es

same_last : (p : Part) → Lawful p → (o : Outcome) → WellFormed p o.after → (es : List Asked) → last p o es ≡ last_taken p o es
same_last p ok o g [] = refl
same_last p ok o g (e ∷ es) =
    same_last p ok (stepped p o.after e.kind e.arg) (stepped_keeps p ok o.after g e.kind e.arg) es
    ∙ ap (λ (x : Outcome). last_taken p x es) (stepped_taken p o.after g e.kind e.arg)

abbrev holds_taken : Case → Bool
holds_taken (case part events look seen) = eqb (look (part_of part) (last_taken (part_of part) (begun (part_of part)) events)) seen
holds_taken (made part levels id refusal) = holds (made part levels id refusal)
holds_taken (image part change refusal) = holds (image part change refusal)
holds_taken (planned part start goal room look seen) = holds (planned part start goal room look seen)

same_holds : (c : Case) → holds c ≡ holds_taken c
same_holds (case part events look seen) =
    ap (λ (o : Outcome). eqb (look (part_of part) o) seen)
    (same_last (part_of part) (lawful part) (begun (part_of part))
    (power_on_fits (part_of part) (lawful part) 0 0 0x123456 (omega arith) (pow_pos (part_of part).width) (omega arith)) events)
same_holds (made part levels id refusal) = refl
same_holds (image part change refusal) = refl
same_holds (planned part start goal room look seen) = refl

abbrev all_taken : List Case → Bool
all_taken [] = true
all_taken (c ∷ cs) = holds_taken c && all_taken cs

same_all : (cs : List Case) → all cs ≡ all_taken cs
same_all [] = refl
same_all (c ∷ cs) = ap₂ (λ (a b : Bool). a && b) (same_holds c) (same_all cs)

computed : T (all_taken cases)
unfolding bit tabulate some open_drain drive is_low is_high input_bit pending status settle matches level_to input_fetched clear_written mask_written edge_written latch_written configuration_written reset map_pins asserted status_after registers_after pin_after kind_at reserved next onward next_in walked defaults fitting file_fits driven_low driven_high int_asserted shown_as written_to written_as fetched_as fetched levelled worked_out after_each rings_written rings_fetched shown_kept resetted byte_in fetch_in start_in step sets_fit identity_fits interrupt_fits image_fits refusal stepped power_on answer_of plan_of mid_configuration mid_output
computed = tt

pub all_cases : T (all cases)
all_cases = subst T (sym (same_all cases)) computed
