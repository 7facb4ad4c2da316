-- A reset leaves the words of the part's defaults, computed for each part, and the pins settled. Assumes nothing.
use mathlib.Core.Path.{◌≡◌, refl, sym, ap, ◌∙◌}
use mathlib.Core.Bool.{false}
use mathlib.Core.List.{List, []}
use Prim.Native.Nat.{ℕ, zero, suc, ◌-◌, ◌^◌, ◌<◌}
use native.Mathlib.Omega.{arith}
use lib.ListN.{get_or}
use Rattle.bits.specs.Bits.{bit, tabulate}
use Rattle.bits.proofs.Decide.{each_bool}
use Rattle.pins.specs.Pin.{reset}
use Rattle.pins.specs.AllPins.{map_pins}
use Rattle.pins.specs.declared.Sets.{Sets}
use Rattle.pins.proofs.AllPins.{map_within}
use Rattle.map.specs.Map.{part24, part34, kind_at, reserved, defaults, part_of}
use Rattle.registers.specs.Registers.{core}
use Rattle.registers.specs.Interrupt.{worked_out, quiet}
use Rattle.registers.proofs.Writing.{same as same-core}
use Rattle.registers.proofs.Kept.{same_interrupt, kept_reset}
use Rattle.device_rules.specs.Device.{number, identity, state, out, resetted}
use Rattle.device_rules.specs.Device.Bus.{Idle}
use Rattle.device_rules.specs.declared.Answer.TheVariants.{Nothing}
use Rattle.device_rules.proofs.Stepping.{same_state, same_identity}
use Rattle.words.specs.Words.{slot_at, digit_at, held_bit, entry_of, file_of, wide_of, sets_in, with_sets, core_in, interrupt_in, Fit, Holds}
use Rattle.words.proofs.Sound.{sound, mapped}
use Rattle.words.proofs.Fits.{fit_of_small}
use Rattle.words.proofs.Holding.{holds_sets}
use Rattle.words_state.specs.Packed.{state_in, Packed, Leaves}
use Rattle.words_state.proofs.Left.{by_rule}
use Rattle.words_defaults.specs.Defaults.{reset_words}

pub record Defaults (c choice id part : ℕ) : Type 0 where
  pub file : file_of (part_of c) (reset_words (2 ^ (part_of c).width - 1) choice id part) ≡ defaults (part_of c)
  pub fit : Fit (part_of c) (reset_words (2 ^ (part_of c).width - 1) choice id part)
  pub known : reserved (part_of c) 0 ≡ false

pub by_part : (c choice id part : ℕ) → Defaults c choice id part
unfolding file_of entry_of held_bit slot_at digit_at wide_of defaults kind_at reserved bit tabulate
by_part zero choice id part = record { file = refl; fit = fit_of_small part24 _ refl (each_bool 19 _ _ tt); known = refl }
by_part (suc c) choice id part = record { file = refl; fit = fit_of_small part34 _ refl (each_bool 19 _ _ tt); known = refl }

-- the defaults' words with settled pins, whatever those were
pub fresh : (c choice id : ℕ) → c < 2 → choice < 4 → id < 2 ^ 24 → (pins : ℕ) → pins ≡ 2 ^ (part_of c).width - 1 → (x y : Sets) → y ≡ map_pins (part_of c).width x (λ i. reset)
    → Leaves c (with_sets (reset_words pins choice id c) y) Nothing (out Nothing (state (core (defaults (part_of c)) y) quiet 0 0 (number Idle) choice (identity id 0)))
fresh c choice id hc hchoice hid pins e x y q =
    rw e (record { outcome = ap (out Nothing) (same_state regs kept (h.rest 21 (omega arith)) (h.rest 24 (omega arith)) (h.rest 22 (omega arith)) (h.rest 23 (omega arith)) (same_identity (h.rest 25 (omega arith)) (h.rest 26 (omega arith)))); packed = packed })
  where
    d : Defaults c choice id c
    d = by_part c choice id c

    u : List ℕ
    u = reset_words (2 ^ (part_of c).width - 1) choice id c

    h : Holds (part_of c) u (with_sets u y) (core (file_of (part_of c) u) y)
    h = holds_sets (part_of c) (sound c) u u y d.fit (rw q (map_within (part_of c).width x _)) refl (λ s l. refl)

    regs : core_in (part_of c) (with_sets u y) ≡ core (defaults (part_of c)) y
    regs = h.core ∙ same-core d.file refl

    kept : interrupt_in (with_sets u y) ≡ quiet
    kept = same_interrupt (h.rest 19 (omega arith)) (h.rest 20 (omega arith))

    packed : Packed c (with_sets u y)
    packed = record {
      known_part = hc;
      fit = h.fit;
      right = kept ∙ kept_reset (part_of c) (core [] x) (mapped c) ∙ ap (worked_out (part_of c)) (sym (regs ∙ same-core refl q));
      pointer_known = ap (reserved (part_of c)) (h.rest 21 (omega arith)) ∙ d.known;
      mode_small = omega (arith, h.rest 24 (omega arith));
      bus_small = omega (arith, h.rest 22 (omega arith));
      choice_small = rw (h.rest 23 (omega arith)) hchoice;
      id_small = rw (h.rest 25 (omega arith)) hid;
      place_small = omega (arith, h.rest 26 (omega arith));
      part_is = h.rest 27 (omega arith);
    }

pub reset_left : (c : ℕ) (w : List ℕ) → Packed c w → (pins : ℕ) → pins ≡ 2 ^ (part_of c).width - 1 → (y : Sets) → y ≡ map_pins (part_of c).width (sets_in w) (λ i. reset)
    → Leaves c (with_sets (reset_words pins (get_or w 23 0) (get_or w 25 0) (get_or w 27 0)) y) Nothing (out Nothing (resetted (part_of c) (state_in (part_of c) w)))
unfolding resetted
reset_left c w k pins e y q =
    rw k.part_is (by_rule (fresh c (get_or w 23 0) (get_or w 25 0) k.known_part k.choice_small k.id_small pins e (sets_in w) y q)
    (ap (λ (y : Sets). out Nothing (state (core (defaults (part_of c)) y) quiet 0 0 (number Idle) (get_or w 23 0) (identity (get_or w 25 0) 0))) q))
