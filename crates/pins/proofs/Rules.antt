-- What the code computes with words is what the rules say of each pin, for any number w of pins. Assumes nothing.
use mathlib.Core.Path.{◌≡◌, refl}
use mathlib.Core.Bool.{Bool, true, false, not, ◌&&◌, ◌||◌, beq}
use Prim.Native.Nat.{ℕ, ◌^◌, ◌<◌}
use lib.Bits.{bit_and, bit_or, bit_xor}
use lib.Dec.{T}
use lib.Pow.{pow_pos}
use Rattle.bits.specs.Bits.{bit, differs, without}
use Rattle.bits.proofs.Decide.{Fn, Same, agree, decide, both, beq→eq, taut}
use Rattle.bits.proofs.Laws.{pinwise, below, bit_without, bit_zero}
use Rattle.pins.specs.Pin.{Pin, source, pin, open_drain, drive, is_low, is_high, input_bit, status, pending, settle, matches, only, level_to, clear_written, mask_written, edge_written, latch_written, configuration_written, reset}
use Rattle.pins.specs.AllPins.{Within, PinsOf, pin_at, source_at, drive_at, map_pins}
use Rattle.pins.specs.declared.Sets.{Sets}
use Rattle.pins.specs.declared.Sources.{Sources}
use Rattle.pins.proofs.AllPins.{mapped}

-- two pins are equal if their four Bools are
abbrev pub same_pin : Pin → Pin → Bool
same_pin a b =
    (beq a.level b.level && beq a.reference b.reference) && (beq a.held b.held && beq a.edge b.edge)

same_pin→eq : (a b : Pin) → T (same_pin a b) → a ≡ b
same_pin→eq a b t = λ j. record {
  level = beq→eq a.level b.level (both (beq a.level b.level) _ t2.0).0 j;
  reference = beq→eq a.reference b.reference (both (beq a.level b.level) _ t2.0).1 j;
  held = beq→eq a.held b.held (both (beq a.held b.held) _ t2.1).0 j;
  edge = beq→eq a.edge b.edge (both (beq a.held b.held) _ t2.1).1 j;
}
  where
    t2 : T (beq a.level b.level && beq a.reference b.reference) × T (beq a.held b.held && beq a.edge b.edge)
    t2 = both (beq a.level b.level && beq a.reference b.reference) (beq a.held b.held && beq a.edge b.edge) t

-- `taut_pin n _ _ tt` proves a statement `(b₁ … bₙ : Bool) → l ≡ r` of two pins
pub taut_pin : (n : ℕ) (f g : Fn Pin n) → T (agree Pin same_pin n f g) → Same Pin n f g
taut_pin = decide Pin same_pin same_pin→eq

-- ---- one pin: the code's expression is the rule, at each choice of the Bools
low_one : (all configuration output port_kind pin_kind : Bool)
    → (all && not (configuration || output)) ≡ (all && is_low (drive configuration output port_kind pin_kind))
unfolding drive is_low open_drain
low_one = taut 5 _ _ tt

high_one : (configuration output port_kind pin_kind : Bool)
    → (output && not (configuration || differs port_kind pin_kind)) ≡ is_high (drive configuration output port_kind pin_kind)
unfolding drive is_high open_drain
high_one = taut 4 _ _ tt

input_one : (configuration latch polarity port_kind pin_kind level reference held edge : Bool)
    → ((differs ((level && not (latch && held)) || ((latch && held) && not reference)) polarity && configuration)
    || (level && not (configuration || differs port_kind pin_kind)))
    ≡ input_bit configuration latch polarity port_kind pin_kind (pin level reference held edge)
unfolding input_bit open_drain
input_one = taut 9 _ _ tt

status_one : (configuration mask latch rising falling level reference held edge : Bool)
    → ((configuration && not mask)
    && ((edge && (rising || falling)) || (((held && latch) || (differs level reference && not latch)) && not (rising || falling))))
    ≡ status (source configuration mask latch rising falling) (pin level reference held edge)
unfolding status pending
status_one = taut 9 _ _ tt

level_one : (configuration mask latch rising falling new level reference held edge : Bool)
    → pin new reference (held || ((differs new reference && configuration) && latch))
    (edge || ((((new && not level) && rising) || ((level && not new) && falling)) && configuration) && not mask)
    ≡ level_to (source configuration mask latch rising falling) new (pin level reference held edge)
unfolding level_to matches
level_one = taut_pin 10 _ _ tt

settle_one : (on level reference held edge : Bool)
    → pin level ((reference && not on) || (level && on)) (held && not on) (edge && not on) ≡ only on settle (pin level reference held edge)
unfolding only settle
settle_one = taut_pin 5 _ _ tt

-- to settle the pins of a register whose clear bit is written 1 is that register's rule
pub clear_one : (here on : Bool) (x : Pin) → only (here && on) settle x ≡ only here (clear_written on) x
unfolding only clear_written
clear_one true true x = refl
clear_one true false x = refl
clear_one false on x = refl

reset_one : (level reference held edge : Bool) → pin level level false false ≡ reset (pin level reference held edge)
unfolding reset settle
reset_one = taut_pin 4 _ _ tt

mask_one : (here on level reference held edge : Bool)
    → pin level reference held (edge && not (here && on)) ≡ only here (mask_written on) (pin level reference held edge)
unfolding only mask_written
mask_one = taut_pin 6 _ _ tt

edge_one : (here rising falling level reference held edge : Bool)
    → pin level reference held (edge && not (here && not (rising || falling))) ≡ only here (edge_written rising falling) (pin level reference held edge)
unfolding only edge_written
edge_one = taut_pin 7 _ _ tt

latch_one : (configuration latch here on level reference held edge : Bool)
    → pin level reference
    ((held && not here) || ((((held && latch) || ((differs level reference && configuration) && not latch)) && here) && on)) edge
    ≡ only here (latch_written configuration latch on) (pin level reference held edge)
unfolding only latch_written
latch_one = taut_pin 8 _ _ tt

configuration_one : (configuration latch here on level reference held edge : Bool)
    → pin level reference
    ((held && not (here && not (on && configuration))) || ((differs level reference && latch) && ((here && not (on && configuration)) && on)))
    (edge && not (here && not (on && configuration)))
    ≡ only here (configuration_written latch configuration on) (pin level reference held edge)
unfolding only configuration_written
configuration_one = taut_pin 8 _ _ tt

-- ---- the sets that are read off
pub low_set : (all configuration output : ℕ) (port_kind pin_kind : Bool)
    → PinsOf (without all (bit_or configuration output)) (λ i. bit all i && is_low (drive (bit configuration i) (bit output i) port_kind pin_kind)) all
low_set all configuration output port_kind pin_kind =
    record { pins = λ i. simp (bit_without, pinwise) (low_one (bit all i) (bit configuration i) (bit output i) port_kind pin_kind); small = λ w h. search below }

pub high_set : (configuration output port_kind pin_kind : ℕ)
    → PinsOf (without output (bit_or configuration (bit_xor port_kind pin_kind))) (λ i. is_high (drive_at configuration output port_kind pin_kind i)) output
high_set configuration output port_kind pin_kind =
    record { pins = λ i. simp (bit_without, pinwise) (high_one _ _ _ _); small = λ w h. search below }

pub input_set : (configuration latch polarity port_kind pin_kind : ℕ) (x : Sets) (i : ℕ)
    → bit (bit_or
    (bit_and (bit_xor (bit_or (without x.level (bit_and latch x.held)) (without (bit_and latch x.held) x.reference)) polarity) configuration)
    (without x.level (bit_or configuration (bit_xor port_kind pin_kind)))) i
    ≡ input_bit (bit configuration i) (bit latch i) (bit polarity i) (bit port_kind i) (bit pin_kind i) (pin_at x i)
input_set configuration latch polarity port_kind pin_kind x i = simp (bit_without, pinwise) (input_one _ _ _ _ _ _ _ _ _)

pub status_set : (v : Sources) (x : Sets)
    → PinsOf (bit_and (without v.configuration v.mask)
    (bit_or (bit_and x.edge (bit_or v.rising v.falling))
    (without (bit_or (bit_and x.held v.latch) (without (bit_xor x.level x.reference) v.latch)) (bit_or v.rising v.falling))))
    (λ i. status (source_at v i) (pin_at x i)) v.configuration
status_set v x = record { pins = λ i. simp (bit_without, pinwise) (status_one _ _ _ _ _ _ _ _ _); small = λ w h. search below }

-- ---- what is stored of the pins, for any number of them
abbrev sets : (level reference held edge : ℕ) → Sets
sets level reference held edge = record { level = level; reference = reference; held = held; edge = edge }

module _ (w : ℕ) (x : Sets) (d : Within w x) where
  pub level_map : (v : Sources) (new : ℕ) → new < 2 ^ w
      → sets new x.reference (bit_or x.held (bit_and (bit_and (bit_xor new x.reference) v.configuration) v.latch))
      (bit_or x.edge
      (without (bit_and (bit_or (bit_and (without new x.level) v.rising) (bit_and (without x.level new) v.falling)) v.configuration) v.mask))
      ≡ map_pins w x (λ i. level_to (source_at v i) (bit new i))
  level_map v new h = mapped w x _ (search below depth 10) (λ i k. simp (bit_without, pinwise) (level_one _ _ _ _ _ _ _ _ _ _))

  pub settle_map : (on : ℕ)
      → sets x.level (bit_or (without x.reference on) (bit_and x.level on)) (without x.held on) (without x.edge on)
      ≡ map_pins w x (λ i. only (bit on i) settle)
  settle_map on = mapped w x _ (search below depth 10) (λ i k. simp (bit_without, pinwise) (settle_one _ _ _ _ _))

  pub mask_map : (here on : ℕ)
      → sets x.level x.reference x.held (without x.edge (bit_and here on)) ≡ map_pins w x (λ i. only (bit here i) (mask_written (bit on i)))
  mask_map here on = mapped w x _ (search below depth 10) (λ i k. simp (bit_without, pinwise) (mask_one _ _ _ _ _ _))

  pub edge_map : (here rising falling : ℕ)
      → sets x.level x.reference x.held (without x.edge (without here (bit_or rising falling)))
      ≡ map_pins w x (λ i. only (bit here i) (edge_written (bit rising i) (bit falling i)))
  edge_map here rising falling = mapped w x _ (search below depth 10) (λ i k. simp (bit_without, pinwise) (edge_one _ _ _ _ _ _ _))

  pub latch_map : (configuration latch here on : ℕ)
      → sets x.level x.reference
      (bit_or (without x.held here)
      (bit_and (bit_and (bit_or (bit_and x.held latch) (without (bit_and (bit_xor x.level x.reference) configuration) latch)) here) on)) x.edge
      ≡ map_pins w x (λ i. only (bit here i) (latch_written (bit configuration i) (bit latch i) (bit on i)))
  latch_map configuration latch here on = mapped w x _ (search below depth 10) (λ i k. simp (bit_without, pinwise) (latch_one _ _ _ _ _ _ _ _))

  pub configuration_map : (configuration latch here on : ℕ)
      → (let quiet = without here (bit_and on configuration) in
      sets x.level x.reference
      (bit_or (without x.held quiet) (bit_and (bit_and (bit_xor x.level x.reference) latch) (bit_and quiet on))) (without x.edge quiet))
      ≡ map_pins w x (λ i. only (bit here i) (configuration_written (bit latch i) (bit configuration i) (bit on i)))
  configuration_map configuration latch here on =
      mapped w x _ (search below depth 10) (λ i k. simp (bit_without, pinwise) (configuration_one _ _ _ _ _ _ _ _))

  pub reset_map : sets x.level x.level 0 0 ≡ map_pins w x (λ i. reset)
  reset_map = mapped w x _ (search (below, pow_pos)) (λ i k. simp bit_zero (reset_one _ _ _ _))
