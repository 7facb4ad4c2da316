-- Laws of pin sets, for any number w of pins. Assumes nothing.
use mathlib.Core.Path.{◌≡◌, ap, ◌∙◌}
use Prim.Native.Nat.{ℕ, ◌<◌}
use Rattle.bits.proofs.Laws.{tabulate_lt, bit_tabulate, tabulated}
use Rattle.pins.specs.Pin.{Pin}
use Rattle.pins.specs.AllPins.{Within, pin_at, map_pins}
use Rattle.pins.specs.declared.Sets.{Sets}

-- equal field by field
pub same : {a b : Sets} → a.level ≡ b.level → a.reference ≡ b.reference → a.held ≡ b.held → a.edge ≡ b.edge → a ≡ b
same level reference held edge = λ j. record { level = level j; reference = reference j; held = held j; edge = edge j }

module _ (w : ℕ) (x : Sets) where
  -- what pin i is afterwards
  pub pin_map : (f : ℕ → Pin → Pin) (i : ℕ) → i < w → pin_at (map_pins w x f) i ≡ f i (pin_at x i)
  unfolding map_pins
  pin_map f i k = λ j. record {
    level = bit_tabulate w (λ i. (f i (pin_at x i)).level) i k j;
    reference = bit_tabulate w (λ i. (f i (pin_at x i)).reference) i k j;
    held = bit_tabulate w (λ i. (f i (pin_at x i)).held) i k j;
    edge = bit_tabulate w (λ i. (f i (pin_at x i)).edge) i k j;
  }

  pub map_within : (f : ℕ → Pin → Pin) → Within w (map_pins w x f)
  unfolding map_pins
  map_within f = record { level_small = tabulate_lt w _; reference_small = tabulate_lt w _; held_small = tabulate_lt w _; edge_small = tabulate_lt w _ }

  -- the way in which a function on pin sets is shown: its sets are of the w pins, and pin by pin
  pub mapped : {y : Sets} (f : ℕ → Pin → Pin) → Within w y → ((i : ℕ) → i < w → pin_at y i ≡ f i (pin_at x i)) → y ≡ map_pins w x f
  unfolding map_pins
  mapped f d q =
      same
      (tabulated w d.level_small (λ i k. ap (λ (y : Pin). y.level) (q i k)))
      (tabulated w d.reference_small (λ i k. ap (λ (y : Pin). y.reference) (q i k)))
      (tabulated w d.held_small (λ i k. ap (λ (y : Pin). y.held) (q i k)))
      (tabulated w d.edge_small (λ i k. ap (λ (y : Pin). y.edge) (q i k)))

  -- only what happens to the w pins counts
  pub map_ext : (f g : ℕ → Pin → Pin) → ((i : ℕ) → i < w → f i (pin_at x i) ≡ g i (pin_at x i)) → map_pins w x f ≡ map_pins w x g
  map_ext f g q = mapped g (map_within f) (λ i k. pin_map f i k ∙ q i k)
