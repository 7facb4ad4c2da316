-- Pins that a write moves. Assumes nothing.
use mathlib.Core.Path.{◌≡◌, ap, ap₂, ◌∙◌}
use mathlib.Core.List.{List}
use Prim.Native.Nat.{ℕ}
use Rattle.pins.specs.Pin.{Pin}
use Rattle.pins.specs.AllPins.{Within, map_pins}
use Rattle.pins.specs.declared.Sets.{Sets}
use Rattle.words.specs.Words.{with_sets}

-- the pins taken out, changed and put back
pub put_back : {u s w' : List ℕ} {x v y : Sets} (f : ℕ → Pin → Pin) (width : ℕ) → x ≡ v → (Within width x → y ≡ map_pins width x f) → u ≡ s → w' ≡ with_sets u y
    → Within width v → w' ≡ with_sets s (map_pins width v f)
put_back f width ex ey eu e d = e ∙ ap₂ (λ (u : List ℕ) (y : Sets). with_sets u y) eu (ey (rw ex d) ∙ ap (λ (x : Sets). map_pins width x f) ex)
