-- A device asked and stepped through the words that it was packed into; one that does not pack is a broken image. Assumes nothing.
use mathlib.Core.Path.{◌≡◌, refl, ap₂, ◌∙◌}
use mathlib.Core.Bool.{Bool, true, false, cond, ◌&&◌}
use Prim.Native.Nat.{ℕ, ◌<◌}
use borrow.Author.Tests.{lt-ltb}
use lib.Dec.{ltb}
use Rattle.map.specs.Map.{part_of}
use Rattle.device_rules.specs.Device.{State, out}
use Rattle.device_rules.specs.Refusals.{image_fits, stepped}
use Rattle.device_rules.specs.declared.Answer.TheVariants.{Refused}
use Rattle.device_rules.proofs.Images.{broken}
use Rattle.device.specs.Held.{fits_in, stepped_in}
use Rattle.device.specs.Held as held
use Rattle.device.specs.declared.Device.{Device}

-- ---- steps
-- a broken image, or a part that is none of the two, is refused with 3
pub not_stepped : (d : Device) (kind arg : ℕ) → fits_in d ≡ false → out (Refused 3) (held.state_in d) ≡ stepped_in d kind arg
not_stepped d kind arg e = go (ltb d.part 2) e
  where
    go : (known : Bool) → (known && image_fits (part_of d.part) (held.state_in d)) ≡ false
        → out (Refused 3) (held.state_in d) ≡ cond known (stepped (part_of d.part) (held.state_in d) kind arg) (out (Refused 3) (held.state_in d))
    go true z = broken (part_of d.part) (held.state_in d) kind arg z
    go false z = refl

-- a device of one of the two parts is stepped by the rules of its part
pub ruled : (d : Device) {part : ℕ} {s : State} (kind arg : ℕ) → part < 2 → d.part ≡ part → held.state_in d ≡ s → stepped_in d kind arg ≡ stepped (part_of part) s kind arg
ruled d {part} kind arg known p e =
    ap₂ (λ (q : ℕ) (x : State). cond (ltb q 2) (stepped (part_of q) x kind arg) (out (Refused 3) x)) p e ∙ simp (lt-ltb part 2 known)
