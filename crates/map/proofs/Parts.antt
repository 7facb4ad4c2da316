-- Parts by their numbers: what is not 0 is the sister's. Assumes nothing.
use mathlib.Core.Path.{◌≡◌, refl}
use Prim.Native.Nat.{ℕ, zero, suc}
use Rattle.map.specs.Map.{part34, part_of}

pub sister : (part : ℕ) → (part ≡ 0 → ⊥) → part34 ≡ part_of part
sister zero z = absurd (z refl)
sister (suc part) z = refl
