-- The group step goes one on, but from the last number of a group back to its first: both, of each part's groups, found by trying every number. Assumes nothing.
use mathlib.Core.Path.{◌≡◌, refl}
use mathlib.Core.Bool.{cond, ◌||◌}
use mathlib.Core.List.{List, [], ◌∷◌, ◌++◌}
use Prim.Native.Nat.{ℕ, zero, suc, ◌+◌}
use lib.Dec.{eqb}
use Rattle.map.specs.Map.{Part, part24, part34, kind_at, reserved, next}

-- the registers below n from which the group step does not go one on, the highest first, each with the one that it goes to
abbrev turns : Part → (n : ℕ) → List (ℕ × ℕ)
turns p zero = []
turns p (suc n) = cond (reserved p n || eqb (n + 1) (next p n)) [] ((n, next p n) ∷ []) ++ turns p n

-- debounce enable and debounce count are two groups, the second of one register
pub turns24 : turns part24 128
    ≡ (0x76, 0x76) ∷ (0x75, 0x74) ∷ (0x72, 0x70) ∷ (0x6e, 0x6c) ∷ (0x6a, 0x68) ∷ (0x65, 0x60) ∷ (0x5c, 0x5c) ∷ (0x5a, 0x58) ∷ (0x56, 0x54)
    ∷ (0x52, 0x50) ∷ (0x4e, 0x4c) ∷ (0x4a, 0x48) ∷ (0x45, 0x40) ∷ (0x0e, 0x0c) ∷ (0x0a, 0x08) ∷ (0x06, 0x04) ∷ (0x02, 0x00) ∷ []
unfolding kind_at reserved next
turns24 = refl

-- and of the sister one of three
pub turns34 : turns part34 128
    ≡ (0x6f, 0x6d) ∷ (0x6c, 0x68) ∷ (0x67, 0x63) ∷ (0x62, 0x5e) ∷ (0x5c, 0x54) ∷ (0x53, 0x53) ∷ (0x52, 0x4e) ∷ (0x4d, 0x49) ∷ (0x48, 0x44)
    ∷ (0x43, 0x3f) ∷ (0x3e, 0x3a) ∷ (0x38, 0x30) ∷ (0x13, 0x0f) ∷ (0x0e, 0x0a) ∷ (0x09, 0x05) ∷ (0x04, 0x00) ∷ []
unfolding kind_at reserved next
turns34 = refl
