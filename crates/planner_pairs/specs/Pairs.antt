-- The pairs that are laid at the front of a buffer.
use Rattle.std.specs.Prelude.{cond, List, [], ◌∷◌, ◌++◌, ◌≡◌, ℕ, ◌*◌, ◌≤◌, eqb, length, drop}

-- the pair of a write, none where the register holds the value already
abbrev pub pair_of : (register was to : ℕ) → List ℕ
pair_of register was to = cond (eqb was to) [] (register ∷ to ∷ [])

-- the bytes of `out` at the front of the buffer: n pairs
pub record Emitted (out : List ℕ) (n : ℕ) (before after : List ℕ) : Type 0 where
  pub laid : after ≡ out ++ drop (2 * n) before
  pub pairs : length out ≡ 2 * n
  pub within : 2 * n ≤ length before
