-- Which starts and goals are well-formed, how many writes a plan may have, and the room for them.
use Rattle.std.specs.Prelude.{Bool, true, ◌&&◌, ℕ, zero, suc, ◌+◌, ◌*◌, ◌^◌, eqb, ltb, get_or, length}
use Rattle.map.specs.Map.{Part}
use Rattle.planner_quiet.specs.Settings.{registers_of, shape_of, Settings}

-- none of the n bytes from the a-th on has a bit that does not exist in its register
abbrev pub fit_from : Part → Settings → (a n : ℕ) → Bool
fit_from p s a zero = true
fit_from p s a (suc n) = ltb (get_or s a 0) (2 ^ (shape_of p).room a) && fit_from p s (suc a) n

-- a byte for each register of the part's setting, and no bit that does not exist
abbrev pub formed : Part → Settings → Bool
formed p s = eqb (length s) (length (registers_of p)) && fit_from p s 0 (length (registers_of p))

-- five writes a port and one: 16 and 26
abbrev pub bound : Part → ℕ
bound p = 5 * p.ports + 1

-- a register and a value each: 32 and 52 bytes
abbrev pub room_for : Part → ℕ
room_for p = 2 * bound p
