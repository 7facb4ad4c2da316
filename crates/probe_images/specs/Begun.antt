-- A line that has begun.
use Rattle.std.specs.Prelude.{◌≡◌, List, ℕ, ◌≤◌, take}
use Rattle.probe_images.specs.declared.begun.Line.{Line}

-- of the bytes so far the first 395 are kept
pub record Holds (line : Line) (text : List ℕ) : Type 0 where
  pub small : line.len ≤ 395
  pub kept : take line.len line.held ≡ take 395 text
