-- Both texts in memory: what is found, and where.
use Rattle.std.specs.Prelude.{◌≡◌, List, ℕ, ◌+◌, ◌≤◌, length, drop}
use Rattle.text_pieces.specs.Pieces.{newline_at}
use Rattle.trace_logs.specs.Pieces.{opened}
use Rattle.compare_lines.specs.Comparing.{compared, part_from, part_to}
use Rattle.compare_pieces.specs.Meeting.{found_onward}

-- what is found in what is left of the answers after the header, however many lines agree before
pub record FindsOn (events rest : List ℕ) (verdict : ℕ) (left : List ℕ) : Type 0 where
  pub verdict_on : (n : ℕ) → verdict ≡ (found_onward n opened events rest).verdict
  pub left_on : (n : ℕ) → left ≡ (found_onward n opened events rest).left

-- a place of the answers, and where the line ends that begins there
pub record LineAt (answers : List ℕ) (from to : ℕ) : Type 0 where
  pub ends : to ≡ from + newline_at (drop from answers)
  pub ordered : from ≤ to
  pub within : to ≤ length answers

pub record Finds (events answers : List ℕ) (verdict from to : ℕ) : Type 0 where
  pub verdict_is : verdict ≡ (compared events answers).verdict
  pub from_is : from ≡ part_from answers (compared events answers)
  pub to_is : to ≡ part_to answers (compared events answers)
  pub lies_there : drop from answers ≡ (compared events answers).left
  pub ordered : from ≤ to
  pub within : to ≤ length answers
