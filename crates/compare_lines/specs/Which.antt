-- What a verdict says of the lines.
use Rattle.std.specs.Prelude.{◌≡◌, List, [], ◌++◌, ℕ, ◌<◌, ◌≤◌, length, get_or, take, drop}
use Rattle.text_logs.specs.Lines.{lines_of}
use Rattle.compare_lines.specs.Comparing.{Found, agrees, departs, ends_early, left_over, first_line, part_from}

-- The answers are so many of the expected lines, and then the lines of what is left, which is a part of the answers.
pub record Which (expected : List (List ℕ)) (answers : List ℕ) (count : ℕ) (f : Found) : Type 0 where
  pub one_of_four : f.verdict ≤ 3
  pub before : lines_of [] answers ≡ take count expected ++ lines_of [] f.left
  pub lies_there : drop (part_from answers f) answers ≡ f.left
  -- every line is there, and no other
  pub all_agree : f.verdict ≡ agrees → (lines_of [] answers ≡ expected) × (f.left ≡ [])
  -- the next line is there and is not the one that is expected
  pub next_departs : f.verdict ≡ departs → (count < length expected) × (0 < length f.left) × (first_line f.left ≡ get_or expected count [] → ⊥)
  -- a line is expected and none is there
  pub next_missing : f.verdict ≡ ends_early → (count < length expected) × (f.left ≡ [])
  -- a line is there and none is expected
  pub next_unexpected : f.verdict ≡ left_over → (count ≡ length expected) × (0 < length f.left)
