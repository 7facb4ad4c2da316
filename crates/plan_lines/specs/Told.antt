-- What a line is answered: the planner's answer as text, with its newline.
use Rattle.std.specs.Prelude.{◌≡◌, cond, List, [], ◌∷◌, ◌++◌, ℕ, ◌*◌, take, Result, Ok, Err}
use Rattle.text.specs.Text.{hex_text, Wrote}
use Rattle.text_answers.specs.Answers.{refused_line}
use Rattle.map.specs.Map.{Part}
use Rattle.planner_quiet.specs.Settings.{Write}
use Rattle.planner_promise.specs.Formed.{room_for}
use Rattle.planner_promise.specs.Answer.{Answer, refuse, give, answer_of}
use Rattle.plan_refusals.specs.declared.LineRefusal.{LineRefusal}
use Rattle.plan_refusals.specs.Refusals.{line_number}
use Rattle.plan_fields.specs.Lines.{readable, start_in, goal_in}

-- the planner's answer to the settings that the line says; refusal 7 where it is not readable
unfoldable pub answer_to : Part → (line : List ℕ) → Answer
answer_to p line = cond (readable line) (answer_of p (start_in line) (goal_in line) (room_for p)) (refuse 7)

-- ---- the answer as text
-- a write: a tab, its register, its value
unfoldable pub write_text : (register value : ℕ) → List ℕ
write_text register value = 0x09 ∷ hex_text 2 register ++ hex_text 2 value

unfoldable pub writes_text : List Write → List ℕ
writes_text [] = []
writes_text (w ∷ ws) = write_text w.register w.value ++ writes_text ws

-- `plan` and the writes
abbrev pub plan_line : (writes : List ℕ) → List ℕ
plan_line writes = 0x70 ∷ 0x6c ∷ 0x61 ∷ 0x6e ∷ writes ++ (0x0a ∷ [])

abbrev pub answer_text : Answer → List ℕ
answer_text (refuse number) = refused_line number
answer_text (give ws) = plan_line (writes_text ws)

-- What standard output gets for a whole line.
unfoldable pub plan_text : Part → (line : List ℕ) → List ℕ
plan_text p line = answer_text (answer_to p line)

-- the number that a person is told of: that of the refusal, 0 for a plan
abbrev pub refusal_in : Answer → ℕ
refusal_in (refuse number) = number
refusal_in (give ws) = 0

-- ---- the same from the planner's result and its buffer: bytes register, value, register, value
unfoldable pub pairs_text : (pairs : List ℕ) → List ℕ
pairs_text [] = []
pairs_text (r ∷ []) = []
pairs_text (r ∷ v ∷ pairs) = write_text r v ++ pairs_text pairs

abbrev pub planned_text : Result ℕ LineRefusal → (pairs : List ℕ) → List ℕ
planned_text (Ok n) pairs = plan_line (pairs_text (take (2 * n) pairs))
planned_text (Err refusal) pairs = refused_line (line_number refusal)

-- the line's answer is written from at on, and its refusal's number told
pub record Tells (p : Part) (line : List ℕ) (out : List ℕ) (at end refusal : ℕ) (left : List ℕ) : Type 0 where
  pub wrote : Wrote out at (plan_text p line) end left
  pub told : refusal ≡ refusal_in (answer_to p line)
