-- What the planner answers today: one of the plans that it promises.
use Rattle.std.specs.Prelude.{cond, ◌&&◌, List, ◌++◌, ◌≡◌, ℕ, ◌*◌, ltb, length, drop}
use Rattle.map.specs.Map.{Part}
use Rattle.planner_quiet.specs.Settings.{shape_of, Settings, Write}
use Rattle.planner_quiet.specs.Order.{blocked}
use Rattle.planner_quiet.specs.Route.{plan_of}
use Rattle.planner_promise.specs.Formed.{formed, room_for}
use Rattle.planner_promise.specs.Promise.{bytes_of}

pub data Answer : Type 0 where
  refuse : ℕ → Answer
  give : List Write → Answer

-- the answer for a start, a goal and a buffer of so many bytes: 5, then 6, then 4, else the plan
unfoldable pub answer_of : Part → (start goal : Settings) → (room : ℕ) → Answer
answer_of p start goal room =
    cond (formed p start && formed p goal)
    (cond (ltb room (room_for p)) (refuse 6) (cond (blocked (shape_of p) start goal) (refuse 4) (give (plan_of (shape_of p) start goal))))
    (refuse 5)

-- the result's two numbers, and the buffer before and after, are that answer
abbrev pub Answers : (refusal count : ℕ) → (before after : List ℕ) → Answer → Type 0
Answers refusal count before after (refuse c) = (refusal ≡ c) × (count ≡ 0) × (after ≡ before)
Answers refusal count before after (give ws) = (refusal ≡ 0) × (count ≡ length ws) × (after ≡ bytes_of ws ++ drop (2 * length ws) before)

-- the plan stands at the front of the buffer: n writes
pub record Planted (p : Part) (start goal : Settings) (n : ℕ) (before after : List ℕ) : Type 0 where
  pub count : n ≡ length (plan_of (shape_of p) start goal)
  pub bytes : after ≡ bytes_of (plan_of (shape_of p) start goal) ++ drop (2 * length (plan_of (shape_of p) start goal)) before
