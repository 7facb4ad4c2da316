-- What the planner promises, without a word on how a plan is found.
use Rattle.std.specs.Prelude.{true, false, ◌&&◌, List, [], ◌∷◌, ◌++◌, ◌⊎◌, ◌≡◌, ℕ, ◌*◌, ◌≤◌, ◌<◌, length, drop, Result, Ok, Err}
use Rattle.map.specs.Map.{Part}
use Rattle.planner_quiet.specs.Settings.{Settings, Write}
use Rattle.planner_quiet.specs.Quiet.{QuietOn, Quiet, Changing, Sparing, OnAll, Listed}
use Rattle.planner_promise.specs.Formed.{formed, bound, room_for}
use Rattle.planner_promise.specs.declared.Refusal.{Refusal}
use Rattle.planner_promise.specs.declared.Refusal.TheVariants.{NoQuietWay, BadSetting, BufferSmall}

abbrev pub number_of : Refusal → ℕ
number_of NoQuietWay = 4
number_of BadSetting = 5
number_of BufferSmall = 6

-- an answer's numbers: that of the refusal, 0 for none, and how many writes there are, 0 where it was refused
abbrev pub refusal_of : {A : Type 0} → Result A Refusal → ℕ
refusal_of (Ok a) = 0
refusal_of (Err e) = number_of e

abbrev pub count_of : {E : Type 0} → Result ℕ E → ℕ
count_of (Ok n) = n
count_of (Err e) = 0

-- a plan as bytes: register, value, register, value
abbrev pub bytes_of : List Write → List ℕ
bytes_of [] = []
bytes_of (w ∷ ws) = w.register ∷ w.value ∷ bytes_of ws

-- a plan was given: a list of at most 16 writes (the sister's 26) to the setting's registers that is quiet whatever the rest of the state, each of which changes
-- its register, and which touches no other; its pairs stand at the front of the buffer, and the bytes past them stay. Start equal to goal: no writes
pub record Given (p : Part) (start goal before rest : List ℕ) (refusal count : ℕ) : Type 0 where
  pub list : List Write
  pub taken : refusal ≡ 0
  pub counted : count ≡ length list
  pub few : length list ≤ bound p
  pub listed : Listed p list
  pub quiet : Quiet p start goal list
  pub changes : OnAll p start (λ s. Changing p s list)
  pub spares : OnAll p start (λ s. Sparing p s list)
  pub bytes : rest ≡ bytes_of list ++ drop (2 * length list) before
  pub idle : start ≡ goal → list ≡ []

-- on no device that stands at the start does any list of writes to the setting's registers do it, of whatever length, idle writes included
abbrev pub NoneOn : Part → (start goal : Settings) → Type 0
NoneOn p start goal = OnAll p start (λ s. ((ws : List Write) → Listed p ws → QuietOn p s goal ws → ⊥))

-- the buffer is `before` at the call and `rest` after it; refusal and count are the answer's numbers. Tested in this order: 5, 6, 4; a refusal leaves the buffer
pub record Promise (p : Part) (start goal before rest : List ℕ) (refusal count : ℕ) : Type 0 where
  pub five : (formed p start && formed p goal) ≡ false → (refusal ≡ 5) × (rest ≡ before)
  pub six : (formed p start && formed p goal) ≡ true → length before < room_for p → (refusal ≡ 6) × (rest ≡ before)
  pub four : (formed p start && formed p goal) ≡ true → room_for p ≤ length before → ((ws : List Write) → Listed p ws → Quiet p start goal ws → ⊥)
      → (refusal ≡ 4) × (rest ≡ before) × NoneOn p start goal
  pub given : (formed p start && formed p goal) ≡ true → room_for p ≤ length before → (ws : List Write) → Listed p ws → Quiet p start goal ws
      → Given p start goal before rest refusal count
  -- and there is no third case
  pub none_else : (formed p start && formed p goal) ≡ true → room_for p ≤ length before
      → ((refusal ≡ 4) × (rest ≡ before) × NoneOn p start goal) ⊎ Given p start goal before rest refusal count
