-- A list of writes as the host sends it, and what it is for such a list to be quiet.
use Rattle.std.specs.Prelude.{List, [], ◌∷◌, ◌++◌, ◌≡◌, ℕ, ◌<◌, take}
use Rattle.map.specs.Map.{Part}
use Rattle.registers.specs.Registers.{Core}
use Rattle.device_rules.specs.Device.{State}
use Rattle.device_rules.specs.declared.Answer.{Answer}
use Rattle.device_rules.specs.declared.Answer.TheVariants.{Nothing, Ack}
use Rattle.device_demands.specs.Run.{Asked, after, answers}
use Rattle.device_demands.specs.Transactions.{write_over}
use Rattle.planner_quiet.specs.Settings.{Settings, Write}
use Rattle.planner_quiet.specs.Quiet.{settings_of, Still}

-- the list as transactions on the bus, one a write
abbrev pub over_bus : (choice : ℕ) → List Write → List Asked
over_bus choice [] = []
over_bus choice (w ∷ ws) = write_over choice w.register w.value ++ over_bus choice ws

-- registers and pins after the first m events of them: in the middle of a transaction too
abbrev pub after_events : Part → State → List Write → ℕ → Core
after_events p s ws m = (after p s (take m (over_bus s.choice ws))).regs

-- each transaction's address byte, command and data byte are acknowledged
abbrev pub all_taken : List Write → List Answer
all_taken [] = []
all_taken (w ∷ ws) = Nothing ∷ Ack ∷ Ack ∷ Ack ∷ Nothing ∷ all_taken ws

-- sent to the device s the list is acknowledged, reaches the goal, and every pin is still from event to event; its commands have bit 7 clear, so that the mode is 0
-- after it, unless it is empty
pub record QuietOverBus (p : Part) (s : State) (goal : Settings) (ws : List Write) : Type 0 where
  pub taken : answers p s (over_bus s.choice ws) ≡ all_taken ws
  pub reached : settings_of p (after p s (over_bus s.choice ws)).regs ≡ goal
  pub still : (i : ℕ) → i < p.width → Still p (after_events p s ws) goal i
  pub mode_0 : (w : Write) (rest : List Write) → ws ≡ w ∷ rest → (after p s (over_bus s.choice ws)).mode ≡ 0
