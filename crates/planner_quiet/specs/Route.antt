-- The plan.
use Rattle.std.specs.Prelude.{Bool, cond, ◌&&◌, ◌||◌, List, [], ◌∷◌, ◌++◌, ℕ, zero, suc, ◌+◌, ◌*◌, eqb, get_or}
use Rattle.bits.specs.Bits.{tabulate, differs}
use Rattle.planner_quiet.specs.Settings.{Shape, Settings, PinBits, bits_of, Write, place_of, stored, put}

-- ---- one pin
abbrev pub released : PinBits → Bool
released b = b.configuration || (b.output && differs b.port_kind b.pin_kind)

abbrev pub changed : (s g : PinBits) → Bool
changed s g =
    differs s.output g.output || differs s.configuration g.configuration || differs s.port_kind g.port_kind || differs s.pin_kind g.pin_kind

-- In the middle of the plan a pin that changes is an input if it is released at the start or at the goal.
unfoldable pub mid_configuration : (s g : PinBits) → Bool
mid_configuration s g = cond (changed s g) (released s || released g) s.configuration

-- Its output bit is then 1 if it is 1 at the start, and 1 at the goal too or does not show.
unfoldable pub mid_output : (s g : PinBits) → Bool
mid_output s g = s.output && (g.output || mid_configuration s g)

-- ---- all pins
module _ (p : Shape) (start goal : Settings) where
  abbrev pub mid_outputs : (k : ℕ) → ℕ
  mid_outputs k = tabulate 8 (λ j. mid_output (bits_of p start k j) (bits_of p goal k j))

  abbrev pub mid_configurations : (k : ℕ) → ℕ
  mid_configurations k = tabulate 8 (λ j. mid_configuration (bits_of p start k j) (bits_of p goal k j))

-- The lists of the first n ports, one after the other.
abbrev pub per_port : ℕ → (ℕ → List Write) → List Write
per_port zero f = []
per_port (suc n) f = per_port n f ++ f n

-- The write of v at place i.
abbrev pub write_at : Shape → (i v : ℕ) → Write
write_at p i v = record { register = get_or p.registers i 0; value = v }

-- Port k to the middle.
abbrev pub opening : Shape → (start goal : Settings) → (k : ℕ) → List Write
opening p start goal k = write_at p k (mid_outputs p start goal k) ∷ write_at p (p.ports + k) (mid_configurations p start goal k) ∷ []

-- What the goal has at place i.
abbrev pub to_goal : Shape → (goal : Settings) → (i : ℕ) → Write
to_goal p goal i = write_at p i (get_or goal i 0)

-- Port k to the goal: pin kinds, output, configuration.
abbrev pub closing : Shape → (goal : Settings) → (k : ℕ) → List Write
closing p goal k = to_goal p goal (2 * p.ports + 1 + k) ∷ to_goal p goal k ∷ to_goal p goal (p.ports + k) ∷ []

-- To the middle port by port, then the port kinds, then to the goal port by port.
abbrev pub route : Shape → (start goal : Settings) → List Write
route p start goal = per_port p.ports (opening p start goal) ++ to_goal p goal (2 * p.ports) ∷ per_port p.ports (closing p goal)

-- The writes of a list that change something, from s on.
abbrev pub needed : Shape → Settings → List Write → List Write
needed p s [] = []
needed p s (w ∷ ws) =
    cond (eqb (get_or s (place_of p w) 0) (stored p (place_of p w) w.value)) [] (w ∷ []) ++ needed p (put p s w) ws

unfoldable pub plan_of : Shape → (start goal : Settings) → List Write
plan_of p start goal = needed p start (route p start goal)
