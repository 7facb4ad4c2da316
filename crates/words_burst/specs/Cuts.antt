-- Bursts one after another.
use Rattle.std.specs.Prelude.{cond, List, [], ◌∷◌, ◌++◌, eqb}
use Rattle.map.specs.Map.{Part}
use Rattle.device_rules.specs.Device.{State}
use Rattle.words_events.specs.Events.{Sent}
use Rattle.words_runs.specs.Runs.{Ran, ended, onto, ran}

-- what was done, and then more from where it left; refused, nothing more
abbrev pub and_then : Ran → (State → Ran) → Ran
and_then r more = cond (eqb r.number 0) (onto r.done r.told (more r.after)) r

-- a burst for each list, until one is refused
unfoldable pub ran_all : Part → State → List (List Sent) → Ran
ran_all p s [] = ended 0 s
ran_all p s (es ∷ rest) = and_then (ran p s es) (λ s. ran_all p s rest)

-- all their events
unfoldable pub all_of : List (List Sent) → List Sent
all_of [] = []
all_of (es ∷ rest) = es ++ all_of rest
