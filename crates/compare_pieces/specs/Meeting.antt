-- Events and answers that come in pieces of any size: what a call makes of two pieces, and what is found in the end.
use Rattle.std.specs.Prelude.{◌≡◌, Bool, true, not, ◌&&◌, nat_lt, List, [], ◌++◌, ℕ, ◌+◌, ◌≤◌, length, drop, Option, None, Some}
use Rattle.trace_logs.specs.Pieces.{Reading, given, to_end}
use Rattle.compare_lines.specs.Comparing.{Found, found_in}
use Rattle.compare_lines.specs.Verdicts.{number_of}
use Rattle.compare_lines.specs.declared.Verdict.{Verdict}

-- what is found from here on, where these events and these answers are left
abbrev pub found_onward : (agreed : ℕ) → Reading → (events answers : List ℕ) → Found
found_onward n r events answers = found_in n (to_end (given r events)) answers

-- what follows the answers that are seen: nothing, unless they are more than any line
abbrev pub Seen : (answers more : List ℕ) → Type 0
Seen answers more = length answers ≤ 26 → more ≡ []

-- what follows the answers of a call: nothing, if they are said to be the last
abbrev pub Unless : (last : Bool) → (more : List ℕ) → Type 0
Unless last more = last ≡ true → more ≡ []

-- More answers are to be read before a line can be judged: few are there, and they are not said to be the last.
abbrev pub wanting : (left : ℕ) (last : Bool) → Bool
wanting left last = not last && nat_lt left 64

-- What two pieces come to, whatever follows them: so many lines agree, and both go on after so many bytes; or the verdict is found.
pub record Meets (follows : List ℕ → Type 0) (r : Reading) (events answers : List ℕ) (verdict : Option Verdict) (lines told taken : ℕ) (after : Reading) : Type 0 where
  pub within_events : told ≤ length events
  pub within_answers : taken ≤ length answers
  pub few : lines ≤ told
  pub goes_on : verdict ≡ None → (n : ℕ) (later more : List ℕ) → follows more
      → found_onward n r (events ++ later) (answers ++ more) ≡ found_onward (n + lines) after (drop told events ++ later) (drop taken answers ++ more)
  pub decides : (v : Verdict) → verdict ≡ Some v → (n : ℕ) (later more : List ℕ) → follows more
      → found_onward n r (events ++ later) (answers ++ more) ≡ record { verdict = number_of v; agreed = n + lines; left = drop taken answers ++ more }

-- the end of the events: the verdict is found
pub record Settles (r : Reading) (answers : List ℕ) (verdict lines taken : ℕ) : Type 0 where
  pub within : taken ≤ length answers
  pub settles : (n : ℕ) (more : List ℕ) → Seen answers more
      → found_onward n r [] (answers ++ more) ≡ record { verdict = verdict; agreed = n + lines; left = drop taken answers ++ more }

-- ---- a comparison in pieces
-- The header is judged, calls follow on what is there of both texts and on what they leave of it, and one at the end of the events.
pub data Ran : (agreed : ℕ) → Reading → (events answers : List ℕ) → Found → Type 0 where
  Went : {n : ℕ} {r after : Reading} {last : Bool} (events later answers more : List ℕ) {lines told taken : ℕ} {f : Found} → Meets (Unless last) r events answers None lines told taken after → Unless last more
      → Ran (n + lines) after (drop told events ++ later) (drop taken answers ++ more) f → Ran n r (events ++ later) (answers ++ more) f
  Decided : {n : ℕ} {r after : Reading} {last : Bool} (events later answers more : List ℕ) {v : Verdict} {lines told taken : ℕ} → Meets (Unless last) r events answers (Some v) lines told taken after → Unless last more
      → Ran n r (events ++ later) (answers ++ more) (record { verdict = number_of v; agreed = n + lines; left = drop taken answers ++ more })
  Settled : {n : ℕ} {r : Reading} (answers more : List ℕ) {verdict lines taken : ℕ} → Settles r answers verdict lines taken → Seen answers more
      → Ran n r [] (answers ++ more) (record { verdict = verdict; agreed = n + lines; left = drop taken answers ++ more })
