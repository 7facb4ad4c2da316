-- Texts in pieces come to what is found in the whole texts: the header, and what the calls come to. Assumes nothing.
use mathlib.Core.Path.{◌≡◌, refl, ap, sym, ◌∙◌}
use mathlib.Core.List.{List, [], ◌++◌}
use Prim.Native.Nat.{ℕ, ◌-◌, ◌≤◌}
use native.Mathlib.Omega.{arith}
use lib.ListN.{length, take, drop}
use Rattle.text.specs.Text.{Wrote}
use Rattle.trace_logs.specs.Logs.{header}
use Rattle.trace_logs.specs.Pieces.{Reading, opened, given, to_end}
use Rattle.trace_logs.proofs.Whole.{one_piece}
use Rattle.compare_lines.specs.Comparing.{Found, found_in, compared}
use Rattle.compare_lines.specs.Judging.{Takes, Decides}
use Rattle.compare_lines.proofs.Plain.{header_one}
use Rattle.compare_pieces.specs.Meeting.{found_onward, Seen, Ran}
use Rattle.compare_pieces.specs.Meeting.Ran.{Went, Decided, Settled}
use Rattle.compare_pieces.proofs.Laws.{There, there}

-- ---- with the header
compared_is : (events answers : List ℕ) → compared events answers ≡ found_in 0 (header ++ to_end (given opened events)) answers
compared_is events answers = ap (λ (x : List ℕ). found_in 0 x answers) (sym (one_piece events))

header_short : length header ≤ 26
unfolding header
header_short = omega arith

-- the header, judged by what is seen of the answers
module _ (events answers more : List ℕ) {out left : List ℕ} {end : ℕ} (t : There header out left end) (seen : Seen answers more) where
  seen_header : length answers ≤ length header → more ≡ []
  seen_header h = seen (omega (arith, h, header_short))

  pub header_agrees : {taken : ℕ} → Takes (take (end - 0) left) answers taken → compared events (answers ++ more) ≡ found_onward 1 opened events (drop taken answers ++ more)
  header_agrees {taken} j =
      let judged : Takes header answers taken = rw t.line at j in
      compared_is events (answers ++ more) ∙ judged.goes_on header_one 0 (to_end (given opened events)) more seen_header

  pub whole_header : {verdict : ℕ} → Decides (take (end - 0) left) answers verdict → compared events (answers ++ more) ≡ record { verdict = verdict; agreed = 0; left = answers ++ more }
  whole_header {verdict} j =
      let judged : Decides header answers verdict = rw t.line at j in
      compared_is events (answers ++ more) ∙ judged.decides header_one 0 (to_end (given opened events)) more seen_header

-- the code's header
pub header_there : {out left : List ℕ} {end : ℕ} → Wrote out 0 header end left → length out ≡ 26 → There header out left end
header_there w room = there w header_short (omega (arith, room))

pub header_some : {out left : List ℕ} {end : ℕ} → There header out left end → end ≡ 0 → ⊥
unfolding header
header_some t z = omega (arith, t.ends, z)

-- ---- in pieces
-- the theorem: whatever the pieces, a comparison that ends has found what the definition finds in the texts that were left
pub in_pieces : {n : ℕ} {r : Reading} {events answers : List ℕ} {f : Found} → Ran n r events answers f → found_onward n r events answers ≡ f
in_pieces (Went {n} events later answers more m u later-calls) = m.goes_on refl n later more u ∙ in_pieces later-calls
in_pieces (Decided {n} events later answers more {v} m u) = m.decides v refl n later more u
in_pieces (Settled {n} answers more s seen) = s.settles n more seen

-- and with the header
pub whole_pieces : (events answers more : List ℕ) {out left : List ℕ} {end : ℕ} → There header out left end → {taken : ℕ} → Takes (take (end - 0) left) answers taken → Seen answers more
    → {f : Found} → Ran 1 opened events (drop taken answers ++ more) f → compared events (answers ++ more) ≡ f
whole_pieces events answers more t j seen ran = header_agrees events answers more t seen j ∙ in_pieces ran
