-- At the end of the events a line that has begun is judged, and then no line is expected any more. Assumes nothing.
use mathlib.Core.Path.{◌≡◌, refl, ap, sym, ◌∙◌}
use mathlib.Core.Bool.{Bool, true, false, cond}
use mathlib.Core.List.{List, [], ◌∷◌, ◌++◌, append-nil}
use Prim.Native.Nat.{ℕ, suc, ◌+◌, ◌-◌, ◌<◌, ◌≤◌}
use native.Mathlib.Omega.{arith}
use borrow.Author.Tests.{ltb-true, ltb-false}
use lib.Dec.{eqb, ltb}
use lib.ListN.{length, take, drop, length-append, length-drop}
use Rattle.trace_lines.specs.Lines.{line_of}
use Rattle.trace_session.specs.Tracing.{part_in}
use Rattle.trace_session.specs.Bounds.{traced_short}
use Rattle.text_logs.specs.Lines.{lines_of}
use Rattle.text_logs.specs.Pieces.{given as given_by, at_end as end_by, Gives}
use Rattle.trace_logs.specs.Pieces.{Reading, ended, last_text, at_end}
use Rattle.compare_lines.specs.Comparing.{agrees, left_over, found, found_in}
use Rattle.compare_lines.specs.Judging.{OneLine, Takes, Decides}
use Rattle.compare_lines.proofs.Plain.{answer_one}
use Rattle.compare_pieces.specs.Meeting.{Seen, Settles}
use Rattle.compare_pieces.proofs.Laws.{There, there, nothing}

-- what a line that has begun expects is one line, or nothing
last_short : (r : Reading) → length (last_text r) ≤ 26
unfolding end_by
last_short r = go (eqb (length r.begun) 0)
  where
    go : (t : Bool) → length (cond t (record { text = []; after = r }) (ended r)).text ≤ 26
    go true = omega arith
    go false = traced_short r.session (line_of (part_in r.session) r.begun)

last_one : (r : Reading) → (length (last_text r) ≡ 0 → ⊥) → OneLine (last_text r)
unfolding end_by
last_one r = go (eqb (length r.begun) 0)
  where
    go : (t : Bool) → (length (cond t (record { text = []; after = r }) (ended r)).text ≡ 0 → ⊥) → OneLine (cond t (record { text = []; after = r }) (ended r)).text
    go true some = absurd (some refl)
    go false some = answer_one r.session (line_of (part_in r.session) r.begun)

pub last_there : (r : Reading) {out left : List ℕ} {end : ℕ} {after : Reading} → Gives (at_end r) out 0 end left after → 26 ≤ length out → There (last_text r) out left end
last_there r e room = there e.wrote (last_short r) room

-- no line is expected any more
found_rest : (n : ℕ) (rest : List ℕ) (verdict : ℕ) → (length rest ≡ 0 → verdict ≡ agrees) → (0 < length rest → verdict ≡ left_over) → found_in n [] rest ≡ record { verdict = verdict; agreed = n; left = rest }
unfolding found lines_of
found_rest n [] verdict none some = ap (λ (v : ℕ). record { verdict = v; agreed = n; left = [] }) (sym (none refl))
found_rest n (b ∷ rest) verdict none some = ap (λ (v : ℕ). record { verdict = v; agreed = n; left = b ∷ rest }) (sym (some (omega arith)))

module _ (r : Reading) (answers : List ℕ) where
  -- what is left of the answers that are seen and what follows them, where this verdict speaks of those
  rest_with : (n taken verdict : ℕ) (more : List ℕ) → Seen answers more → taken ≤ 26 → taken ≤ length answers
      → (length answers - taken ≡ 0 → verdict ≡ agrees) → (0 < length answers - taken → verdict ≡ left_over)
      → found_in n [] (drop taken answers ++ more) ≡ record { verdict = verdict; agreed = n; left = drop taken answers ++ more }
  rest_with n taken verdict more seen short within none some =
      found_rest n (drop taken answers ++ more) verdict
      (λ z. none (omega (arith, z, length-append (drop taken answers) more, length-drop taken answers)))
      (λ s. go (ltb 26 (length answers)) refl s)
    where
      go : (t : Bool) → ltb 26 (length answers) ≡ t → 0 < length (drop taken answers ++ more) → verdict ≡ left_over
      go true e s = some (omega (arith, ltb-true 26 (length answers) e))
      go false e s =
          let z : more ≡ [] = seen (ltb-false 26 (length answers) e) in
          some (omega (arith, s, ap length z, length-append (drop taken answers) more, length-drop taken answers))

  pub settles_none : {verdict : ℕ} → length (last_text r) ≡ 0 → (length answers ≡ 0 → verdict ≡ agrees) → (0 < length answers → verdict ≡ left_over) → Settles r answers verdict 0 0
  unfolding given_by
  settles_none {verdict} empty none some = record {
    within = omega arith;
    settles = λ n more seen. (
        let z : n ≡ n + 0 = omega arith in
        ap (λ (x : List ℕ). found_in n x (answers ++ more)) (nothing (last_text r) empty)
        ∙ rest_with n 0 verdict more seen (omega arith) (omega arith) (λ e. none (omega (arith, e))) (λ e. some (omega (arith, e)))
        ∙ ap (λ (k : ℕ). record { verdict = verdict; agreed = k; left = answers ++ more }) z);
  }

  module _ {out left : List ℕ} {end : ℕ} (t : There (last_text r) out left end) (there_is : end ≡ 0 → ⊥) where
    one_last : OneLine (take (end - 0) left)
    one_last = rw (sym t.line) at (last_one r (λ z. there_is (t.ends ∙ z)))

    last_seen : (more : List ℕ) → Seen answers more → length answers ≤ length (take (end - 0) left) → more ≡ []
    last_seen more seen h = seen (omega (arith, ap length t.line, last_short r))

    last_expects : (n : ℕ) (rest : List ℕ) → found_in n (last_text r) rest ≡ found_in n (take (end - 0) left ++ []) rest
    last_expects n rest = ap (λ (x : List ℕ). found_in n x rest) (sym t.line ∙ sym (append-nil (take (end - 0) left)))

    pub settles_line : {taken : ℕ} → Takes (take (end - 0) left) answers taken → {verdict : ℕ} → (length answers - taken ≡ 0 → verdict ≡ agrees) → (0 < length answers - taken → verdict ≡ left_over) → Settles r answers verdict 1 taken
    unfolding given_by
    settles_line {taken} j {verdict} none some = record {
      within = j.within;
      settles = λ n more seen. (
          let z : suc n ≡ n + 1 = omega arith in
          last_expects n (answers ++ more) ∙ j.goes_on one_last n [] more (last_seen more seen)
          ∙ rest_with (suc n) taken verdict more seen (omega (arith, j.short, ap length t.line, last_short r)) j.within none some
          ∙ ap (λ (k : ℕ). record { verdict = verdict; agreed = k; left = drop taken answers ++ more }) z);
    }

    pub settles_verdict : {verdict : ℕ} → Decides (take (end - 0) left) answers verdict → Settles r answers verdict 0 0
    unfolding given_by
    settles_verdict {verdict} j = record {
      within = omega arith;
      settles = λ n more seen. (
          let z : n ≡ n + 0 = omega arith in
          last_expects n (answers ++ more) ∙ j.decides one_last n [] more (last_seen more seen)
          ∙ ap (λ (k : ℕ). record { verdict = verdict; agreed = k; left = answers ++ more }) z);
    }
