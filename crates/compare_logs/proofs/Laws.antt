-- Whole texts: the header, all events, and their end. Assumes nothing.
use mathlib.Core.Path.{◌≡◌, refl, ap, sym, ◌∙◌}
use mathlib.Core.Bool.{true}
use mathlib.Core.List.{List, [], ◌∷◌, ◌++◌, append-nil}
use Prim.Native.Nat.{ℕ, ◌+◌, ◌-◌, ◌≤◌}
use native.Mathlib.Omega.{arith}
use lib.ListN.{length, take, drop, length-drop}
use lib.Seq.{drop-drop, drop-length}
use Rattle.text_pieces.specs.Pieces.{newline_at}
use Rattle.text.proofs.Laws.{rest as tail}
use Rattle.trace_logs.specs.Logs.{header}
use Rattle.trace_logs.specs.Pieces.{Reading, opened}
use Rattle.compare_lines.specs.Comparing.{Found, first_line, compared, part_from}
use Rattle.compare_lines.specs.Judging.{Takes, Decides}
use Rattle.std.specs.Prelude.{Option, None, Some}
use Rattle.compare_lines.specs.Verdicts.{number_of}
use Rattle.compare_lines.specs.declared.Verdict.{Verdict}
use Rattle.compare_pieces.specs.Meeting.{found_onward, Unless, Meets, Settles}
use Rattle.compare_pieces.proofs.Laws.{There}
use Rattle.compare_pieces.proofs.Whole.{header_agrees, whole_header}
use Rattle.compare_logs.specs.Finding.{FindsOn, LineAt, Finds}

-- ---- after the header
module _ {r : Reading} (start : r ≡ opened) (events rest : List ℕ) where
  whole : (n : ℕ) → found_onward n r (events ++ []) (rest ++ []) ≡ found_onward n opened events rest
  whole n =
      ap (λ (x : Reading). found_onward n x (events ++ []) (rest ++ [])) start ∙ ap (λ (x : List ℕ). found_onward n opened x (rest ++ [])) (append-nil events)
      ∙ ap (found_onward n opened events) (append-nil rest)

  pub finds_decided : {verdict : Option Verdict} {lines told taken : ℕ} {after : Reading} → Meets (Unless true) r events rest verdict lines told taken after → (v : Verdict) → verdict ≡ Some v → FindsOn events rest (number_of v) (drop taken rest)
  finds_decided {verdict} {lines} {told} {taken} m v e =
      let found : (n : ℕ) → found_onward n opened events rest ≡ record { verdict = number_of v; agreed = n + lines; left = drop taken rest ++ [] } =
      λ n. (sym (whole n) ∙ m.decides v e n [] [] (λ u. refl)) in
      record {
        verdict_on = λ n. sym (ap (λ (f : Found). f.verdict) (found n));
        left_on = λ n. sym (ap (λ (f : Found). f.left) (found n) ∙ append-nil (drop taken rest));
      }

  module _ {lines told taken : ℕ} {after : Reading} {verdict-yet : Option Verdict} (m : Meets (Unless true) r events rest verdict-yet lines told taken after) (none : verdict-yet ≡ None) (all : told ≡ length events)
      {verdict lines' taken' : ℕ} (s : Settles after (take (length rest - taken) (drop taken rest)) verdict lines' taken') where
    settled : Settles after (drop taken rest) verdict lines' taken'
    settled = rw (tail taken rest) at s

    settled_on : (n : ℕ) → found_onward n opened events rest ≡ record { verdict = verdict; agreed = n + lines + lines'; left = drop taken' (drop taken rest) ++ [] }
    settled_on n =
        sym (whole n) ∙ m.goes_on none n [] [] (λ u. refl)
        ∙ ap (λ (x : List ℕ). found_onward (n + lines) after x (drop taken rest ++ [])) (append-nil (drop told events) ∙ ap (λ (k : ℕ). drop k events) all ∙ drop-length events)
        ∙ settled.settles (n + lines) [] (λ u. refl)

    pub finds_settled : FindsOn events rest verdict (drop (taken + taken') rest)
    finds_settled = record {
      verdict_on = λ n. sym (ap (λ (f : Found). f.verdict) (settled_on n));
      left_on = λ n. sym (ap (λ (f : Found). f.left) (settled_on n) ∙ append-nil (drop taken' (drop taken rest)) ∙ drop-drop taken' taken rest);
    }

    pub settled_within : taken + taken' ≤ length rest
    settled_within = omega (arith, settled.within, length-drop taken rest, m.within_answers)

-- ---- with the header
finds : (events answers : List ℕ) {verdict from to : ℕ} → verdict ≡ (compared events answers).verdict → drop from answers ≡ (compared events answers).left → from ≤ length answers → LineAt answers from to → Finds events answers verdict from to
finds events answers {verdict} {from} {to} v l h a =
    let f : from ≡ part_from answers (compared events answers) = omega (arith, ap length l, length-drop from answers) in
    record {
      verdict_is = v;
      from_is = f;
      to_is = a.ends ∙ ap (λ (x : List ℕ). from + newline_at x) l ∙ ap (λ (k : ℕ). k + newline_at (compared events answers).left) f;
      lies_there = l;
      ordered = a.ordered;
      within = a.within;
    }

-- by all of them
module _ (events answers : List ℕ) {out left : List ℕ} {end : ℕ} (t : There header out left end) where
  all : compared events answers ≡ compared events (answers ++ [])
  all = ap (compared events) (sym (append-nil answers))

  pub finds_header : {verdict : ℕ} → Decides (take (end - 0) left) answers verdict → {to : ℕ} → LineAt answers 0 to → Finds events answers verdict 0 to
  finds_header {verdict} j a =
      let e : compared events answers ≡ record { verdict = verdict; agreed = 0; left = answers ++ [] } = all ∙ whole_header events answers [] t (λ u. refl) j in
      finds events answers (sym (ap (λ (f : Found). f.verdict) e)) (sym (ap (λ (f : Found). f.left) e ∙ append-nil answers)) (omega arith) a

  pub finds_rest : {taken : ℕ} → Takes (take (end - 0) left) answers taken → {found from to : ℕ} → FindsOn events (take (length answers - taken) (drop taken answers)) found (drop from (take (length answers - taken) (drop taken answers))) → from ≤ length (take (length answers - taken) (drop taken answers))
      → LineAt answers (taken + from) to → Finds events answers found (taken + from) to
  finds_rest {taken} j {found} {from} {to} f h a =
      let g : FindsOn events (drop taken answers) found (drop from (drop taken answers)) = rw (tail taken answers) at f in
      let c : compared events answers ≡ found_onward 1 opened events (drop taken answers) =
      all ∙ header_agrees events answers [] t (λ u. refl) j ∙ ap (found_onward 1 opened events) (append-nil (drop taken answers)) in
      finds events answers (g.verdict_on 1 ∙ sym (ap (λ (x : Found). x.verdict) c)) (sym (drop-drop from taken answers) ∙ g.left_on 1 ∙ sym (ap (λ (x : Found). x.left) c))
      (omega (arith, h, ap length (tail taken answers), length-drop taken answers, j.within)) a

-- the line that begins at a place
pub line_here : (answers : List ℕ) (from len : ℕ) → from ≤ length answers → len ≡ newline_at (take (length answers - from) (drop from answers)) → len ≤ length (take (length answers - from) (drop from answers)) → LineAt answers from (from + len)
line_here answers from len h e l = record {
  ends = ap (λ (k : ℕ). from + k) (e ∙ ap newline_at (tail from answers));
  ordered = omega arith;
  within = omega (arith, l, ap length (tail from answers), length-drop from answers);
}

pub finds_as : {events answers : List ℕ} {verdict verdict' from from' to : ℕ} → verdict' ≡ verdict → from' ≡ from → Finds events answers verdict from to → Finds events answers verdict' from' to
finds_as v e f = rw (v, e) f

-- the part, as the code names it
part_long : (events answers : List ℕ) {verdict from to : ℕ} → Finds events answers verdict from to → to - from ≡ newline_at (compared events answers).left
part_long events answers f = omega (arith, f.from_is, f.to_is)

pub part_is : (events answers : List ℕ) {verdict from to : ℕ} → Finds events answers verdict from to → take (to - from) (drop from answers) ≡ first_line (compared events answers).left
part_is events answers {verdict} {from} {to} f =
    ap (λ (k : ℕ). take k (drop from answers)) (part_long events answers f) ∙ ap (take (newline_at (compared events answers).left)) f.lies_there

-- and as two numbers
pub part_told : (events answers : List ℕ) {verdict from to : ℕ} → Finds events answers verdict from to → from ∷ (to - from) ∷ [] ≡ part_from answers (compared events answers) ∷ newline_at (compared events answers).left ∷ []
part_told events answers {verdict} {from} {to} f =
    ap (λ (k : ℕ). k ∷ (to - from) ∷ []) f.from_is ∙ ap (λ (k : ℕ). part_from answers (compared events answers) ∷ k ∷ []) (part_long events answers f)
