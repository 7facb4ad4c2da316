-- A piece of the events is its first line and the rest, and what that line expects is judged. Assumes nothing.
use mathlib.Core.Path.{◌≡◌, refl, ap, sym, ◌∙◌}
use mathlib.Core.Bool.{Bool, true, false, cond}
use mathlib.Core.List.{List, [], ◌∷◌, ◌++◌, append_assoc}
use Prim.Native.Nat.{ℕ, suc, ◌+◌, ◌-◌, ◌<◌, ◌≤◌}
use native.Mathlib.Omega.{arith}
use lib.Dec.{ltb}
use lib.ListN.{length, take, drop, length-drop}
use lib.Seq.{sets-eq, take-append_seam, drop-drop}
use Rattle.bits.proofs.Decide.{clash}
use Rattle.std.specs.Prelude.{Option, None, Some}
use Rattle.std.specs.Option.{is_some}
use Rattle.std.proofs.lemmas.Option.{none-some}
use Rattle.text.specs.Text.{Wrote}
use Rattle.text.proofs.Laws.{wrote_length}
use Rattle.text_pieces.specs.Pieces.{newline_at, taken_of}
use Rattle.trace_lines.specs.Lines.{line_of}
use Rattle.text.proofs.Laws.{rest as tail}
use Rattle.trace_session.specs.Tracing.{part_in, answer_to}
use Rattle.trace_session.specs.Bounds.{traced_short}
use Rattle.text_logs.specs.Pieces.{grown, and_then, first_given as first_by, Gives}
use Rattle.text_logs.proofs.Laws.{given_first}
use Rattle.text_logs.proofs.Whole.{then_then, given_append}
use Rattle.text_logs.proofs.Feeding.{taken_some}
use Rattle.trace_logs.specs.Pieces.{Reading, Given, ended, given, first_given, last_text, to_end}
use Rattle.compare_lines.specs.Comparing.{found_in}
use Rattle.compare_lines.specs.Judging.{OneLine, Takes, Decides}
use Rattle.compare_lines.specs.Verdicts.{number_of}
use Rattle.compare_lines.specs.declared.Verdict.{Verdict}
use Rattle.compare_lines.proofs.Plain.{answer_one}
use Rattle.compare_pieces.specs.Meeting.{found_onward, Seen, Unless, Meets}

-- a line that is written at the beginning of a memory for one, as the code names it
pub record There (text out left : List ℕ) (end : ℕ) : Type 0 where
  pub line : take (end - 0) left ≡ text
  pub long : length left ≡ length out
  pub within : end ≤ length left
  pub ends : end ≡ length text

pub there : {out text left : List ℕ} {end : ℕ} → Wrote out 0 text end left → length text ≤ 26 → 26 ≤ length out → There text out left end
there {out} {text} {left} {end} w short room =
    let n : end - 0 ≡ length text = omega (arith, w.ends) in
    record {
      line = ap (λ (k : ℕ). take k left) n ∙ ap (take (length text)) (w.holds ∙ sets-eq text out 0 (omega arith)) ∙ take-append_seam text (drop (0 + length text) out);
      long = wrote_length w;
      within = omega (arith, w.ends, wrote_length w);
      ends = omega (arith, w.ends);
    }

pub some_there : {text out left : List ℕ} {end : ℕ} → There text out left end → (end ≡ 0 → ⊥) → 0 < length (take (end - 0) left)
some_there {text} {out} {left} {end} t some = omega (arith, ap length t.line, t.ends, some)

pub nothing : (s : List ℕ) → length s ≡ 0 → s ≡ []
nothing [] e = refl
nothing (b ∷ s) e = absurd (omega arith)

abbrev number_in : Option Verdict → ℕ
number_in None = 0
number_in (Some v) = number_of v

-- what the first line of a piece expects is one line, or nothing
first_short : (r : Reading) (events : List ℕ) → length (first_given r events).text ≤ 26
unfolding first_by
first_short r events = go (ltb (newline_at events) (length events))
  where
    line : Reading
    line = grown r (take (newline_at events) events)

    go : (t : Bool) → length (cond t (ended line) (record { text = []; after = grown r events })).text ≤ 26
    go true = traced_short line.session (line_of (part_in line.session) line.begun)
    go false = omega arith

first_one : (r : Reading) (events : List ℕ) → (length (first_given r events).text ≡ 0 → ⊥) → OneLine (first_given r events).text
unfolding first_by
first_one r events = go (ltb (newline_at events) (length events))
  where
    line : Reading
    line = grown r (take (newline_at events) events)

    go : (t : Bool) → (length (cond t (ended line) (record { text = []; after = grown r events })).text ≡ 0 → ⊥) → OneLine (cond t (ended line) (record { text = []; after = grown r events })).text
    go true some = answer_one line.session (line_of (part_in line.session) line.begun)
    go false some = absurd (some refl)

-- where the code put it
pub first_there : (r : Reading) (events : List ℕ) {out left : List ℕ} {end : ℕ} {after : Reading} → Gives (first_given r events) out 0 end left after → 26 ≤ length out
    → There (first_given r events).text out left end
first_there r events g room = there g.wrote (first_short r events) room

module _ (r : Reading) (events : List ℕ) (small : length r.begun ≤ 33) where
  -- what it expects comes first, whatever follows the piece
  first_then : (later : List ℕ) → to_end (given r (events ++ later)) ≡ (first_given r events).text ++ to_end (given (first_given r events).after (drop (taken_of events) events ++ later))
  first_then later =
      let first : Given = first_given r events in
      let rest : List ℕ = drop (taken_of events) events in
      let g : Given = given first.after rest in
      let all : given r (events ++ later) ≡ and_then first.text (given first.after (rest ++ later)) =
      given_append answer_to r events later ∙ ap (λ (x : Given). and_then x.text (given x.after later)) (given_first answer_to r events small)
      ∙ sym (then_then answer_to first.text g.text (given g.after later)) ∙ ap (and_then first.text) (sym (given_append answer_to first.after rest later)) in
      ap to_end all
      ∙ append_assoc first.text (given first.after (rest ++ later)).text (last_text (given first.after (rest ++ later)).after)

  module _ (some : 0 < length events) (answers : List ℕ) {after : Reading} {told : ℕ} (goes : after ≡ (first_given r events).after) (takes : told ≡ taken_of events) where
    -- what is found after it
    on : (n k : ℕ) (later rest : List ℕ) → n ≡ k → found_in n (to_end (given (first_given r events).after (drop (taken_of events) events ++ later))) rest ≡ found_onward k after (drop told events ++ later) rest
    on n k later rest e =
        ap (λ (x : ℕ). found_in x (to_end (given (first_given r events).after (drop (taken_of events) events ++ later))) rest) e
        ∙ ap (λ (x : Reading). found_in k (to_end (given x (drop (taken_of events) events ++ later))) rest) (sym goes)
        ∙ ap (λ (x : ℕ). found_in k (to_end (given after (drop x events ++ later))) rest) (sym takes)

    pub meets_nothing : length (first_given r events).text ≡ 0 → Meets (Seen answers) r events answers None 0 told 0 after
    meets_nothing none = record {
      within_events = omega (arith, (taken_some events some).1);
      within_answers = omega arith;
      few = omega arith;
      goes_on = λ v n later more seen. (
          ap (λ (x : List ℕ). found_in n x (answers ++ more)) (first_then later ∙ ap (λ (x : List ℕ). x ++ to_end (given (first_given r events).after (drop (taken_of events) events ++ later))) (nothing (first_given r events).text none))
          ∙ on n (n + 0) later (answers ++ more) (omega arith));
      decides = λ v e. absurd (none-some v e);
    }

    module _ {out left : List ℕ} {end : ℕ} (t : There (first_given r events).text out left end) (there_is : end ≡ 0 → ⊥) where
      abbrev line : List ℕ
      line = take (end - 0) left

      is : line ≡ (first_given r events).text
      is = t.line

      one : OneLine line
      one = rw (sym is) at (first_one r events (λ z. there_is (t.ends ∙ z)))

      all_seen : (more : List ℕ) → Seen answers more → length answers ≤ length line → more ≡ []
      all_seen more seen h = seen (omega (arith, ap length is, first_short r events))

      expects : (n : ℕ) (later rest : List ℕ) → found_onward n r (events ++ later) rest ≡ found_in n (line ++ to_end (given (first_given r events).after (drop (taken_of events) events ++ later))) rest
      expects n later rest =
          ap (λ (x : List ℕ). found_in n x rest) (first_then later)
          ∙ ap (λ (x : List ℕ). found_in n (x ++ to_end (given (first_given r events).after (drop (taken_of events) events ++ later))) rest) (sym is)

      pub meets_line : {taken : ℕ} → Takes (take (end - 0) left) answers taken → Meets (Seen answers) r events answers None 1 told taken after
      meets_line {taken} j = record {
        within_events = omega (arith, (taken_some events some).1);
        within_answers = j.within;
        few = omega (arith, (taken_some events some).0);
        goes_on = λ v n later more seen. (
            expects n later (answers ++ more)
            ∙ j.goes_on one n (to_end (given (first_given r events).after (drop (taken_of events) events ++ later))) more (all_seen more seen)
            ∙ on (suc n) (n + 1) later (drop taken answers ++ more) (omega arith));
        decides = λ v e. absurd (none-some v e);
      }

      pub meets_verdict : (v : Verdict) → Decides (take (end - 0) left) answers (number_of v) → (any : Reading) → Meets (Seen answers) r events answers (Some v) 0 0 0 any
      meets_verdict v j any = record {
        within_events = omega arith;
        within_answers = omega arith;
        few = omega arith;
        goes_on = λ e. absurd (none-some v (sym e));
        decides = λ w e n later more seen. (
            let z : n ≡ n + 0 = omega arith in
            let same : number_of v ≡ number_of w = ap number_in e in
            expects n later (answers ++ more)
            ∙ j.decides one n (to_end (given (first_given r events).after (drop (taken_of events) events ++ later))) more (all_seen more seen)
            ∙ ap (λ (k : ℕ). record { verdict = number_of v; agreed = k; left = answers ++ more }) z
            ∙ ap (λ (k : ℕ). record { verdict = k; agreed = n + 0; left = answers ++ more }) same);
      }

-- ---- one line after the other
-- and then what a call makes of the rests, as the code names them
pub meets_then : {last : Bool} {r between after : Reading} {events answers : List ℕ} {lines told taken : ℕ} → Meets (Unless last) r events answers None lines told taken between
    → (length answers - taken ≤ 26 → last ≡ true) → {verdict : Option Verdict} {lines' told' taken' : ℕ}
    → Meets (Seen (take (length answers - taken) (drop taken answers))) between (take (length events - told) (drop told events)) (take (length answers - taken) (drop taken answers)) verdict lines' told' taken' after
    → Meets (Unless last) r events answers verdict (lines + lines') (told + told') (taken + taken') after
meets_then {last} {r} {between} {after} {events} {answers} {lines} {told} {taken} m few {verdict} {lines'} {told'} {taken'} given-step =
    record {
      within_events = omega (arith, s.within_events, length-drop told events, m.within_events);
      within_answers = omega (arith, s.within_answers, length-drop taken answers, m.within_answers);
      few = omega (arith, s.few, m.few);
      goes_on = λ v n later more u. (
          m.goes_on refl n later more u ∙ s.goes_on v (n + lines) later more (seen more u)
          ∙ ap (λ (k : ℕ). found_onward k after (drop told' (drop told events) ++ later) (drop taken' (drop taken answers) ++ more)) (sum n)
          ∙ ap (λ (x : List ℕ). found_onward (n + (lines + lines')) after (x ++ later) (drop taken' (drop taken answers) ++ more)) (drop-drop told' told events)
          ∙ ap (λ (x : List ℕ). found_onward (n + (lines + lines')) after (drop (told + told') events ++ later) (x ++ more)) (drop-drop taken' taken answers));
      decides = λ v e n later more u. (
          m.goes_on refl n later more u ∙ s.decides v e (n + lines) later more (seen more u)
          ∙ ap (λ (k : ℕ). record { verdict = number_of v; agreed = k; left = drop taken' (drop taken answers) ++ more }) (sum n)
          ∙ ap (λ (x : List ℕ). record { verdict = number_of v; agreed = n + (lines + lines'); left = x ++ more }) (drop-drop taken' taken answers));
    }
  where
    s : Meets (Seen (drop taken answers)) between (drop told events) (drop taken answers) verdict lines' told' taken' after
    s = rw (tail taken answers, tail told events) at given-step

    seen : (more : List ℕ) → Unless last more → Seen (drop taken answers) more
    seen more u h = u (few (omega (arith, length-drop taken answers, h)))

    sum : (n : ℕ) → n + lines + lines' ≡ n + (lines + lines')
    sum n = omega arith

pub none_yet : {verdict : Option Verdict} → is_some verdict ≡ false → verdict ≡ None
none_yet {verdict = None} e = refl
none_yet {verdict = Some v} e = clash true refl e

pub meets_on : {follows : List ℕ → Type 0} {r after : Reading} {events answers : List ℕ} {verdict : Option Verdict} {lines told taken : ℕ} → is_some verdict ≡ false → Meets follows r events answers verdict lines told taken after
    → Meets follows r events answers None lines told taken after
meets_on e m = let none : _ = none_yet e in rw none at m

-- the events that are left: none once the verdict is found
abbrev pub to_go : Option Verdict → ℕ → ℕ
to_go None n = n
to_go (Some v) n = 0

pub fewer_to_go : (before after : Option Verdict) (all events more : ℕ) → is_some before ≡ false → (after ≡ None → 0 < more) → events < all → to_go after (all - (events + more)) < to_go before (all - events)
fewer_to_go None None all events more e some h = omega (arith, some refl, h)
fewer_to_go None (Some v) all events more e some h = omega (arith, h)
fewer_to_go (Some v) after all events more e some h = clash true refl e
