-- Which line departs, and that every line before it agrees. Assumes nothing.
use mathlib.Core.Path.{◌≡◌, refl, ap, sym, ◌∙◌}
use mathlib.Core.Bool.{Bool, true, false, cond}
use mathlib.Core.List.{List, [], ◌∷◌, ◌++◌, append_assoc, append-nil}
use Prim.Native.Nat.{ℕ, suc, ◌+◌, ◌-◌, ◌<◌}
use native.Mathlib.Omega.{arith}
use borrow.Author.Tests.{lt-ltb}
use lib.Dec.{eqb, ltb, leb-suc-suc}
use lib.ListN.{length, take, drop, length-drop, length-append}
use lib.Seq.{drop-drop}
use Rattle.bits.proofs.Decide.{clash}
use Rattle.text.specs.Text.{is_word}
use Rattle.text_pieces.specs.Pieces.{newline_at, taken_of}
use Rattle.text_logs.specs.Lines.{lines_of}
use Rattle.trace_logs.specs.Logs.{answers_of}
use Rattle.text_logs.proofs.Feeding.{taken_some}
use Rattle.compare_lines.specs.Comparing.{Found, departs, first_line, after_line, found, compared}
use Rattle.compare_lines.specs.Which.{Which}
use Rattle.compare_lines.proofs.Laws.{word_itself, word_is}

-- the lines of a text are its first and those of what follows it
lines_split : (begun text : List ℕ) → 0 < length begun + length text → lines_of begun text ≡ (begun ++ first_line text) ∷ lines_of [] (after_line text)
unfolding lines_of newline_at taken_of
lines_split [] [] h = absurd (omega arith)
lines_split (b ∷ begun) [] h = ap (λ (x : List ℕ). x ∷ []) (sym (append-nil (b ∷ begun)))
lines_split begun (b ∷ text) h = go (eqb b 0x0a) (λ l. lines_split (begun ++ (b ∷ [])) text l)
  where
    rest : ℕ → List ℕ → List ℕ
    rest n s = drop (cond (ltb n (length s)) (n + 1) (length s)) s

    rest_later : (n : ℕ) → rest n text ≡ rest (suc n) (b ∷ text)
    rest_later n = arm (ltb n (length text)) ∙ ap (λ (t : Bool). drop (cond t (suc n + 1) (suc (length text))) (b ∷ text)) (sym (leb-suc-suc (suc n) (length text)))
      where
        arm : (t : Bool) → drop (cond t (n + 1) (length text)) text ≡ drop (cond t (suc n + 1) (suc (length text))) (b ∷ text)
        arm true = let e : suc n + 1 ≡ suc (n + 1) = omega arith in ap (λ (k : ℕ). drop k (b ∷ text)) (sym e)
        arm false = refl

    go : (t : Bool) → (0 < length (begun ++ (b ∷ [])) + length text → lines_of (begun ++ (b ∷ [])) text ≡ ((begun ++ (b ∷ [])) ++ first_line text) ∷ lines_of [] (after_line text))
        → cond t (begun ∷ lines_of [] text) (lines_of (begun ++ (b ∷ [])) text)
        ≡ (begun ++ take (cond t 0 (suc (newline_at text))) (b ∷ text)) ∷ lines_of [] (rest (cond t 0 (suc (newline_at text))) (b ∷ text))
    go true later =
        ap (λ (x : List ℕ). x ∷ lines_of [] text) (sym (append-nil begun))
        ∙ ap (λ (t : Bool). (begun ++ []) ∷ lines_of [] (drop (cond t (0 + 1) (suc (length text))) (b ∷ text))) (sym (lt-ltb 0 (suc (length text)) (omega arith)))
    go false later =
        later (omega (arith, length-append begun (b ∷ [])))
        ∙ ap (λ (x : List ℕ). x ∷ lines_of [] (after_line text)) (append_assoc begun (b ∷ []) (first_line text))
        ∙ ap (λ (x : List ℕ). (begun ++ (b ∷ first_line text)) ∷ lines_of [] x) (rest_later (newline_at text))

-- what is found after n lines, and how many agree then
record Counted (n : ℕ) (expected : List (List ℕ)) (answers : List ℕ) (f : Found) : Type 0 where
  count : ℕ
  is : f.agreed ≡ n + count
  which : Which expected answers count f

-- the end of a text after a line lies in the text
lies_on : (b : ℕ) (answers left : List ℕ) → drop (length (after_line (b ∷ answers)) - length left) (after_line (b ∷ answers)) ≡ left
    → drop (length (b ∷ answers) - length left) (b ∷ answers) ≡ left
lies_on b answers left e =
    let s : List ℕ = b ∷ answers in
    let l = taken_some s (omega arith) in
    let n : taken_of s + (length (after_line s) - length left) ≡ length s - length left =
    omega (arith, l.0, l.1, length-drop (taken_of s) s, ap length e, length-drop (length (after_line s) - length left) (after_line s)) in
    ap (λ (k : ℕ). drop k s) (sym n) ∙ sym (drop-drop (length (after_line s) - length left) (taken_of s) s) ∙ e

count_from : (n : ℕ) (expected : List (List ℕ)) (answers : List ℕ) → Counted n expected answers (found n expected answers)
unfolding found lines_of
count_from n [] [] = record {
  count = 0;
  is = omega arith;
  which = record {
    one_of_four = omega arith;
    before = refl;
    lies_there = refl;
    all_agree = λ v. (refl, refl);
    next_departs = λ v. absurd (omega (arith, v));
    next_missing = λ v. absurd (omega (arith, v));
    next_unexpected = λ v. absurd (omega (arith, v));
  };
}
count_from n [] (b ∷ answers) = record {
  count = 0;
  is = omega arith;
  which = record {
    one_of_four = omega arith;
    before = refl;
    lies_there = let z : length (b ∷ answers) - length (b ∷ answers) ≡ 0 = omega arith in ap (λ (k : ℕ). drop k (b ∷ answers)) z;
    all_agree = λ v. absurd (omega (arith, v));
    next_departs = λ v. absurd (omega (arith, v));
    next_missing = λ v. absurd (omega (arith, v));
    next_unexpected = λ v. (refl, omega arith);
  };
}
count_from n (line ∷ expected) [] = record {
  count = 0;
  is = omega arith;
  which = record {
    one_of_four = omega arith;
    before = refl;
    lies_there = refl;
    all_agree = λ v. absurd (omega (arith, v));
    next_departs = λ v. absurd (omega (arith, v));
    next_missing = λ v. (omega arith, refl);
    next_unexpected = λ v. absurd (omega (arith, v));
  };
}
count_from n (line ∷ expected) (b ∷ answers) = go (is_word line (first_line (b ∷ answers))) refl (count_from (suc n) expected (after_line (b ∷ answers)))
  where
    here : List ℕ
    here = b ∷ answers

    go : (t : Bool) → is_word line (first_line here) ≡ t → Counted (suc n) expected (after_line here) (found (suc n) expected (after_line here))
        → Counted n (line ∷ expected) here (cond t (found (suc n) expected (after_line here)) (record { verdict = departs; agreed = n; left = here }))
    go true e c =
        let w = c.which in
        let lines : lines_of [] here ≡ line ∷ lines_of [] (after_line here) =
        lines_split [] here (omega arith) ∙ ap (λ (x : List ℕ). x ∷ lines_of [] (after_line here)) (word_is line (first_line here) e) in
        record {
          count = suc c.count;
          is = omega (arith, c.is);
          which = record {
            one_of_four = w.one_of_four;
            before = lines ∙ ap (λ (x : List (List ℕ)). line ∷ x) w.before;
            lies_there = lies_on b answers (found (suc n) expected (after_line here)).left w.lies_there;
            all_agree = λ v. (lines ∙ ap (λ (x : List (List ℕ)). line ∷ x) (w.all_agree v).0, (w.all_agree v).1);
            next_departs = λ v. (omega (arith, (w.next_departs v).0), (w.next_departs v).1, (w.next_departs v).2);
            next_missing = λ v. (omega (arith, (w.next_missing v).0), (w.next_missing v).1);
            next_unexpected = λ v. (ap suc (w.next_unexpected v).0, (w.next_unexpected v).1);
          };
        }
    go false e c = record {
      count = 0;
      is = omega arith;
      which = record {
        one_of_four = omega arith;
        before = refl;
        lies_there = let z : length here - length here ≡ 0 = omega arith in ap (λ (k : ℕ). drop k here) z;
        all_agree = λ v. absurd (omega (arith, v));
        next_departs = λ v. (omega arith, omega arith, λ q. clash (is_word line (first_line here)) (ap (is_word line) q ∙ word_itself line) e);
        next_missing = λ v. absurd (omega (arith, v));
        next_unexpected = λ v. absurd (omega (arith, v));
      };
    }

-- the theorem: so many lines as it says agree, and the verdict says what is the matter with the next
pub which_line : (events answers : List ℕ) → Which (lines_of [] (answers_of events)) answers (compared events answers).agreed (compared events answers)
which_line events answers =
    let expected : List (List ℕ) = lines_of [] (answers_of events) in
    let c : Counted 0 expected answers (compared events answers) = count_from 0 expected answers in
    let e : c.count ≡ (compared events answers).agreed = omega (arith, c.is) in
    rw e at c.which
