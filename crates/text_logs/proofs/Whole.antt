-- What is written for a log is a function of its text, whatever the pieces in which it arrives and whatever answers a line. Assumes nothing.
use mathlib.Core.Path.{◌≡◌, refl, ap, sym, ◌∙◌}
use mathlib.Core.Bool.{Bool, true, false, cond}
use mathlib.Core.List.{List, [], ◌∷◌, ◌++◌, append_assoc, append-nil}
use Prim.Native.Nat.{ℕ}
use native.Mathlib.Omega.{arith}
use lib.Dec.{eqb}
use lib.ListN.{take, length-take}
use Rattle.text_pieces.proofs.Laws.{take_again}
use Rattle.text_logs.specs.Lines.{Reply, lines_of, last_line, answers_from}
use Rattle.text_logs.specs.Pieces.{Reading, reading, Given, grown, ended, and_then, given, at_end, to_end, joined, given_all}
use Rattle.text_logs.proofs.Laws.{end_none, end_line}

module _ {X : Type 0} (answer : X → List ℕ → Reply X) where
  -- ---- pieces
  pub then_then : (s t : List ℕ) (g : Given X) → and_then s (and_then t g) ≡ and_then (s ++ t) g
  then_then s t g = ap (λ (x : List ℕ). record { text = x; after = g.after }) (sym (append_assoc s t g.text))

  pub given_append : (r : Reading X) (s t : List ℕ) → given answer r (s ++ t) ≡ and_then (given answer r s).text (given answer (given answer r s).after t)
  unfolding given
  given_append r [] t = refl
  given_append r (b ∷ s) t = go (eqb b 0x0a) (given_append (ended answer r).after s t) (given_append (grown r (b ∷ [])) s t)
    where
      go : (c : Bool)
          → given answer (ended answer r).after (s ++ t) ≡ and_then (given answer (ended answer r).after s).text (given answer (given answer (ended answer r).after s).after t)
          → given answer (grown r (b ∷ [])) (s ++ t) ≡ and_then (given answer (grown r (b ∷ [])) s).text (given answer (given answer (grown r (b ∷ [])) s).after t)
          → cond c (and_then (ended answer r).text (given answer (ended answer r).after (s ++ t))) (given answer (grown r (b ∷ [])) (s ++ t))
          ≡ and_then (cond c (and_then (ended answer r).text (given answer (ended answer r).after s)) (given answer (grown r (b ∷ [])) s)).text
          (given answer (cond c (and_then (ended answer r).text (given answer (ended answer r).after s)) (given answer (grown r (b ∷ [])) s)).after t)
      go true line more =
          ap (and_then (ended answer r).text) line
          ∙ then_then (ended answer r).text (given answer (ended answer r).after s).text (given answer (given answer (ended answer r).after s).after t)
      go false line more = more

  pub given_joined : (r : Reading X) (pieces : List (List ℕ)) → given_all answer r pieces ≡ given answer r (joined pieces)
  unfolding given_all joined given
  given_joined r [] = refl
  given_joined r (piece ∷ pieces) =
      ap (and_then (given answer r piece).text) (given_joined (given answer r piece).after pieces) ∙ sym (given_append r piece (joined pieces))

  -- ---- a log in one piece: of a line that is too long its first 33 bytes say as much as all of it
  module _ (cut : (x : X) (line : List ℕ) → answer x (take 33 line) ≡ answer x line) where
    abbrev kept : X → (begun : List ℕ) → Reading X
    kept x begun = reading x (take 33 begun)

    last_answers : (x : X) (begun : List ℕ) → (at_end answer (kept x begun)).text ≡ answers_from answer x (last_line begun)
    unfolding answers_from
    last_answers x [] = ap (λ (g : Given X). g.text) (end_none answer (kept x []) refl)
    last_answers x (b ∷ begun) =
        ap (λ (g : Given X). g.text) (end_line answer (kept x (b ∷ begun)) (λ z. omega (arith, length-take 33 (b ∷ begun), z)))
        ∙ ap (λ (t : Reply X). t.line) (cut x (b ∷ begun)) ∙ sym (append-nil (answer x (b ∷ begun)).line)

    all_answers : (log : List ℕ) (x : X) (begun : List ℕ) → to_end answer (given answer (kept x begun) log) ≡ answers_from answer x (lines_of begun log)
    unfolding given lines_of answers_from
    all_answers [] x begun = last_answers x begun
    all_answers (b ∷ log) x begun = go (eqb b 0x0a) (λ y. all_answers log y []) (all_answers log x (begun ++ (b ∷ [])))
      where
        go : (c : Bool) → ((y : X) → to_end answer (given answer (kept y []) log) ≡ answers_from answer y (lines_of [] log))
            → to_end answer (given answer (kept x (begun ++ (b ∷ []))) log) ≡ answers_from answer x (lines_of (begun ++ (b ∷ [])) log)
            → to_end answer (cond c (and_then (ended answer (kept x begun)).text (given answer (ended answer (kept x begun)).after log)) (given answer (grown (kept x begun) (b ∷ [])) log))
            ≡ answers_from answer x (cond c (begun ∷ lines_of [] log) (lines_of (begun ++ (b ∷ [])) log))
        go true line more =
            let t : Reply X = answer x begun in
            ap (λ (t : Reply X). to_end answer (and_then t.line (given answer (kept t.after []) log))) (cut x begun)
            ∙ append_assoc t.line (given answer (kept t.after []) log).text (at_end answer (given answer (kept t.after []) log).after).text
            ∙ ap (λ (s : List ℕ). t.line ++ s) (line t.after)
        go false line more =
            ap (λ (s : List ℕ). to_end answer (given answer (reading x s) log)) (take_again 33 begun (b ∷ [])) ∙ more

    pub one_piece : (x : X) (log : List ℕ) → to_end answer (given answer (reading x []) log) ≡ answers_from answer x (lines_of [] log)
    one_piece x log = all_answers log x []

    -- and in any pieces
    pub in_pieces : (x : X) (pieces : List (List ℕ)) → to_end answer (given_all answer (reading x []) pieces) ≡ answers_from answer x (lines_of [] (joined pieces))
    in_pieces x pieces = ap (to_end answer) (given_joined (reading x []) pieces) ∙ one_piece x (joined pieces)
