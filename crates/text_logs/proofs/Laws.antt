-- A piece is its first line and the rest; whatever answers a line. Assumes nothing.
use mathlib.Core.Path.{◌≡◌, refl, ap, sym, ◌∙◌}
use mathlib.Core.Bool.{Bool, true, false, cond}
use mathlib.Core.List.{List, [], ◌∷◌, ◌++◌, append_assoc, append-nil}
use Prim.Native.Nat.{ℕ, suc, min, ◌+◌, ◌<◌, ◌≤◌}
use native.Mathlib.Omega.{arith}
use borrow.Author.Tests.{eq-eqb, ne_eqb, ltb-true, ltb-false}
use lib.Dec.{eqb, ltb}
use lib.ListN.{length, take, drop, length-take}
use lib.Seq.{drop-length, take_all, length-take-le, take-append-add}
use Rattle.text_pieces.specs.Pieces.{newline_at, taken_of}
use Rattle.text_pieces.proofs.Laws.{take_again}
use Rattle.text_logs.specs.Lines.{Reply, Says}
use Rattle.text_logs.specs.Pieces.{Reading, reading, Given, nothing, grown, ended, and_then, given, first_given, at_end}

module _ {X : Type 0} (answer : X → List ℕ → Reply X) where
  grown_twice : (r : Reading X) (s t : List ℕ) → grown (grown r s) t ≡ grown r (s ++ t)
  grown_twice r s t =
      ap (λ (x : List ℕ). reading r.session x) (take_again 33 (r.begun ++ s) t ∙ ap (take 33) (append_assoc r.begun s t))

  grown_small : (r : Reading X) (s : List ℕ) → length (grown r s).begun ≤ 33
  grown_small r s = omega (arith, length-take 33 (r.begun ++ s))

  pub grown_nothing : (r : Reading X) → length r.begun ≤ 33 → grown r [] ≡ r
  grown_nothing r h = ap (λ (x : List ℕ). reading r.session x) (ap (take 33) (append-nil r.begun) ∙ take_all 33 r.begun h)

  -- a piece with no newline
  given_none : (r : Reading X) (piece : List ℕ) → length r.begun ≤ 33 → length piece ≤ newline_at piece → given answer r piece ≡ nothing (grown r piece)
  unfolding given newline_at
  given_none r [] small h = ap (λ (x : Reading X). nothing x) (sym (grown_nothing r small))
  given_none r (b ∷ piece) small h = go (eqb b 0x0a) h (given_none (grown r (b ∷ [])) piece (grown_small r (b ∷ [])))
    where
      go : (t : Bool) → suc (length piece) ≤ cond t 0 (suc (newline_at piece))
          → (length piece ≤ newline_at piece → given answer (grown r (b ∷ [])) piece ≡ nothing (grown (grown r (b ∷ [])) piece))
          → cond t (and_then (ended answer r).text (given answer (ended answer r).after piece)) (given answer (grown r (b ∷ [])) piece) ≡ nothing (grown r (b ∷ piece))
      go true l later = absurd (omega arith)
      go false l later = later (omega arith) ∙ ap (λ (x : Reading X). nothing x) (grown_twice r (b ∷ []) piece)

  -- a line is answered, and the rest read
  abbrev line_then : Reading X → List ℕ → Given X
  line_then r rest = and_then (ended answer r).text (given answer (ended answer r).after rest)

  -- a piece with a newline
  given_line : (r : Reading X) (piece : List ℕ) → length r.begun ≤ 33 → newline_at piece < length piece
      → given answer r piece ≡ line_then (grown r (take (newline_at piece) piece)) (drop (newline_at piece + 1) piece)
  unfolding given newline_at
  given_line r [] small h = absurd (omega arith)
  given_line r (b ∷ piece) small h = go (eqb b 0x0a) h (given_line (grown r (b ∷ [])) piece (grown_small r (b ∷ [])))
    where
      go : (t : Bool) → cond t 0 (suc (newline_at piece)) < suc (length piece)
          → (newline_at piece < length piece → given answer (grown r (b ∷ [])) piece ≡ line_then (grown (grown r (b ∷ [])) (take (newline_at piece) piece)) (drop (newline_at piece + 1) piece))
          → cond t (line_then r piece) (given answer (grown r (b ∷ [])) piece)
          ≡ line_then (grown r (take (cond t 0 (suc (newline_at piece))) (b ∷ piece))) (drop (cond t 0 (suc (newline_at piece)) + 1) (b ∷ piece))
      go true l later = ap (λ (x : Reading X). line_then x piece) (sym (grown_nothing r small))
      go false l later =
          let e : suc (newline_at piece) + 1 ≡ suc (newline_at piece + 1) = omega arith in
          later (omega arith)
          ∙ ap (λ (x : Reading X). line_then x (drop (newline_at piece + 1) piece)) (grown_twice r (b ∷ []) (take (newline_at piece) piece))
          ∙ ap (λ (k : ℕ). line_then (grown r (b ∷ take (newline_at piece) piece)) (drop k (b ∷ piece))) (sym e)

  -- the first line of a piece, or all of it, and then the rest
  pub given_first : (r : Reading X) (piece : List ℕ) → length r.begun ≤ 33
      → given answer r piece ≡ and_then (first_given answer r piece).text (given answer (first_given answer r piece).after (drop (taken_of piece) piece))
  unfolding first_given taken_of given
  given_first r piece small = go (ltb (newline_at piece) (length piece)) refl
    where
      first : Bool → Given X
      first t = cond t (ended answer (grown r (take (newline_at piece) piece))) (nothing (grown r piece))

      go : (t : Bool) → ltb (newline_at piece) (length piece) ≡ t
          → given answer r piece ≡ and_then (first t).text (given answer (first t).after (drop (cond t (newline_at piece + 1) (length piece)) piece))
      go true e = given_line r piece small (ltb-true (newline_at piece) (length piece) e)
      go false e =
          given_none r piece small (ltb-false (newline_at piece) (length piece) e)
          ∙ ap (λ (x : List ℕ). given answer (grown r piece) x) (sym (drop-length piece))

  -- the end of the log: nothing where no line has begun, else its answer
  pub end_none : (r : Reading X) → length r.begun ≡ 0 → at_end answer r ≡ nothing r
  unfolding at_end
  end_none r z = simp (eq-eqb (length r.begun) 0 z)

  pub end_line : (r : Reading X) → (length r.begun ≡ 0 → ⊥) → at_end answer r ≡ ended answer r
  unfolding at_end
  end_line r some = simp (ne_eqb (length r.begun) 0 some)

-- where no line over 32 bytes says anything, the first 33 bytes of any line say as much as all of it
pub cut_long : {A : Type 0} (says : List ℕ → A) (none : A) → ((s : List ℕ) → 32 < length s → none ≡ says s) → (s : List ℕ) → says (take 33 s) ≡ says s
cut_long says none long s = go (ltb 32 (length s)) refl
  where
    go : (t : Bool) → ltb 32 (length s) ≡ t → says (take 33 s) ≡ says s
    go true e =
        let l : 32 < length s = ltb-true 32 (length s) e in
        sym (long (take 33 s) (omega (arith, length-take-le 33 s (omega arith)))) ∙ long s l
    go false e = let l : length s ≤ 32 = ltb-false 32 (length s) e in ap says (take_all 33 s (omega arith))

-- as many bytes as there is room for, of a part, are those that grow a line
pub grown_by : (begun part : List ℕ) (room i : ℕ) → room + length begun ≡ 33 → i ≡ min room (length part) → begun ++ take i part ≡ take 33 (begun ++ part)
grown_by begun part room i full e = ap (λ (s : List ℕ). begun ++ s) (go (ltb room (length part)) refl) ∙ sym (ap (λ (n : ℕ). take n (begun ++ part)) all ∙ take-append-add begun part room)
  where
    all : 33 ≡ length begun + room
    all = omega arith

    go : (t : Bool) → ltb room (length part) ≡ t → take i part ≡ take room part
    go true h = let l : room < length part = ltb-true room (length part) h in let k : i ≡ room = omega arith in ap (λ (n : ℕ). take n part) k
    go false h =
        let l : length part ≤ room = ltb-false room (length part) h in
        take_all i part (omega arith) ∙ sym (take_all room part l)

-- what is said may be said in another way
pub says_as : {X : Type 0} {t u : Reply X} {out : List ℕ} {at end : ℕ} {left : List ℕ} {after : X} → t ≡ u → Says t out at end left after → Says u out at end left after
says_as e s = rw e at s
