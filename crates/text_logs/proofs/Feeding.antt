-- Code that answers the first line of a piece gives the answers of one line after the other, and of the last; whatever answers a line. Assumes nothing.
use mathlib.Core.Path.{◌≡◌, refl, ap, sym, ◌∙◌}
use mathlib.Core.Bool.{Bool, true, false, cond}
use mathlib.Core.List.{List, [], ◌∷◌, ◌++◌}
use Prim.Native.Nat.{ℕ, ◌+◌, ◌-◌, ◌*◌, ◌<◌, ◌≤◌}
use native.Mathlib.Omega.{arith}
use borrow.Author.Tests.{lt-ltb, le-ltb, ltb-true}
use lib.Dec.{ltb}
use lib.ListN.{length, take, drop, length-take, length-drop, length-append}
use Rattle.text.specs.Text.{Wrote}
use Rattle.text.proofs.Laws.{rest as tail, wrote_as, wrote_both, wrote_nothing, wrote_length}
use Rattle.text_pieces.specs.Pieces.{newline_at, taken_of}
use Rattle.text_logs.specs.Lines.{Reply}
use Rattle.text_logs.specs.Pieces.{Reading, Given, nothing, grown, ended, and_then, given, first_given, at_end, Gives}
use Rattle.text_logs.proofs.Laws.{given_first, grown_nothing, end_none, end_line}

pub taken_some : (piece : List ℕ) → 0 < length piece → (0 < taken_of piece) × (taken_of piece ≤ length piece)
unfolding taken_of
taken_some piece h = go (ltb (newline_at piece) (length piece)) refl
  where
    go : (t : Bool) → ltb (newline_at piece) (length piece) ≡ t
        → (0 < cond t (newline_at piece + 1) (length piece)) × (cond t (newline_at piece + 1) (length piece) ≤ length piece)
    go true e = (omega arith, omega (arith, ltb-true (newline_at piece) (length piece) e))
    go false e = (h, omega arith)

empty : (s : List ℕ) → length s ≤ 0 → s ≡ []
empty [] h = refl
empty (b ∷ s) h = absurd (omega arith)

pub taken_less : (rest : List ℕ) (taken : ℕ) → 0 < length rest → taken ≡ taken_of rest → length (take (length rest - taken) (drop taken rest)) < length rest
taken_less rest taken some e = omega (arith, ap length (tail taken rest), length-drop taken rest, taken_some rest some)

module _ {X : Type 0} (answer : X → List ℕ → Reply X) where
  -- ---- the first line of a piece, or all of it
  module _ (r : Reading X) (piece : List ℕ) (n : ℕ) (found : n ≡ newline_at piece) where
    pub none_gives : length piece ≤ n → (out : List ℕ) (at : ℕ) {after : Reading X} → after ≡ grown r piece → Gives (first_given answer r piece) out at at out after
    unfolding first_given
    none_gives all out at {after} begun =
        rw (le-ltb (newline_at piece) (length piece) (omega arith))
        (record { wrote = wrote_nothing out at; goes_on = begun; small = omega (arith, ap (λ (x : Reading X). length x.begun) begun, length-take 33 (r.begun ++ piece)) })

    pub line_gives : n < length piece → {out left : List ℕ} {at end : ℕ} {after : Reading X} → Gives (ended answer (grown r (take n piece))) out at end left after
        → Gives (first_given answer r piece) out at end left after
    unfolding first_given
    line_gives inside g = rw (lt-ltb (newline_at piece) (length piece) (omega arith)) (rw found at g)

  -- ---- the end of the log
  module _ (r : Reading X) (small : length r.begun ≤ 33) where
    pub none_ends : length r.begun ≡ 0 → (out : List ℕ) (at : ℕ) → Gives (at_end answer r) out at at out r
    none_ends z out at = rw (end_none answer r z) (record { wrote = wrote_nothing out at; goes_on = refl; small = small })

    pub line_ends : (length r.begun ≡ 0 → ⊥) → {out left : List ℕ} {at end : ℕ} {after : Reading X} → Gives (ended answer (grown r [])) out at end left after → Gives (at_end answer r) out at end left after
    line_ends some g = rw (end_line answer r some) (rw (grown_nothing answer r small) at g)

  -- ---- the loop over a piece's lines
  -- where the loop stands: what is left by writing the answers of the rest is what is left by writing those of the piece
  pub record Onward (most : ℕ) (r₀ : Reading X) (piece out₀ : List ℕ) (at : ℕ) (out rest : List ℕ) (r : Reading X) (end : ℕ) : Type 0 where
    pub small : length r.begun ≤ 33
    pub room : end + 10 * (length r.begun + length rest) + most ≤ length out
    pub writes : {last : ℕ} {left : List ℕ} → Wrote out end (given answer r rest).text last left → Wrote out₀ at (given answer r₀ piece).text last left
    pub goes_to : (given answer r rest).after ≡ (given answer r₀ piece).after

  -- no answer is longer than ten bytes for each byte of its line with the newline
  module _ (short : (x : X) (line : List ℕ) → length (answer x line).line ≤ 10 * (length line + 1)) (most : ℕ) where
    -- the answers of a first line take ten bytes for each byte that it takes, of the piece or of those that have begun, at most
    first_room : (r : Reading X) (piece : List ℕ)
        → length (first_given answer r piece).text + 10 * length (first_given answer r piece).after.begun ≤ 10 * (length r.begun + taken_of piece)
    unfolding first_given taken_of
    first_room r piece = go (ltb (newline_at piece) (length piece))
      where
        part : List ℕ
        part = take (newline_at piece) piece

        line : Reading X
        line = grown r part

        first : Bool → Given X
        first t = cond t (ended answer line) (nothing (grown r piece))

        go : (t : Bool) → length (first t).text + 10 * length (first t).after.begun ≤ 10 * (length r.begun + cond t (newline_at piece + 1) (length piece))
        go true =
            omega (arith, short line.session line.begun, length-take 33 (r.begun ++ part), length-append r.begun part, length-take (newline_at piece) piece)
        go false = omega (arith, length-take 33 (r.begun ++ piece), length-append r.begun piece)

    module _ {piece out₀ : List ℕ} {at : ℕ} where
      pub onward_start : (r : Reading X) → length r.begun ≤ 33 → at + 10 * (length r.begun + length piece) + most ≤ length out₀ → Onward most r piece out₀ at out₀ piece r at
      onward_start r h room = record { small = h; room = room; writes = λ w. w; goes_to = refl }

      module _ {r₀ r : Reading X} {out rest : List ℕ} {end : ℕ} (here : Onward most r₀ piece out₀ at out rest r end) where
        pub onward_line : 0 < length rest → {out' : List ℕ} {r' : Reading X} {end' taken : ℕ} → Gives (first_given answer r rest) out end end' out' r'
            → taken ≡ taken_of rest → Onward most r₀ piece out₀ at out' (take (length rest - taken) (drop taken rest)) r' end'
        onward_line some {out'} {r'} {end'} {taken} g k =
            let first : Given X = first_given answer r rest in
            let e : take (length rest - taken) (drop taken rest) ≡ drop (taken_of rest) rest = tail taken rest ∙ ap (λ (n : ℕ). drop n rest) k in
            let all : given answer r rest ≡ and_then first.text (given answer r' (take (length rest - taken) (drop taken rest))) =
            given_first answer r rest here.small ∙ ap (λ (y : Reading X). and_then first.text (given answer y (drop (taken_of rest) rest))) (sym g.goes_on)
            ∙ ap (λ (y : List ℕ). and_then first.text (given answer r' y)) (sym e) in
            record {
              small = g.small;
              room = omega (arith, ap length e, length-drop (taken_of rest) rest, taken_some rest some, first_room r rest, ap (λ (y : Reading X). length y.begun) g.goes_on, g.wrote.ends, wrote_length g.wrote, here.room);
              writes = λ w. here.writes (wrote_as (sym (ap (λ (y : Given X). y.text) all)) (wrote_both g.wrote w));
              goes_to = sym (ap (λ (y : Given X). y.after) all) ∙ here.goes_to;
            }

        pub onward_done : length rest ≤ 0 → Gives (given answer r₀ piece) out₀ at end out r × (end ≤ length out)
        unfolding given
        onward_done none =
            let e : rest ≡ [] = empty rest none in (
              record {
                wrote = here.writes (wrote_as (sym (ap (λ (y : List ℕ). (given answer r y).text) e)) (wrote_nothing out end));
                goes_on = sym (ap (λ (y : List ℕ). (given answer r y).after) e) ∙ here.goes_to;
                small = here.small;
              },
              omega (arith, here.room),
            )
