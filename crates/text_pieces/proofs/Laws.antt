-- Newlines, and the beginning of a text. Assumes nothing.
use mathlib.Core.Path.{◌≡◌, refl, ap, sym, ◌∙◌}
use mathlib.Core.Bool.{Bool, true, false}
use mathlib.Core.List.{List, [], ◌∷◌, ◌++◌}
use Prim.Native.Nat.{ℕ, zero, suc, ◌+◌, ◌-◌, ◌<◌, ◌≤◌, min}
use native.Mathlib.Omega.{arith}
use borrow.Author.Tests.{eq-eqb, ne_eqb, lt-ltb, le-ltb, ltb-true, ltb-false}
use lib.Dec.{ltb}
use lib.ListN.{length, take, drop, get_or, length-append, length-drop, take-append-drop}
use lib.Seq.{drop-cons, take_all, take_at, drop_at, take-append-add, length-take-le, sets-eq}
use Rattle.std.specs.Prelude.{Option, Some, None, position, nat_lt, not, cond, ◌==◌}
use Rattle.std.specs.List.{position_or_len}
use Rattle.std.proofs.lemmas.List.Recursion.{is_position_or_len}
use Rattle.std.proofs.lemmas.List.Sums.{prefix_len-le-length}
use Rattle.text.specs.Text.{Wrote}
use Rattle.text.proofs.Laws.{rest, wrote_length}
use Rattle.text_pieces.specs.Pieces.{newline_at, taken_of, First, Kept}

-- a newline that is sought from i on: it is there, or is sought from the next place on
module _ (s : List ℕ) (i : ℕ) (inside : i < length s) where
  stands : get_or s i 0 ≡ 0x0a → newline_at (drop i s) ≡ 0
  unfolding newline_at
  stands h = rw (drop-cons s i 0, eq-eqb (get_or s i 0) 0x0a h)

  passed : (get_or s i 0 ≡ 0x0a → ⊥) → newline_at (drop i s) ≡ suc (newline_at (drop (suc i) s))
  unfolding newline_at
  passed h = rw (drop-cons s i 0, ne_eqb (get_or s i 0) 0x0a h)

-- the first four places of what is left of a piece
module _ (piece left : List ℕ) (long : 4 ≤ length left) (within : length left ≤ length piece) (sought : newline_at piece ≡ length piece - length left + newline_at left) where
  pub newline_first : get_or left 0 0 ≡ 0x0a → length piece - length left ≡ newline_at piece
  newline_first h = omega (arith, sought, stands left 0 (omega arith) h)

  module _ (first : get_or left 0 0 ≡ 0x0a → ⊥) where
    one : newline_at left ≡ suc (newline_at (drop 1 left))
    one = passed left 0 (omega arith) first

    pub newline_second : get_or left 1 0 ≡ 0x0a → length piece - length left + 1 ≡ newline_at piece
    newline_second h = omega (arith, sought, one, stands left 1 (omega arith) h)

    module _ (second : get_or left 1 0 ≡ 0x0a → ⊥) where
      two : newline_at (drop 1 left) ≡ suc (newline_at (drop 2 left))
      two = passed left 1 (omega arith) second

      pub newline_third : get_or left 2 0 ≡ 0x0a → length piece - length left + 2 ≡ newline_at piece
      newline_third h = omega (arith, sought, one, two, stands left 2 (omega arith) h)

      module _ (third : get_or left 2 0 ≡ 0x0a → ⊥) where
        three : newline_at (drop 2 left) ≡ suc (newline_at (drop 3 left))
        three = passed left 2 (omega arith) third

        pub newline_fourth : get_or left 3 0 ≡ 0x0a → length piece - length left + 3 ≡ newline_at piece
        newline_fourth h = omega (arith, sought, one, two, three, stands left 3 (omega arith) h)

        pub newline_later : (get_or left 3 0 ≡ 0x0a → ⊥) → let more = take (length left - 4) (drop 4 left) in (length more ≤ length piece) × (newline_at piece ≡ length piece - length more + newline_at more)
        newline_later fourth =
            rw (rest 4 left) (omega (arith, length-drop 4 left), omega (arith, sought, one, two, three, passed left 3 (omega arith) fourth, length-drop 4 left))

-- the same place in the words of std
abbrev newlines : ℕ → Bool
newlines = λ b. b == 0x0a

newline_place : (s : List ℕ) → newline_at s ≡ position_or_len newlines s
unfolding newline_at
newline_place = is_position_or_len newline_at newlines refl (λ b s. ap (cond (b == 0x0a) 0) (omega arith))

module _ (piece left : List ℕ) (within : length left ≤ length piece) (sought : newline_at piece ≡ length piece - length left + newline_at left) where
  pub newline_found : {k : ℕ} → position newlines left ≡ Some k → (length piece - length left + k ≡ newline_at piece) × (length piece - length left + k ≤ length piece)
  newline_found {k} e = go (nat_lt (position_or_len newlines left) (length left)) refl e
    where
      go : (t : Bool) → nat_lt (position_or_len newlines left) (length left) ≡ t → cond t (Some (position_or_len newlines left)) None ≡ Some k
          → (length piece - length left + k ≡ newline_at piece) × (length piece - length left + k ≤ length piece)
      go true l q =
          let same : position_or_len newlines left ≡ k = cc in
          (omega (arith, sought, newline_place left, same), omega (arith, ltb-true _ _ l, same))
      go false l q = let none : ◌≡◌ {A = ℕ} 0 1 = cc in absurd (omega arith)

  pub newline_missed : position newlines left ≡ None → length piece ≡ newline_at piece
  newline_missed e = go (nat_lt (position_or_len newlines left) (length left)) refl e
    where
      go : (t : Bool) → nat_lt (position_or_len newlines left) (length left) ≡ t → ◌≡◌ {A = Option ℕ} (cond t (Some (position_or_len newlines left)) None) None → length piece ≡ newline_at piece
      go true l q = let some : ◌≡◌ {A = ℕ} 0 1 = cc in absurd (omega arith)
      go false l q = omega (arith, sought, newline_place left, ltb-false _ _ l, prefix_len-le-length (λ b. not (newlines b)) left)

-- a line that ends in the piece, and one that does not
module _ (piece : List ℕ) (n : ℕ) (stands : n ≡ newline_at piece) (within : n ≤ length piece) where
  pub first_ended : n < length piece → First piece n (n + 1)
  unfolding taken_of
  first_ended h = record {
    ends = stands;
    takes = rw (sym stands, lt-ltb n (length piece) h);
    inside = within;
    within = omega arith;
    some = λ l. omega arith;
    unended = λ l. omega arith;
    ended = λ l. h;
  }

  pub first_unended : length piece ≤ n → First piece n n
  unfolding taken_of
  first_unended h = record {
    ends = stands;
    takes = rw (sym stands, le-ltb n (length piece) h) (omega arith);
    inside = within;
    within = within;
    some = λ l. omega arith;
    unended = λ l. h;
    ended = λ l. omega arith;
  }

-- what follows a first line is shorter
pub rest_less : {piece : List ℕ} {len taken : ℕ} → First piece len taken → 0 < length piece → length (take (length piece - taken) (drop taken piece)) < length piece
rest_less {piece} {len} {taken} f h =
    let l : length (take (length piece - taken) (drop taken piece)) ≡ length piece - taken =
    length-take-le (length piece - taken) (drop taken piece) (omega (arith, length-drop taken piece)) in
    omega (arith, f.some h, f.within)

take_least : (n : ℕ) (s : List ℕ) → take (min n (length s)) s ≡ take n s
take_least n s = go (ltb n (length s)) refl
  where
    go : (t : Bool) → ltb n (length s) ≡ t → take (min n (length s)) s ≡ take n s
    go true e = let l : min n (length s) ≡ n = omega (arith, ltb-true n (length s) e) in ap (λ (k : ℕ). take k s) l
    go false e =
        let l : length s ≤ n = ltb-false n (length s) e in
        take_all (min n (length s)) s (omega arith) ∙ sym (take_all n s l)

-- as much of a part as there is room for
module _ (held part : List ℕ) (len n : ℕ) (fits : len ≤ length held) (least : n ≡ min (length held - len) (length part)) where
  part_length : length (take n part) ≡ n
  part_length = length-take-le n part (omega arith)

  held_length : length (take len held) ≡ len
  held_length = length-take-le len held fits

  pub part_kept : {end : ℕ} {left : List ℕ} → Wrote held len (take n part) end left → Kept held len part end left
  part_kept {end} {left} w =
      let e : length (take len held) + (length held - len) ≡ length held = omega (arith, held_length) in
      let front : List ℕ = take len held ++ take n part in
      let ends : length front ≡ end = length-append (take len held) (take n part) ∙ omega (arith, part_length, held_length, w.ends) in
      let laid : left ≡ front ++ drop (len + length (take n part)) held =
      w.holds ∙ sets-eq (take n part) held len (omega (arith, part_length)) in
      record {
        long = wrote_length w;
        small = omega (arith, part_length, w.ends);
        kept =
            ap (take end) laid ∙ take_at front (drop (len + length (take n part)) held) end ends
            ∙ ap (λ (x : List ℕ). take len held ++ x) (ap (λ (k : ℕ). take k part) least ∙ take_least (length held - len) part)
            ∙ sym (take-append-add (take len held) part (length held - len))
            ∙ ap (λ (k : ℕ). take k (take len held ++ part)) e;
        past = ap (drop end) laid ∙ drop_at front (drop (len + length (take n part)) held) end ends ∙ ap (λ (k : ℕ). drop k held) (sym w.ends);
      }

-- a beginning of a beginning, with more after it
pub take_again : (n : ℕ) (s t : List ℕ) → take n (take n s ++ t) ≡ take n (s ++ t)
take_again zero s t = refl
take_again (suc n) [] t = refl
take_again (suc n) (b ∷ s) t = ap (λ (x : List ℕ). b ∷ x) (take_again n s t)

-- what is kept, and the whole memory then, where its length is known
pub kept_most : {held part left : List ℕ} {len end : ℕ} (most : ℕ) → length held ≡ most → Kept held len part end left
    → (take end left ≡ take most (take len held ++ part)) × (end ≤ most)
    × (left ≡ take most (take len held ++ part) ++ drop (length (take most (take len held ++ part))) held)
kept_most {held} {part} {left} {len} {end} most all k =
    let front : take end left ≡ take most (take len held ++ part) = k.kept ∙ ap (λ (n : ℕ). take n (take len held ++ part)) all in
    let n : end ≡ length (take end left) = sym (length-take-le end left (omega (arith, k.small, k.long))) in (
      front,
      omega (arith, k.small),
      sym (take-append-drop end left) ∙ ap (λ (x : List ℕ). take end left ++ x) (k.past ∙ ap (λ (x : ℕ). drop x held) n)
          ∙ ap (λ (x : List ℕ). x ++ drop (length x) held) front,
    )
