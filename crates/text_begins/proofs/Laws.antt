-- Eight bytes that are one number are the same exactly if the bytes are. Assumes nothing.
use mathlib.Core.Path.{◌≡◌, refl, ap, sym, ◌∙◌}
use mathlib.Core.Bool.{Bool, true, false}
use mathlib.Core.List.{List, [], ◌∷◌}
use Prim.Native.Nat.{ℕ, zero, suc, ◌+◌, ◌-◌, ◌*◌, ◌<◌, ◌≤◌}
use native.Mathlib.Omega.{arith}
use borrow.Author.Tests.{eqb-true, eqb-false}
use lib.Dec.{eqb}
use lib.ListN.{length, get_or, drop}
use lib.Seq.{drop-length, drop-drop}
use Rattle.bits.proofs.Decide.{clash, and_left, and_right}
use Rattle.text.specs.Text.{starts_with}
use Rattle.text.proofs.Laws.{starts_same}
use Rattle.text_begins.specs.Eights.{four_at, eight_at}

-- two bytes in one number, two such numbers, and two of those
two_same : (a b x y : ℕ) → a < 256 → b < 256 → a + 256 * x ≡ b + 256 * y → (a ≡ b) × (x ≡ y)
two_same a b x y h l e = (omega (arith, e), omega (arith, e))

four_same : (a b x y : ℕ) → a < 65536 → b < 65536 → a + 65536 * x ≡ b + 65536 * y → (a ≡ b) × (x ≡ y)
four_same a b x y h l e = (omega (arith, e), omega (arith, e))

eight_same : (a b x y : ℕ) → a < 0x100000000 → b < 0x100000000 → a + 0x100000000 * x ≡ b + 0x100000000 * y → (a ≡ b) × (x ≡ y)
eight_same a b x y h l e = (omega (arith, e), omega (arith, e))

module _ (word text : List ℕ) (small_word : (j : ℕ) → get_or word j 0 < 256) (small_text : (j : ℕ) → get_or text j 0 < 256) where
  -- four bytes that are the same, one after the other
  four_on : (i k : ℕ) → k ≡ i + 4 → k ≤ length word → k ≤ length text → four_at text i ≡ four_at word i → starts_with (drop i word) (drop i text) ≡ starts_with (drop k word) (drop k text)
  four_on i k is in_word in_text e =
      let halves = four_same (get_or text i 0 + 256 * get_or text (i + 1) 0) (get_or word i 0 + 256 * get_or word (i + 1) 0) (get_or text (i + 2) 0 + 256 * get_or text (i + 3) 0) (get_or word (i + 2) 0 + 256 * get_or word (i + 3) 0)
      (omega (arith, small_text i, small_text (i + 1))) (omega (arith, small_word i, small_word (i + 1))) e in
      let low = two_same (get_or text i 0) (get_or word i 0) (get_or text (i + 1) 0) (get_or word (i + 1) 0) (small_text i) (small_word i) halves.0 in
      let high = two_same (get_or text (i + 2) 0) (get_or word (i + 2) 0) (get_or text (i + 3) 0) (get_or word (i + 3) 0) (small_text (i + 2)) (small_word (i + 2)) halves.1 in
      on i (i + 1) refl (omega arith) (omega arith) low.0 ∙ on (i + 1) (i + 2) (omega arith) (omega arith) (omega arith) low.1
      ∙ on (i + 2) (i + 3) (omega arith) (omega arith) (omega arith) high.0 ∙ on (i + 3) k (omega arith) (omega arith) (omega arith) high.1
    where
      on : (j k : ℕ) → k ≡ j + 1 → j < length word → j < length text → get_or text j 0 ≡ get_or word j 0 → starts_with (drop j word) (drop j text) ≡ starts_with (drop k word) (drop k text)
      on j k e a b h = starts_same word text j a b h ∙ ap (λ (n : ℕ). starts_with (drop n word) (drop n text)) (sym e)

  four_small : (s : List ℕ) → ((j : ℕ) → get_or s j 0 < 256) → (i : ℕ) → four_at s i < 0x100000000
  four_small s small i = omega (arith, small i, small (i + 1), small (i + 2), small (i + 3))

  pub eight_on : (i : ℕ) → i + 8 ≤ length word → i + 8 ≤ length text → eight_at text i ≡ eight_at word i → starts_with (drop i word) (drop i text) ≡ starts_with (drop (i + 8) word) (drop (i + 8) text)
  eight_on i in_word in_text e =
      let halves = eight_same (four_at text i) (four_at word i) (four_at text (i + 4)) (four_at word (i + 4)) (four_small text small_text i) (four_small word small_word i) e in
      four_on i (i + 4) refl (omega arith) (omega arith) halves.0 ∙ four_on (i + 4) (i + 8) (omega arith) in_word in_text halves.1

-- a text that begins with the word has its bytes, and what is left of it begins with what is left of the word
bytes_same : (word text : List ℕ) (j : ℕ) → j < length word → starts_with word text ≡ true → get_or text j 0 ≡ get_or word j 0
unfolding starts_with
bytes_same [] text j h e = absurd (omega arith)
bytes_same (w ∷ word) [] j h e = clash false e refl
bytes_same (w ∷ word) (b ∷ text) zero h e = eqb-true b w (and_left (eqb b w) (starts_with word text) e)
bytes_same (w ∷ word) (b ∷ text) (suc j) h e = bytes_same word text j (omega arith) (and_right (eqb b w) (starts_with word text) e)

starts_drop : (k : ℕ) (word text : List ℕ) → starts_with word text ≡ true → starts_with (drop k word) (drop k text) ≡ true
unfolding starts_with
starts_drop zero word text e = e
starts_drop (suc k) [] text e = refl
starts_drop (suc k) (w ∷ word) [] e = clash false e refl
starts_drop (suc k) (w ∷ word) (b ∷ text) e = starts_drop k word text (and_right (eqb b w) (starts_with word text) e)

module _ (word text : List ℕ) where
  four_there : (i : ℕ) → i + 4 ≤ length word → starts_with word text ≡ true → four_at text i ≡ four_at word i
  four_there i h e =
      rw (bytes_same word text i (omega arith) e, bytes_same word text (i + 1) (omega arith) e, bytes_same word text (i + 2) (omega arith) e, bytes_same word text (i + 3) (omega arith) e) refl

  -- eight bytes that differ
  pub eight_differ : (i : ℕ) → i + 8 ≤ length word → (eight_at text i ≡ eight_at word i → ⊥) → starts_with word text ≡ false
  eight_differ i h differ = go (starts_with word text) refl
    where
      go : (t : Bool) → starts_with word text ≡ t → starts_with word text ≡ false
      go true e = absurd (differ (rw (four_there i (omega arith) e, four_there (i + 4) (omega arith) e) refl))
      go false e = e

  -- the last eight decide what is left, and it may be less than they are
  module _ (small_word : (j : ℕ) → get_or word j 0 < 256) (small_text : (j : ℕ) → get_or text j 0 < 256) (i : ℕ) (long : 8 ≤ length word) (fits : length word ≤ length text) (late : length word - 8 ≤ i)
      (left : starts_with word text ≡ starts_with (drop i word) (drop i text)) where
    last_same : eight_at text (length word - 8) ≡ eight_at word (length word - 8) → starts_with word text ≡ true
    unfolding starts_with
    last_same e =
        let at : ℕ = length word - 8 in
        let ends : at + 8 ≡ length word = omega arith in
        let here : starts_with (drop at word) (drop at text) ≡ true =
        eight_on word text small_word small_text at (omega arith) (omega arith) e ∙ ap (λ (n : ℕ). starts_with (drop n word) (drop (at + 8) text)) ends
        ∙ ap (λ (x : List ℕ). starts_with x (drop (at + 8) text)) (drop-length word) in
        let on : at + (i - at) ≡ i = omega arith in
        left ∙ sym (ap (λ (n : ℕ). starts_with (drop n word) (drop n text)) on)
        ∙ ap (λ (x : List ℕ). starts_with x (drop (at + (i - at)) text)) (sym (drop-drop (i - at) at word))
        ∙ ap (starts_with (drop (i - at) (drop at word))) (sym (drop-drop (i - at) at text))
        ∙ starts_drop (i - at) (drop at word) (drop at text) here

    pub last_told : (x y : ℕ) → x ≡ eight_at text (length word - 8) → y ≡ eight_at word (length word - 8) → eqb x y ≡ starts_with word text
    last_told x y at-text at_word = go (eqb x y) refl
      where
        go : (t : Bool) → eqb x y ≡ t → t ≡ starts_with word text
        go true e = sym (last_same (sym at-text ∙ eqb-true x y e ∙ at_word))
        go false e = sym (eight_differ (length word - 8) (omega arith) (λ q. eqb-false x y e (at-text ∙ q ∙ sym at_word)))
