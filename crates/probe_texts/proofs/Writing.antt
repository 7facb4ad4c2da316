-- Bytes written two digits at a time, and fields one after the other, are the text of them all. Assumes nothing.
use mathlib.Core.Path.{◌≡◌, refl, ap, sym, ◌∙◌}
use mathlib.Core.List.{List, [], ◌∷◌, ◌++◌}
use Prim.Native.Nat.{ℕ, ◌+◌, ◌*◌, ◌<◌, ◌≤◌}
use native.Mathlib.Numerals.{add-one}
use native.Mathlib.Omega.{arith}
use mathlib.Core.Bool.{Bool, true, beq}
use borrow.Author.Tests.{leb-true}
use lib.Dec.{leb}
use lib.ListN.{length, get_or, take, drop, drop_of_length-le}
use lib.Seq.{drop-cons}
use Rattle.text.specs.Text.{hex_text, Wrote}
use Rattle.text.proofs.Laws.{wrote_as, wrote_both, wrote_nothing, wrote_length}
use Rattle.bits.proofs.Decide.{each, decide_below, beq→eq}
use Rattle.probe_fields.specs.Fields.{widths, sum}
use Rattle.probe_texts.specs.Texts.{bytes_text, fields_text}

bytes_cons : (bytes : List ℕ) (i : ℕ) → i < length bytes → bytes_text (drop i bytes) ≡ hex_text 2 (get_or bytes i 0) ++ bytes_text (drop (i + 1) bytes)
unfolding bytes_text
bytes_cons bytes i h = rw (add-one i, drop-cons bytes i 0)

bytes_none : (bytes : List ℕ) (i : ℕ) → length bytes ≤ i → bytes_text (drop i bytes) ≡ []
unfolding bytes_text
bytes_none bytes i h = rw (drop_of_length-le bytes {i = i} h)

-- where the loop stands: to write the bytes that are left is to write them all
pub record Spelling (out₀ : List ℕ) (at : ℕ) (bytes out : List ℕ) (end i : ℕ) : Type 0 where
  pub within : i ≤ length bytes
  pub long : length out ≡ length out₀
  pub reached : end ≡ at + 2 * i
  pub writes : {last : ℕ} {left : List ℕ} → Wrote out end (bytes_text (drop i bytes)) last left → Wrote out₀ at (bytes_text bytes) last left

module _ {out₀ : List ℕ} {at : ℕ} {bytes : List ℕ} where
  pub spelling_start : Spelling out₀ at bytes out₀ at 0
  spelling_start = record { within = omega arith; long = refl; reached = omega arith; writes = λ w. w }

  module _ {out : List ℕ} {end i : ℕ} (here : Spelling out₀ at bytes out end i) where
    pub spelling_on : i < length bytes → {digits out' : List ℕ} {end' : ℕ} → digits ≡ hex_text 2 (get_or bytes i 0) → Wrote out end digits end' out' → Spelling out₀ at bytes out' end' (i + 1)
    unfolding hex_text
    spelling_on h {digits} e w =
        record {
          within = omega arith;
          long = wrote_length w ∙ here.long;
          reached = omega (arith, w.ends, ap length e, here.reached);
          writes = λ v. here.writes (wrote_as (sym (bytes_cons bytes i h)) (wrote_both (wrote_as e w) v));
        }

    pub spelling_done : length bytes ≤ i → Wrote out₀ at (bytes_text bytes) end out × (end ≡ at + 2 * length bytes)
    spelling_done h = (here.writes (wrote_as (sym (bytes_none bytes i h)) (wrote_nothing out end)), omega (arith, here.within, here.reached))

-- ---- fields, each with the tab before it
abbrev field : (width n : ℕ) → List ℕ
field width n = 0x09 ∷ hex_text width n

-- how many bytes the first fields have
abbrev used : ℕ → ℕ
used i = sum (take i (drop 1 widths)) + i

pub used_more : (i : ℕ) → i < 12 → used (i + 1) ≡ used i + get_or (drop 1 widths) i 0 + 1
used_more = each 12 _ _ tt

fits_yet : (i : ℕ) → i < 12 → leb (used i + get_or (drop 1 widths) i 0 + 1) 112 ≡ true
fits_yet = decide_below Bool beq beq→eq 12 _ _ tt

module _ (numbers : List ℕ) (all : length numbers ≡ 12) where
  fields_cons : (i : ℕ) → i < 12
      → fields_text (drop i (drop 1 widths)) (drop i numbers) ≡ field (get_or (drop 1 widths) i 0) (get_or numbers i 0) ++ fields_text (drop (i + 1) (drop 1 widths)) (drop (i + 1) numbers)
  unfolding fields_text
  fields_cons i h =
      let l : i < length numbers = omega (arith, all) in
      let w : i < length (drop 1 widths) = omega arith in
      rw (add-one i, drop-cons (drop 1 widths) i 0, drop-cons numbers i 0)

  fields_none : fields_text (drop 12 (drop 1 widths)) (drop 12 numbers) ≡ []
  unfolding fields_text
  fields_none = rw (drop_of_length-le numbers {i = 12} (omega (arith, all)))

-- where the loop over the fields stands: to write the fields that are left is to write them all
pub record Filling (out₀ : List ℕ) (at : ℕ) (numbers out : List ℕ) (end i : ℕ) : Type 0 where
  pub long : length out ≡ length out₀
  pub reached : end ≡ at + used i
  pub writes : {last : ℕ} {left : List ℕ} → Wrote out end (fields_text (drop i (drop 1 widths)) (drop i numbers)) last left → Wrote out₀ at (fields_text (drop 1 widths) numbers) last left

module _ {out₀ : List ℕ} {at : ℕ} {numbers : List ℕ} where
  pub filling_start : Filling out₀ at numbers out₀ at 0
  filling_start = record { long = refl; reached = omega arith; writes = λ w. w }

  module _ {out : List ℕ} {end i : ℕ} (here : Filling out₀ at numbers out end i) where
    pub filling_room : at + 112 ≤ length out₀ → i < 12 → end + get_or (drop 1 widths) i 0 + 1 ≤ length out
    filling_room room h = omega (arith, here.long, here.reached, leb-true _ _ (fits_yet i h))

    module _ (all : length numbers ≡ 12) where
      pub filling_on : i < 12 → {out' : List ℕ} {end' : ℕ} → Wrote out end (field (get_or (drop 1 widths) i 0) (get_or numbers i 0)) end' out' → end' ≡ end + get_or (drop 1 widths) i 0 + 1
          → Filling out₀ at numbers out' end' (i + 1)
      filling_on h w e =
          record {
            long = wrote_length w ∙ here.long;
            reached = omega (arith, e, here.reached, used_more i h);
            writes = λ v. here.writes (wrote_as (sym (fields_cons numbers all i h)) (wrote_both w v));
          }

      pub filling_done : i ≡ 12 → Wrote out₀ at (fields_text (drop 1 widths) numbers) end out × (end ≡ at + 112)
      filling_done e = (here.writes (rw e (wrote_as (sym (fields_none numbers all)) (wrote_nothing out end))), rw e at here.reached)
