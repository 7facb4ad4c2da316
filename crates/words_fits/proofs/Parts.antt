-- The limits of each part's words, and a row that is judged by them. Assumes nothing.
use mathlib.Core.Path.{◌≡◌, refl, sym, ap, ◌∙◌}
use Rattle.std.specs.Prelude.{Option, Some, None, is_some, unwrap_or}
use mathlib.Core.Bool.{Bool, true, false}
use mathlib.Core.List.{List}
use Prim.Native.Nat.{ℕ, zero, suc, ◌<◌}
use native.Mathlib.Omega.{arith}
use lib.ListN.{get_or}
use Rattle.bits.proofs.Decide.{clash}
use Rattle.map.specs.Map.{part_of}
use Rattle.words.specs.Words.{wide_of}
use Rattle.words_rows.specs.Rows.{row_at}
use Rattle.words_spare.specs.Spare.{Limits}
use Rattle.words_state.specs.Packed.{Judged, Bounded}
use Rattle.words_state.proofs.Judging.{bounded_of, packed_of, no_row}

pub limits24 : Limits 0 0xff_ffff 0x7 0xffff 0xff
unfolding wide_of
limits24 = record { pins_are = refl; kinds_are = refl; enables_are = refl; counts_are = refl }

pub limits34 : Limits 1 0x3_ffff_ffff 0x1f 0xff_ffff 0
unfolding wide_of
limits34 = record { pins_are = refl; kinds_are = refl; enables_are = refl; counts_are = refl }

-- what is in an Option
pub other : {A : Type 0} {r : ℕ} → None ≡ Some r → A
other {A} e = let z : false ≡ true = ap is_some e in clash true refl (sym z)

same : {r s : ℕ} → Some r ≡ Some s → r ≡ s
same {r} e = ap (λ (o : Option ℕ). unwrap_or o r) e

-- there are two parts
pub no_part : (c : ℕ) → (c ≡ 0 → ⊥) → (c ≡ 1 → ⊥) → c < 2 → ⊥
no_part zero a b h = a refl
no_part (suc zero) a b h = b refl
no_part (suc (suc c)) a b h = omega arith

-- words that are bounded, and no others, have the row of their pointer
module _ (c : ℕ) (hc : c < 2) (w : List ℕ) (t : Bool) (test : (t ≡ true → Bounded c w) × (Bounded c w → t ≡ true)) where
  pub judged_out : t ≡ false → Judged c w None
  judged_out e = record {
    packed = λ r z. other z;
    row_is = λ r z. other z;
    broken = λ q k. clash t (test.1 (bounded_of c w k)) e;
  }

  module _ (e : t ≡ true) (row : ℕ) (q : row ≡ row_at (part_of c) (get_or w 21 0)) where
    pub judged_zero : row ≡ 0 → Judged c w None
    judged_zero z = record {
      packed = λ r z. other z;
      row_is = λ r z. other z;
      broken = λ y. no_row c hc w (test.0 e) row q z;
    }

    pub judged_in : (row ≡ 0 → ⊥) → Judged c w (Some row)
    judged_in some = record {
      packed = λ r z. packed_of c hc w (test.0 e) row q some;
      row_is = λ r z. sym (same z) ∙ q;
      broken = λ z. other (sym z);
    }
