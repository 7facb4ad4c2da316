-- The text of writes. Assumes nothing.
use mathlib.Core.Path.{◌≡◌, refl, ap, sym, ◌∙◌}
use mathlib.Core.List.{List, [], ◌∷◌, ◌++◌}
use Prim.Native.Nat.{ℕ, ◌+◌, ◌*◌, ◌≤◌}
use native.Mathlib.Omega.{arith}
use lib.ListN.{length, get_or, length-append}
use Rattle.text.specs.Text.{hex_text, Wrote}
use Rattle.text.proofs.Laws.{wrote_as, wrote_both, wrote_nothing, wrote_length}
use Rattle.plan_lines.specs.Told.{write_text, pairs_text}

-- the bytes that the code puts
pub write_is : (register value : ℕ) {a b : List ℕ} → a ≡ hex_text 2 register → b ≡ hex_text 2 value
    → 0x09 ∷ get_or a 0 0 ∷ get_or a 1 0 ∷ get_or b 0 0 ∷ get_or b 1 0 ∷ [] ≡ write_text register value
unfolding write_text hex_text
write_is register value e f = rw (e, f)

pairs_on : (pair rest : List ℕ) → length pair ≡ 2 → write_text (get_or pair 0 0) (get_or pair 1 0) ++ pairs_text rest ≡ pairs_text (pair ++ rest)
unfolding pairs_text
pairs_on [] rest h = absurd (omega (arith, h))
pairs_on (r ∷ []) rest h = absurd (omega (arith, h))
pairs_on (r ∷ v ∷ []) rest h = refl
pairs_on (r ∷ v ∷ b ∷ pair) rest h = absurd (omega (arith, h))

pairs_end : (s : List ℕ) → length s ≤ 1 → [] ≡ pairs_text s
unfolding pairs_text
pairs_end [] h = refl
pairs_end (r ∷ []) h = refl
pairs_end (r ∷ v ∷ s) h = absurd (omega arith)

-- where the loop stands: to write the pairs that are left is to write them all
pub record Writing (out₀ : List ℕ) (at : ℕ) (pairs out rest : List ℕ) (end : ℕ) : Type 0 where
  pub long : length out ≡ length out₀
  pub fits : 2 * end + 5 * length rest ≤ 2 * at + 5 * length pairs
  pub writes : {last : ℕ} {left : List ℕ} → Wrote out end (pairs_text rest) last left → Wrote out₀ at (pairs_text pairs) last left

module _ {out₀ : List ℕ} {at : ℕ} {pairs : List ℕ} where
  module _ {out rest : List ℕ} {end : ℕ} (here : Writing out₀ at pairs out rest end) where
    pub writing_on : (pair later : List ℕ) → rest ≡ pair ++ later → length pair ≡ 2 → {out' : List ℕ} {end' : ℕ}
        → Wrote out end (write_text (get_or pair 0 0) (get_or pair 1 0)) end' out' × (end' ≡ end + 5) → Writing out₀ at pairs out' later end'
    writing_on pair later r two (w, e) = record {
      long = wrote_length w ∙ here.long;
      fits = omega (arith, here.fits, ap length r, length-append pair later, two, e);
      writes = λ v. here.writes (wrote_as (pairs_on pair later two ∙ ap pairs_text (sym r)) (wrote_both w v));
    }

    pub writing_done : length rest ≤ 1 → Wrote out₀ at (pairs_text pairs) end out × (2 * end ≤ 2 * at + 5 * length pairs)
    writing_done h = (here.writes (wrote_as (pairs_end rest h) (wrote_nothing out end)), omega (arith, here.fits))
