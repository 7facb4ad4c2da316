-- From the words that a function leaves to what it promises: the file is that of words 4 to 18, the pins those of words 0 to 3, and the rest stays. Assumes nothing.
use mathlib.Core.Path.{◌≡◌, refl, sym, ap, ◌∙◌}
use mathlib.Core.Bool.{Bool, true, false, cond}
use mathlib.Core.List.{List, [], ◌∷◌}
use Prim.Native.Nat.{ℕ, zero, suc, ◌%◌, ◌^◌, ◌<◌}
use native.Mathlib.Nat.{mod-lt, mod-le, pow-suc, lt_of_le_of_lt}
use native.Mathlib.Omega.{arith}
use borrow.Author.Tests.{ltb-true, ltb-false}
use lib.Dec.{eqb, ltb}
use lib.ListN.{length, get_or, set}
use lib.Pow.{pow_pos}
use lib.Seq.{get_or-set_other}
use Rattle.bits.specs.Bits.{bit}
use Rattle.bits.proofs.Laws.{bit_ext, bit_mod, bit_high}
use Rattle.pins.specs.AllPins.{Within}
use Rattle.pins.specs.declared.Sets.{Sets}
use Rattle.pins.proofs.AllPins.{same, map_within}
use Rattle.map.specs.Map.{Part, kind_at, stored, kept_in}
use Rattle.registers.specs.Registers.{Core, core, kept_as, written_as, written}
use Rattle.registers.proofs.Writing.{same as same-core}
use Rattle.words.specs.Words.{file_of, stored_in, sets_in, with_sets, core_in, wide_of, Fit, Holds}
use Rattle.words.proofs.Sound.{Sound}
use Rattle.words.proofs.Writing.{file_beside}
use Rattle.words.proofs.Storing.{fit_set}
use Rattle.words.proofs.Moving.{Moved}

-- a number whose bits from w on are 0
pub small_of_clear : (w x : ℕ) → ((i : ℕ) → ltb i w ≡ false → bit x i ≡ false) → x < 2 ^ w
small_of_clear w x clear = rw (← low) at (mod-lt x (pow_pos w))
  where
    self : (n : ℕ) → n < 2 ^ n
    self zero = omega arith
    self (suc n) = omega (arith, self n, pow-suc 2 n)

    low : x ≡ x % 2 ^ w
    low = bit_ext x x (x % 2 ^ w) (self x) (lt_of_le_of_lt (mod-le x (2 ^ w)) (self x)) (λ i h. go i (ltb i w) refl)
      where
        go : (i : ℕ) (t : Bool) → ltb i w ≡ t → bit x i ≡ bit (x % 2 ^ w) i
        go i true e = sym (bit_mod w x i (ltb-true i w e))
        go i false e = clear i e ∙ sym (bit_high w (x % 2 ^ w) i (mod-lt x (pow_pos w)) (ltb-false i w e))

pub clear_of_small : (w x : ℕ) → x < 2 ^ w → (i : ℕ) → ltb i w ≡ false → bit x i ≡ false
clear_of_small w x h i e = bit_high w x i h (ltb-false i w e)

-- a word that has a bit a pin
pub pin_word : (p : Part) (ok : Sound p) (s : ℕ) → s < 17 → eqb s 7 ≡ false → wide_of p s ≡ p.width
pin_word p ok s h e = rw e at (ok.wide s h)

module _ (p : Part) (ok : Sound p) (w : List ℕ) (fit : Fit p w) where
  pub word_small : (s : ℕ) → s < 17 → eqb s 7 ≡ false → get_or w s 0 < 2 ^ p.width
  word_small s h e = small_of_clear p.width (get_or w s 0) (λ i q. fit.clear s i (omega arith) (ap (ltb i) (pin_word p ok s h e) ∙ q))

  pub within : Within p.width (sets_in w)
  within = record {
    level_small = word_small 0 (omega arith) refl;
    reference_small = word_small 1 (omega arith) refl;
    held_small = word_small 2 (omega arith) refl;
    edge_small = word_small 3 (omega arith) refl;
  }

-- ---- the pins stored
pub sets_there : (w : List ℕ) (x : Sets) → length w ≡ 28 → sets_in (with_sets w x) ≡ x
sets_there [] x h = absurd (omega (arith, h))
sets_there (a ∷ []) x h = absurd (omega (arith, h))
sets_there (a ∷ b ∷ []) x h = absurd (omega (arith, h))
sets_there (a ∷ b ∷ c ∷ []) x h = absurd (omega (arith, h))
sets_there (a ∷ b ∷ c ∷ d ∷ w) x h = refl

word_beside : (w : List ℕ) (x : Sets) (s : ℕ) → 3 < s → get_or (with_sets w x) s 0 ≡ get_or w s 0
word_beside w x s h =
    get_or-set_other (set (set (set w 0 x.level) 1 x.reference) 2 x.held) 3 s x.edge 0 (λ e. omega (arith, e))
    ∙ get_or-set_other (set (set w 0 x.level) 1 x.reference) 2 s x.held 0 (λ e. omega (arith, e))
    ∙ get_or-set_other (set w 0 x.level) 1 s x.reference 0 (λ e. omega (arith, e)) ∙ get_or-set_other w 0 s x.level 0 (λ e. omega (arith, e))

fit_sets : (p : Part) (w : List ℕ) (x : Sets) → Fit p w → Within p.width x → Fit p (with_sets w x)
unfolding wide_of
fit_sets p w x fit d =
    fit_set p _ 3 x.edge (omega arith)
    (fit_set p _ 2 x.held (omega arith)
    (fit_set p _ 1 x.reference (omega arith) (fit_set p w 0 x.level (omega arith) fit (clear_of_small p.width x.level d.level_small))
    (clear_of_small p.width x.reference d.reference_small))
    (clear_of_small p.width x.held d.held_small))
    (clear_of_small p.width x.edge d.edge_small)

-- the words u with the pins y
pub holds_sets : (p : Part) (ok : Sound p) (w u : List ℕ) (y : Sets) {after : Core} → Fit p u → Within p.width y → core (file_of p u) y ≡ after
    → ((s : ℕ) → 18 < s → get_or u s 0 ≡ get_or w s 0) → Holds p w (with_sets u y) after
holds_sets p ok w u y fit d e rest = record {
  core = same-core (file_beside p ok u (with_sets u y) (λ s h l. word_beside u y s h)) (sets_there u y fit.full) ∙ e;
  fit = fit_sets p u y fit d;
  rest = λ s h. word_beside u y s (omega arith) ∙ rest s h;
}

-- ---- a register written: the words u have its byte stored, or are the old ones where nothing is
module _ (p : Part) (ok : Sound p) (w u : List ℕ) (n v : ℕ) (hn : n < 128) (fit : Fit p w) (fit_u : Fit p u)
    (file : file_of p u ≡ cond (stored (kind_at p n)) (set (file_of p w) n (kept_in p n (kept_as p (kind_at p n) v))) (file_of p w))
    (rest : (s : ℕ) → 18 < s → get_or u s 0 ≡ get_or w s 0) where
  pub holds_written : (y : Sets) → Moved p ok w (sets_in w) n v hn y → Holds p w (with_sets u y) (written p (core_in p w) n v)
  unfolding written_as
  holds_written y q = holds_sets p ok w u y fit_u (rw q (map_within p.width (sets_in w) _)) (same-core file q) rest

  -- stored, whatever the rule
  pub holds_kept : ((s : ℕ) → s < 4 → get_or u s 0 ≡ get_or w s 0) → Holds p w u (core (stored_in p w n v) (sets_in w))
  holds_kept pins = record {
    core = same-core file (same (pins 0 (omega arith)) (pins 1 (omega arith)) (pins 2 (omega arith)) (pins 3 (omega arith)));
    fit = fit_u;
    rest = rest;
  }

  -- no pin moved
  pub holds_stored : ((s : ℕ) → s < 4 → get_or u s 0 ≡ get_or w s 0) → Moved p ok w (sets_in w) n v hn (sets_in w) → Holds p w u (written p (core_in p w) n v)
  unfolding written_as
  holds_stored pins q =
      let h = holds_kept pins in
      record { core = h.core ∙ same-core refl q; fit = h.fit; rest = h.rest }
