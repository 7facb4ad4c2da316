-- Words to a register file and back, number by number: what may stand in a file is kept as it is. Assumes nothing.
use mathlib.Core.Path.{◌≡◌, refl, sym, ap, ◌∙◌}
use mathlib.Core.Bool.{Bool, true, false, cond, ◌&&◌}
use mathlib.Core.List.{List}
use Prim.Native.Nat.{ℕ, zero, suc, ◌+◌, ◌%◌, ◌^◌, ◌<◌, ◌≤◌}
use native.Mathlib.Nat.{mod-eq_of_lt, zero-add}
use native.Mathlib.Omega.{arith}
use borrow.Author.Tests.{eqb-true, eqb-false, ltb-true}
use lib.Dec.{eqb, ltb}
use lib.ListN.{length, get_or, set, replicate, length-set}
use lib.Seq.{get_or-set_same, get_or-set_other, ext_get_or}
use Rattle.bits.specs.Bits.{bit}
use Rattle.bits.proofs.Decide.{and_left, and_right}
use Rattle.bits.proofs.Laws.{bit_zero}
use Rattle.ports.specs.Ports.{byte_of}
use Rattle.map.specs.Map.{Part, Kind, kind_at, stored, room_at, whole, kept_in, fitting, fitting_at, fitting_from, file_fits, entries}
use Rattle.map.specs.Map.Kind.{Reserved, Input, Status, InputStatus, Configuration, Latch, Mask, PortKind, Edge, Clear, Output, Polarity, PinKind, Stored}
use Rattle.registers.specs.Registers.{kept_as}
use Rattle.words.specs.Words.{slot_at, digit_at, held_bit, entry_of, file_of, stored_in, Fit}
use Rattle.words.proofs.Sound.{Sound}
use Rattle.words.proofs.Reading.{file_entry}

entries_length : (f : ℕ → ℕ) (a n : ℕ) → length (entries f a n) ≡ n
entries_length f a zero = refl
entries_length f a (suc n) = ap suc (entries_length f (suc a) n)

pub file_length : (p : Part) (w : List ℕ) → length (file_of p w) ≡ 128
unfolding file_of
file_length p w = entries_length (entry_of p w) 0 128

load_set : (file : List ℕ) (n u k : ℕ) → n < length file → get_or (set file n u) k 0 ≡ cond (eqb k n) u (get_or file k 0)
load_set file n u k h = go (eqb k n) refl
  where
    go : (b : Bool) → eqb k n ≡ b → get_or (set file n u) k 0 ≡ cond b u (get_or file k 0)
    go true e = ap (λ (j : ℕ). get_or (set file n u) j 0) (eqb-true k n e) ∙ get_or-set_same file n u 0 h
    go false e = get_or-set_other file n k u 0 (eqb-false k n e)

pub all_zero : (n s : ℕ) → get_or (replicate {A = ℕ} n 0) s 0 ≡ 0
all_zero zero s = refl
all_zero (suc n) zero = refl
all_zero (suc n) (suc s) = all_zero n s

-- ---- words to a file: the entries below n are written
pub record Laid (p : Part) (w file : List ℕ) (n : ℕ) : Type 0 where
  pub inside : n ≤ 128
  pub full : length file ≡ 128
  pub entry : (j : ℕ) → j < n → get_or file j 0 ≡ entry_of p w j

module _ (p : Part) (ok : Sound p) (w : List ℕ) where
  pub laid_none : (file : List ℕ) → length file ≡ 128 → Laid p w file 0
  laid_none file f = record { inside = omega arith; full = f; entry = λ j h. absurd (omega arith) }

  pub laid_more : (file : List ℕ) (n v : ℕ) → Laid p w file n → n < 128 → v ≡ entry_of p w n → Laid p w (set file n v) (n + 1)
  laid_more file n v l h e = record { inside = omega arith; full = simp length-set l.full; entry = entry }
    where
      entry : (j : ℕ) → j < n + 1 → get_or (set file n v) j 0 ≡ entry_of p w j
      entry j hj = load_set file n v j (omega (arith, l.full)) ∙ pick (eqb j n) refl
        where
          pick : (b : Bool) → eqb j n ≡ b → cond b v (get_or file j 0) ≡ entry_of p w j
          pick true q = e ∙ ap (entry_of p w) (sym (eqb-true j n q))
          pick false q = l.entry j (omega (arith, eqb-false j n q))

  -- one entry more is found as it is
  pub laid_next : (file : List ℕ) (n : ℕ) → Laid p w file n → n < 128 → entry_of p w n ≡ get_or file n 0 → Laid p w file (n + 1)
  laid_next file n l h e = record { inside = omega arith; full = l.full; entry = entry }
    where
      entry : (j : ℕ) → j < n + 1 → get_or file j 0 ≡ entry_of p w j
      entry j hj = pick (eqb j n) refl
        where
          pick : (b : Bool) → eqb j n ≡ b → get_or file j 0 ≡ entry_of p w j
          pick true q = let z : j ≡ n = eqb-true j n q in rw z (sym e)
          pick false q = l.entry j (omega (arith, eqb-false j n q))

  pub entry_same : (file : List ℕ) (n : ℕ) → n < 128 → file_of p w ≡ file → entry_of p w n ≡ get_or file n 0
  entry_same file n h e = sym (file_entry p ok w n h) ∙ ap (λ (f : List ℕ). get_or f n 0) e

  pub laid_all : (file : List ℕ) (n : ℕ) → Laid p w file n → 128 ≤ n → file ≡ file_of p w
  laid_all file n l h =
      ext_get_or 0 file (file_of p w) (l.full ∙ sym (file_length p w))
      (λ i hi. l.entry i (omega (arith, l.full)) ∙ sym (file_entry p ok w i (omega (arith, l.full))))

-- ---- a file to words: the entries below n are taken
abbrev kept_of : Part → List ℕ → ℕ → ℕ
kept_of p file j = cond (stored (kind_at p j)) (kept_in p j (kept_as p (kind_at p j) (get_or file j 0))) 0

pub record Taken (p : Part) (file w : List ℕ) (n : ℕ) : Type 0 where
  pub inside : n ≤ 128
  pub fit : Fit p w
  pub entry : (j : ℕ) → j < n → get_or (file_of p w) j 0 ≡ kept_of p file j

-- what may stand in a file is kept as it is
fits_kept : (p : Part) (n v : ℕ) → fitting_at p n v ≡ true → cond (stored (kind_at p n)) (kept_in p n (kept_as p (kind_at p n) v)) 0 ≡ v
unfolding fitting
fits_kept p n v = go (kind_at p n) (whole p)
  where
    cut : (k : Kind) → kept_as p k v ≡ v → (t : Bool) → cond t (fitting p k v) (fitting p k v && ltb v (2 ^ room_at p n)) ≡ true → cond t (kept_as p k v) (kept_as p k v % 2 ^ room_at p n) ≡ v
    cut k e true f = e
    cut k e false f = ap (λ (x : ℕ). x % 2 ^ room_at p n) e ∙ mod-eq_of_lt (ltb-true v (2 ^ room_at p n) (and_right (fitting p k v) (ltb v (2 ^ room_at p n)) f))

    bare : (k : Kind) (t : Bool) → cond t (fitting p k v) (fitting p k v && ltb v (2 ^ room_at p n)) ≡ true → fitting p k v ≡ true
    bare k true f = f
    bare k false f = and_left (fitting p k v) (ltb v (2 ^ room_at p n)) f

    none : eqb v 0 ≡ true → 0 ≡ v
    none e = sym (eqb-true v 0 e)

    go : (k : Kind) (t : Bool) → cond t (fitting p k v) (fitting p k v && ltb v (2 ^ room_at p n)) ≡ true
        → cond (stored k) (cond t (kept_as p k v) (kept_as p k v % 2 ^ room_at p n)) 0 ≡ v
    go Reserved t f = none (bare Reserved t f)
    go Input t f = none (bare Input t f)
    go Status t f = none (bare Status t f)
    go InputStatus t f = none (bare InputStatus t f)
    go Clear t f = none (bare Clear t f)
    go PortKind t f = cut PortKind (mod-eq_of_lt (ltb-true v (2 ^ p.ports) (bare PortKind t f))) t f
    go Configuration t f = cut Configuration refl t f
    go Latch t f = cut Latch refl t f
    go Mask t f = cut Mask refl t f
    go Edge t f = cut Edge refl t f
    go Output t f = cut Output refl t f
    go Polarity t f = cut Polarity refl t f
    go PinKind t f = cut PinKind refl t f
    go Stored t f = cut Stored refl t f

to_entry : (p : Part) (file : List ℕ) (n a j : ℕ) → fitting_from p file a n ≡ true → j < n → fitting_at p (a + j) (get_or file (a + j) 0) ≡ true
to_entry p file zero a j e h = absurd (omega arith)
to_entry p file (suc n) a zero e h =
    ap (λ (m : ℕ). fitting_at p m (get_or file m 0)) (omega arith) ∙ and_left (fitting_at p a (get_or file a 0)) (fitting_from p file (suc a) n) e
to_entry p file (suc n) a (suc j) e h =
    ap (λ (m : ℕ). fitting_at p m (get_or file m 0)) (omega arith)
    ∙ to_entry p file n (suc a) j (and_right (fitting_at p a (get_or file a 0)) (fitting_from p file (suc a) n) e) (omega arith)

module _ (p : Part) (ok : Sound p) (file : List ℕ) where
  nothing : (w : List ℕ) (n : ℕ) → stored (kind_at p n) ≡ false → entry_of p w n ≡ 0
  unfolding entry_of
  nothing w n e = ap (λ (t : Bool). cond t (byte_of (digit_at p n) (held_bit w (slot_at p n))) 0) e

  pub taken_none : (w : List ℕ) → length w ≡ 28 → ((s : ℕ) → get_or w s 0 ≡ 0) → Taken p file w 0
  taken_none w full z = record { inside = omega arith; fit = record { full = full; clear = λ s i h e. ap (λ (x : ℕ). bit x i) (z s) ∙ bit_zero i }; entry = λ j h. absurd (omega arith) }

  pub taken_more : (w w' : List ℕ) (n : ℕ) → Taken p file w n → n < 128
      → file_of p w' ≡ stored_in p w n (get_or file n 0) → Fit p w' → Taken p file w' (n + 1)
  taken_more w w' n t h q f = record { inside = omega arith; fit = f; entry = entry }
    where
      entry : (j : ℕ) → j < n + 1 → get_or (file_of p w') j 0 ≡ kept_of p file j
      entry j hj = ap (λ (l : List ℕ). get_or l j 0) q ∙ pick (stored (kind_at p n)) refl (eqb j n) refl
        where
          u : ℕ
          u = kept_in p n (kept_as p (kind_at p n) (get_or file n 0))

          pick : (s : Bool) → stored (kind_at p n) ≡ s → (b : Bool) → eqb j n ≡ b → get_or (cond s (set (file_of p w) n u) (file_of p w)) j 0 ≡ kept_of p file j
          pick true e true r =
              let z : j ≡ n = eqb-true j n r in
              ap (λ (j : ℕ). get_or (set (file_of p w) n u) j 0) z ∙ get_or-set_same (file_of p w) n u 0 (omega (arith, file_length p w))
              ∙ ap (λ (t : Bool). cond t u 0) (sym e) ∙ ap (kept_of p file) (sym z)
          pick true e false r = get_or-set_other (file_of p w) n j u 0 (eqb-false j n r) ∙ t.entry j (omega (arith, eqb-false j n r))
          pick false e true r =
              let z : j ≡ n = eqb-true j n r in
              ap (λ (j : ℕ). get_or (file_of p w) j 0) z ∙ file_entry p ok w n h ∙ nothing w n e ∙ ap (λ (t : Bool). cond t u 0) (sym e) ∙ ap (kept_of p file) (sym z)
          pick false e false r = t.entry j (omega (arith, eqb-false j n r))

  pub taken_all_lem : (w : List ℕ) (n : ℕ) → Taken p file w n → 128 ≤ n → length file ≡ 128 → file_fits p file ≡ true → file_of p w ≡ file
  unfolding file_fits
  taken_all_lem w n t h full fits =
      ext_get_or 0 (file_of p w) file (file_length p w ∙ sym full)
      (λ i hi. t.entry i (omega (arith, file_length p w)) ∙ fits_kept p i (get_or file i 0)
      (ap (λ (m : ℕ). fitting_at p m (get_or file m 0)) (sym (zero-add i)) ∙ to_entry p file 128 0 i fits (omega (arith, file_length p w))))
