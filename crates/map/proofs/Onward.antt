-- The step over the whole map goes to the next number but after a part's gaps, which are tried at every number. Assumes nothing.
use mathlib.Core.Path.{◌≡◌, refl, sym, ap, ◌∙◌}
use mathlib.Core.Bool.{Bool, true, false, not, ◌||◌}
use mathlib.Core.List.{List, [], ◌∷◌}
use Prim.Native.Nat.{ℕ, zero, suc, ◌+◌, ◌<◌}
use native.Mathlib.Omega.{arith}
use borrow.Author.Tests.{ltb-true, eqb-true, ne_eqb, not-true}
use lib.Dec.{eqb, ltb}
use Rattle.bits.proofs.Decide.{clash, each_bool}
use Rattle.map.specs.Map.{Part, part24, part34, part_of, kind_at, code, reserved, next, onward, next_in}
use Rattle.map.specs.Map.Kind.{Reserved}

pub known_small : (p : Part) (n : ℕ) → reserved p n ≡ false → n < 128
unfolding reserved
known_small p n e = go (eqb (code (kind_at p n)) (code Reserved)) (ltb n 128) refl e
  where
    go : (r t : Bool) → ltb n 128 ≡ t → (not t || r) ≡ false → n < 128
    go r true h q = ltb-true n 128 h
    go r false h q = clash true refl q

pub here : (p : Part) {n : ℕ} (k : ℕ) → n ≡ k → onward p k ≡ onward p n
here p k e = ap (onward p) (sym e)

-- n is none of the numbers of a list
abbrev pub NoneOf : ℕ → List ℕ → Type 0
NoneOf n [] = Unit {0}
NoneOf n (k ∷ ks) = NoneOf n ks × (n ≡ k → ⊥)

abbrev is_of : ℕ → List ℕ → Bool
is_of n [] = false
is_of n (k ∷ ks) = eqb n k || is_of n ks

none_of : (n : ℕ) (ks : List ℕ) → NoneOf n ks → is_of n ks ≡ false
none_of n [] a = refl
none_of n (k ∷ ks) a = ap (λ (b : Bool). b || is_of n ks) (ne_eqb n k a.1) ∙ none_of n ks a.0

-- the numbers after which some are reserved, and the highest; the last first
abbrev gaps24 : List ℕ
gaps24 = 0x76 ∷ 0x72 ∷ 0x6e ∷ 0x6a ∷ 0x65 ∷ 0x5c ∷ 0x5a ∷ 0x56 ∷ 0x52 ∷ 0x4e ∷ 0x4a ∷ 0x45 ∷ 0x0e ∷ 0x0a ∷ 0x06 ∷ 0x02 ∷ []

abbrev gaps34 : List ℕ
gaps34 = 0x6f ∷ 0x5c ∷ 0x38 ∷ 0x13 ∷ []

-- elsewhere it is one more
abbrev Elsewhere : Part → List ℕ → Type 0
Elsewhere p gaps = (n : ℕ) → n < 128 → (reserved p n || (is_of n gaps || eqb (n + 1) (onward p n))) ≡ true

elsewhere24 : Elsewhere part24 gaps24
unfolding kind_at reserved onward
elsewhere24 = each_bool 128 _ _ tt

elsewhere34 : Elsewhere part34 gaps34
unfolding kind_at reserved onward
elsewhere34 = each_bool 128 _ _ tt

one_more : (p : Part) (gaps : List ℕ) → Elsewhere p gaps → (n : ℕ) → reserved p n ≡ false → NoneOf n gaps → n + 1 ≡ onward p n
one_more p gaps test n known apart = eqb-true _ _ (simp (known, none_of n gaps apart) at (test n (known_small p n known)))

pub one_more24 : (n : ℕ) → reserved part24 n ≡ false → NoneOf n gaps24 → n + 1 ≡ onward part24 n
one_more24 = one_more part24 gaps24 elsewhere24

pub one_more34 : (n : ℕ) → reserved part34 n ≡ false → NoneOf n gaps34 → n + 1 ≡ onward part34 n
one_more34 = one_more part34 gaps34 elsewhere34

-- from a register it goes to a register
abbrev Onto : Part → Type 0
Onto p = (n : ℕ) → n < 128 → (reserved p n || not (reserved p (onward p n))) ≡ true

onto24 : Onto part24
unfolding kind_at reserved onward
onto24 = each_bool 128 _ _ tt

onto34 : Onto part34
unfolding kind_at reserved onward
onto34 = each_bool 128 _ _ tt

onto : (part : ℕ) → Onto (part_of part)
onto zero = onto24
onto (suc part) = onto34

pub onward_known : (part n : ℕ) → reserved (part_of part) n ≡ false → reserved (part_of part) (onward (part_of part) n) ≡ false
onward_known part n known = not-true _ (simp known at (onto part n (known_small (part_of part) n known)))

-- the step by the mode
pub in_group : (p : Part) (mode n : ℕ) → mode ≡ 0 → next p n ≡ next_in p mode n
unfolding next_in
in_group p mode n e = ap (λ (m : ℕ). next_in p m n) (sym e)

pub over_map : (p : Part) (mode n : ℕ) → mode < 2 → (mode ≡ 0 → ⊥) → onward p n ≡ next_in p mode n
unfolding next_in
over_map p mode n h z = let e : mode ≡ 1 = one mode h z in ap (λ (m : ℕ). next_in p m n) (sym e)
  where
    one : (m : ℕ) → m < 2 → (m ≡ 0 → ⊥) → m ≡ 1
    one zero h z = absurd (z refl)
    one (suc m) h z = omega arith
