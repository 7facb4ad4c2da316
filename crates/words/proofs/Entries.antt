-- A list that is given entry by entry. Assumes nothing.
use mathlib.Core.Path.{◌≡◌, refl, sym, ap, ap₂, ◌∙◌}
use mathlib.Core.List.{List, ◌∷◌}
use Prim.Native.Nat.{ℕ, zero, suc, ◌+◌, ◌<◌}
use native.Mathlib.Omega.{arith}
use lib.ListN.{get_or, set}
use Rattle.map.specs.Map.{entries}

pub entry_at : (f : ℕ → ℕ) (a n k : ℕ) → k < n → get_or (entries f a n) k 0 ≡ f (a + k)
entry_at f a zero k h = absurd (omega arith)
entry_at f a (suc n) zero h = ap f (omega arith)
entry_at f a (suc n) (suc k) h = entry_at f (suc a) n k (omega arith) ∙ ap f (omega arith)

pub entries_ext : (f g : ℕ → ℕ) (a n : ℕ) → ((j : ℕ) → j < n → f (a + j) ≡ g (a + j)) → entries f a n ≡ entries g a n
entries_ext f g a zero e = refl
entries_ext f g a (suc n) e =
    let z : a ≡ a + 0 = omega arith in
    ap₂ (λ (x : ℕ) (l : List ℕ). x ∷ l) (ap f z ∙ e 0 (omega arith) ∙ ap g (sym z))
    (entries_ext f g (suc a) n (λ j h. let q : suc a + j ≡ a + suc j = omega arith in ap f q ∙ e (suc j) (omega arith) ∙ ap g (sym q)))

-- one entry becomes v, and the others stay
pub set_entries : (f g : ℕ → ℕ) (v a n k : ℕ) → g (a + k) ≡ v → ((j : ℕ) → j < n → (j ≡ k → ⊥) → f (a + j) ≡ g (a + j)) → set (entries f a n) k v ≡ entries g a n
set_entries f g v a zero k q e = refl
set_entries f g v a (suc n) zero q e =
    let z : a + 0 ≡ a = omega arith in
    ap₂ (λ (x : ℕ) (l : List ℕ). x ∷ l) (sym q ∙ ap g z)
    (entries_ext f g (suc a) n (λ j h. let s : suc a + j ≡ a + suc j = omega arith in ap f s ∙ e (suc j) (omega arith) (λ x. omega (arith, x)) ∙ ap g (sym s)))
set_entries f g v a (suc n) (suc k) q e =
    let z : a ≡ a + 0 = omega arith in
    let s : suc a + k ≡ a + suc k = omega arith in
    ap₂ (λ (x : ℕ) (l : List ℕ). x ∷ l) (ap f z ∙ e 0 (omega arith) (λ x. omega (arith, x)) ∙ ap g (sym z))
    (set_entries f g v (suc a) n k (ap g s ∙ q)
    (λ j h d. let t : suc a + j ≡ a + suc j = omega arith in ap f t ∙ e (suc j) (omega arith) (λ x. d (omega (arith, x))) ∙ ap g (sym t)))
