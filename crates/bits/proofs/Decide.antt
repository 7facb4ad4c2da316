-- Deciders: what can be tried at every value is proved by computing the trial. Assumes nothing.
use mathlib.Core.Path.{◌≡◌, refl, ap, sym, ◌∙◌}
use mathlib.Core.Bool.{Bool, true, false, cond, ◌&&◌, beq}
use Prim.Native.Nat.{ℕ, zero, suc, ◌+◌, ◌<◌}
use native.Mathlib.Omega.{arith}
use mathlib.Core.List.{List}
use lib.Dec.{T, eqb, eqb→eq}
use lib.ListN.{get_or}

-- both parts of a test that came out true
pub both : (a b : Bool) → T (a && b) → T a × T b
both true b t = (tt, t)
both false b t = absurd t

pub beq→eq : (a b : Bool) → T (beq a b) → a ≡ b
beq→eq true true t = refl
beq→eq true false t = absurd t
beq→eq false true t = absurd t
beq→eq false false t = refl

-- a Bool is not true and false
pub clash : {A : Type 0} (b : Bool) → b ≡ true → b ≡ false → A
clash b p q = let z : ◌≡◌ {A = ℕ} 0 1 = cc in absurd (omega arith)

pub and_left : (a b : Bool) → (a && b) ≡ true → a ≡ true
and_left true b e = refl
and_left false b e = e

pub and_right : (a b : Bool) → (a && b) ≡ true → b ≡ true
and_right true b e = e
and_right false b e = clash false e refl

-- what holds of both arms holds of the choice
pub either_arm : {A : Type 0} (P : A → Type 0) (t : Bool) {x y : A} → P x → P y → P (cond t x y)
either_arm P true p q = p
either_arm P false p q = q

-- functions of n Bools, to any type whose equality is computed
abbrev pub Fn : Type 0 → ℕ → Type 0
Fn A zero = A
Fn A (suc n) = Bool → Fn A n

-- f and g are equal at all arguments
abbrev pub Same : (A : Type 0) (n : ℕ) → Fn A n → Fn A n → Type 0
Same A zero a b = a ≡ b
Same A (suc n) f g = (b : Bool) → Same A n (f b) (g b)

-- the trial of it: at each of the 2 ^ n choices
abbrev pub agree : (A : Type 0) (same : A → A → Bool) (n : ℕ) → Fn A n → Fn A n → Bool
agree A same zero a b = same a b
agree A same (suc n) f g = agree A same n (f true) (g true) && agree A same n (f false) (g false)

pub decide : (A : Type 0) (same : A → A → Bool) → ((a b : A) → T (same a b) → a ≡ b)
    → (n : ℕ) (f g : Fn A n) → T (agree A same n f g) → Same A n f g
decide A same sound zero a b t = sound a b t
decide A same sound (suc n) f g t =
    λ b. elim b as (λ x. Same A n (f x) (g x)) [
      | true ↦ decide A same sound n (f true) (g true) h.0
      | false ↦ decide A same sound n (f false) (g false) h.1
    ]
  where
    h : T (agree A same n (f true) (g true)) × T (agree A same n (f false) (g false))
    h = both (agree A same n (f true) (g true)) (agree A same n (f false) (g false)) t

-- `taut n _ _ tt` proves a statement `(b₁ … bₙ : Bool) → l ≡ r` of two Bools
pub taut : (n : ℕ) (f g : Fn Bool n) → T (agree Bool beq n f g) → Same Bool n f g
taut = decide Bool beq beq→eq

-- ---- functions of a number below n
-- f and g agree at the n numbers from a
abbrev pub agree_from : (A : Type 0) (same : A → A → Bool) (n a : ℕ) → (f g : ℕ → A) → Bool
agree_from A same zero a f g = true
agree_from A same (suc n) a f g = same (f a) (g a) && agree_from A same n (suc a) f g

module _ (A : Type 0) (same : A → A → Bool) (sound : (a b : A) → T (same a b) → a ≡ b) where
  from : (n a : ℕ) (f g : ℕ → A) → T (agree_from A same n a f g) → (j : ℕ) → j < n → f (a + j) ≡ g (a + j)
  from zero a f g t j h = absurd (omega arith)
  from (suc n) a f g t zero h =
      let e : a + zero ≡ a = omega arith in
      ap f e ∙ sound (f a) (g a) (both (same (f a) (g a)) (agree_from A same n (suc a) f g) t).0 ∙ ap g (sym e)
  from (suc n) a f g t (suc j) h =
      let e : a + suc j ≡ suc a + j = omega arith in
      ap f e ∙ from n (suc a) f g (both (same (f a) (g a)) (agree_from A same n (suc a) f g) t).1 j (omega arith) ∙ ap g (sym e)

  pub decide_below : (n : ℕ) (f g : ℕ → A) → T (agree_from A same n 0 f g) → (k : ℕ) → k < n → f k ≡ g k
  decide_below n f g t k h =
      let e : k ≡ 0 + k = omega arith in
      ap f e ∙ from n 0 f g t k h ∙ ap g (sym e)

-- `each 256 _ _ tt` proves a statement `(b : ℕ) → b < 256 → l ≡ r` of two numbers
pub each : (n : ℕ) (f g : ℕ → ℕ) → T (agree_from ℕ eqb n 0 f g) → (k : ℕ) → k < n → f k ≡ g k
each = decide_below ℕ eqb eqb→eq

-- `each_entry 128 _ _ tt` proves it of a table's entries
pub each_entry : (n : ℕ) (table : List ℕ) (g : ℕ → ℕ) → T (agree_from ℕ eqb n 0 (λ k. get_or table k 0) g) → (k : ℕ) → k < n → get_or table k 0 ≡ g k
each_entry n table = each n (λ k. get_or table k 0)

-- and of two Bools
pub each_bool : (n : ℕ) (f g : ℕ → Bool) → T (agree_from Bool beq n 0 f g) → (k : ℕ) → k < n → f k ≡ g k
each_bool = decide_below Bool beq beq→eq
