-- Whether a setting is well-formed: its length, its port kinds, and the bytes of the last port; the other ports have eight pins. Assumes nothing.
use mathlib.Core.Path.{◌≡◌, refl, sym, ap, ap₂, subst, ◌∙◌}
use mathlib.Core.Bool.{Bool, true, false, ◌&&◌}
use mathlib.Core.List.{List}
use Prim.Native.Nat.{ℕ, zero, suc, ◌+◌, ◌-◌, ◌*◌, ◌^◌, ◌≤◌, ◌<◌, min}
use native.Mathlib.Omega.{arith}
use borrow.Author.Tests.{eq-eqb, ne_eqb, eqb-true, eqb-false, lt-ltb, ltb-true, ltb-false, leb-true, le-leb}
use lib.Dec.{eqb, ltb, leb}
use lib.ListN.{get_or, length}
use Rattle.map.specs.Map.{Part}
use Rattle.planner_quiet.specs.Settings.{registers_of, shape_of}
use Rattle.planner_quiet.proofs.Blocked.{both}
use Rattle.planner_quiet.proofs.Plannable.{Plannable}
use Rattle.planner_promise.specs.Formed.{fit_from, formed}
use Rattle.planner_promise.proofs.Answering.{sound}

same_truth : (a b : Bool) → (a ≡ true → b ≡ true) → (b ≡ true → a ≡ true) → a ≡ b
same_truth true b f g = sym (f refl)
same_truth false true f g = g refl
same_truth false false f g = refl

all_fit : (p : Part) (s : List ℕ) (n a : ℕ) → ((i : ℕ) → i < a + n → get_or s i 0 < 2 ^ (shape_of p).room i) → fit_from p s a n ≡ true
all_fit p s zero a f = refl
all_fit p s (suc n) a f =
    ap₂ (λ (x y : Bool). x && y) (lt-ltb (get_or s a 0) (2 ^ (shape_of p).room a) (f a (omega arith))) (all_fit p s n (suc a) (λ i h. f i (omega (arith, h))))

-- every port but the last has eight pins
eight : (w n k : ℕ) → 8 * n < w + 8 → suc k < n → min 8 (w - 8 * k) ≡ 8
eight w n k h q = omega (arith, h, q)

not_last : (k n : ℕ) → k < n → (k ≡ n - 1 → ⊥) → suc k < n
not_last k n h off = omega (arith, h, off)

module _ (p : Part) (ok : Plannable p) (s : List ℕ) (n : ℕ) (all : n ≡ p.ports) where
  pub formed_not : (length s ≡ 3 * n + 1 → ⊥) → false ≡ formed p s
  formed_not h =
      ap (λ (b : Bool). b && fit_from p s 0 (length (registers_of p)))
      (sym (ne_eqb (length s) (length (registers_of p)) (λ e. h (e ∙ ok.regular.count ∙ ap (λ (m : ℕ). 3 * m + 1) (sym all)))))

  module _ (most last : ℕ) (em : suc most ≡ 2 ^ p.ports) (el : suc last ≡ 2 ^ (shape_of p).width (p.ports - 1)) (whole : length s ≡ 3 * n + 1) (bytes : (i : ℕ) → get_or s i 0 < 256) where
    abbrev m : ℕ
    m = p.ports

    -- a byte of port k at place i
    byte_fits : (k i : ℕ) → k < m → (shape_of p).room i ≡ (shape_of p).width k → (k ≡ m - 1 → get_or s i 0 ≤ last) → get_or s i 0 < 2 ^ (shape_of p).room i
    byte_fits k i hk e low = go (eqb k (m - 1)) refl
      where
        go : (b : Bool) → eqb k (m - 1) ≡ b → get_or s i 0 < 2 ^ (shape_of p).room i
        go true q =
            let at = eqb-true k (m - 1) q in
            subst (λ (x : ℕ). get_or s i 0 < x) (el ∙ ap (λ (j : ℕ). 2 ^ (shape_of p).width j) (sym at) ∙ ap (λ (r : ℕ). 2 ^ r) (sym e)) (omega (arith, low at))
        go false q =
            subst (λ (r : ℕ). get_or s i 0 < 2 ^ r) (sym (e ∙ eight p.width m k ok.reaching (not_last k m hk (eqb-false k (m - 1) q)))) (bytes i)

    module _ (a : get_or s (2 * m) 0 ≤ most) (b : get_or s (m - 1) 0 ≤ last) (c : get_or s (2 * m - 1) 0 ≤ last) (d : get_or s (3 * m) 0 ≤ last) where
      at : (x y z : Bool) (i : ℕ) → ltb i m ≡ x → ltb i (2 * m) ≡ y → ltb (2 * m) i ≡ z → i < 3 * m + 1 → get_or s i 0 < 2 ^ (shape_of p).room i
      at true y z i ex ey ez h =
          let k = ltb-true i m ex in
          byte_fits i i k (ok.regular.room_output i k) (λ e. subst (λ (j : ℕ). get_or s j 0 ≤ last) (sym e) b)
      at false true z i ex ey ez h =
          let l = ltb-false i m ex in
          let k : i - m < m = omega (arith, ltb-true i (2 * m) ey, l) in
          let q : m + (i - m) ≡ i = omega (arith, l) in
          byte_fits (i - m) i k (ap (shape_of p).room (sym q) ∙ ok.regular.room_configuration (i - m) k) (λ e. subst (λ (j : ℕ). get_or s j 0 ≤ last) (omega (arith, e, q, k)) c)
      at false false true i ex ey ez h =
          let l = ltb-true (2 * m) i ez in
          let k : i - 2 * m - 1 < m = omega (arith, l, h) in
          let q : 2 * m + 1 + (i - 2 * m - 1) ≡ i = omega (arith, l) in
          byte_fits (i - 2 * m - 1) i k (ap (shape_of p).room (sym q) ∙ ok.regular.room_pin_kind (i - 2 * m - 1) k) (λ e. subst (λ (j : ℕ). get_or s j 0 ≤ last) (omega (arith, e, q, k)) d)
      at false false false i ex ey ez h =
          let q : 2 * m ≡ i = omega (arith, ltb-false i (2 * m) ey, ltb-false (2 * m) i ez) in
          subst (λ (j : ℕ). get_or s j 0 < 2 ^ (shape_of p).room j) q (subst (λ (r : ℕ). get_or s (2 * m) 0 < 2 ^ r) (sym ok.regular.room_kinds) (subst (λ (x : ℕ). get_or s (2 * m) 0 < x) em (omega (arith, a))))

      fits : formed p s ≡ true
      fits =
          let count = ok.regular.count in
          ap₂ (λ (x y : Bool). x && y) (eq-eqb (length s) (length (registers_of p)) (whole ∙ ap (λ (j : ℕ). 3 * j + 1) all ∙ sym count))
          (all_fit p s (length (registers_of p)) 0 (λ i h. at _ _ _ i refl refl refl (omega (arith, h, count))))

    -- and the other way round
    under : (i w x : ℕ) → formed p s ≡ true → i < 3 * m + 1 → (shape_of p).room i ≡ w → suc x ≡ 2 ^ w → leb (get_or s i 0) x ≡ true
    under i w x e h er ex =
        let lt : get_or s i 0 < suc x = subst (λ (y : ℕ). get_or s i 0 < y) (ap (λ (r : ℕ). 2 ^ r) er ∙ sym ex) ((sound p s e).fits i (omega (arith, h, ok.regular.count))) in
        le-leb (get_or s i 0) x (omega (arith, lt))

    tests : (((leb (get_or s (2 * m) 0) most && leb (get_or s (m - 1) 0) last) && leb (get_or s (2 * m - 1) 0) last) && leb (get_or s (3 * m) 0) last) ≡ formed p s
    tests = same_truth _ _
        (λ t.
        let r = both _ _ t in
        let u = both _ _ r.0 in
        let v = both _ _ u.0 in
        fits (leb-true _ _ v.0) (leb-true _ _ v.1) (leb-true _ _ u.1) (leb-true _ _ r.1))
        (λ t.
        let one = ok.regular.some in
        let conf : m + (m - 1) ≡ 2 * m - 1 = omega (arith, one) in
        let kind : 2 * m + 1 + (m - 1) ≡ 3 * m = omega (arith, one) in
        let last-port : m - 1 < m = omega (arith, one) in
        ap₂ (λ (x y : Bool). x && y)
        (ap₂ (λ (x y : Bool). x && y)
        (ap₂ (λ (x y : Bool). x && y) (under (2 * m) m most t (omega arith) ok.regular.room_kinds em)
        (under (m - 1) ((shape_of p).width (m - 1)) last t (omega arith) (ok.regular.room_output (m - 1) last-port) el))
        (under (2 * m - 1) ((shape_of p).width (m - 1)) last t (omega arith) (ap (shape_of p).room (sym conf) ∙ ok.regular.room_configuration (m - 1) last-port) el))
        (under (3 * m) ((shape_of p).width (m - 1)) last t (omega arith) (ap (shape_of p).room (sym kind) ∙ ok.regular.room_pin_kind (m - 1) last-port) el))

    pub formed_is : (((leb (get_or s (2 * n) 0) most && leb (get_or s (n - 1) 0) last) && leb (get_or s (2 * n - 1) 0) last) && leb (get_or s (3 * n) 0) last) ≡ formed p s
    formed_is =
        ap (λ (j : ℕ). ((leb (get_or s (2 * j) 0) most && leb (get_or s (j - 1) 0) last) && leb (get_or s (2 * j - 1) 0) last) && leb (get_or s (3 * j) 0) last) all ∙ tests
