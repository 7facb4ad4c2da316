-- No list of writes serves where a pin is blocked. Assumes nothing.
use mathlib.Core.Path.{◌≡◌, refl, sym, ap, ◌∙◌}
use mathlib.Core.Bool.{Bool, true, false, ◌&&◌, ◌||◌}
use mathlib.Core.List.{List, [], ◌∷◌}
use mathlib.Core.Logic.{◌⊎◌, inl, inr, ⊎_elim}
use Prim.Native.Nat.{ℕ, zero, suc, ◌+◌, ◌*◌, ◌<◌}
use native.Mathlib.Omega.{arith}
use borrow.Author.Tests.{eqb-true, eqb-false, not-true}
use lib.Dec.{eqb}
use lib.Seq.{get_or-set_other}
use Rattle.bits.proofs.Decide.{and_left, and_right, clash as never}
use Rattle.bits.specs.Bits.{bit, some, differs}
use Rattle.pins.specs.Pin.{Drive, drive, is_high, open_drain}
use Rattle.pins.specs.Pin.Drive.{Low, High, Released}
use Rattle.planner_quiet.specs.Settings.{Shape, Settings, bits_of, drive_of, Write, place_of, put, run, after}
use Rattle.planner_quiet.specs.Order.{stuck, blocked}

-- ---- Bools
pub both : (a b : Bool) → (a && b) ≡ true → (a ≡ true) × (b ≡ true)
both a b e = (and_left a b e, and_right a b e)

pub clash : {b : Bool} → b ≡ true → b ≡ false → ⊥
clash t f = never _ t f

pub some_true : (w : ℕ) (f : ℕ → Bool) → some w f ≡ true → (i : ℕ) × (i < w) × (f i ≡ true)
unfolding some
some_true zero f e = absurd (clash e refl)
some_true (suc w) f e = go (some_true w (λ i. f (suc i))) (f zero) refl
  where
    later : (i : ℕ) × (i < w) × (f (suc i) ≡ true) → (i : ℕ) × (i < suc w) × (f i ≡ true)
    later r = (suc r.0, omega (arith, r.1), r.2)

    go : (some w (λ i. f (suc i)) ≡ true → (i : ℕ) × (i < w) × (f (suc i) ≡ true)) → (b : Bool) → f zero ≡ b → (i : ℕ) × (i < suc w) × (f i ≡ true)
    go rest true h = (zero, omega arith, h)
    go rest false h = later (rest (ap (λ (b : Bool). b || some w (λ i. f (suc i))) (sym h) ∙ e))

pub some_false : (w : ℕ) (f : ℕ → Bool) → some w f ≡ false → (i : ℕ) → i < w → f i ≡ false
unfolding some
some_false zero f e i h = absurd (omega arith)
some_false (suc w) f e zero h = or_false_l (f zero) (some w (λ i. f (suc i))) e
  where
    or_false_l : (a b : Bool) → (a || b) ≡ false → a ≡ false
    or_false_l true b q = q
    or_false_l false b q = refl
some_false (suc w) f e (suc i) h = some_false w (λ i. f (suc i)) (or_false_r (f zero) (some w (λ i. f (suc i))) e) i (omega arith)
  where
    or_false_r : (a b : Bool) → (a || b) ≡ false → b ≡ false
    or_false_r true b q = absurd (clash refl q)
    or_false_r false b q = q

-- ---- one pin
high_is : (d : Drive) → is_high d ≡ true → d ≡ High
unfolding is_high
high_is Low e = absurd (clash e refl)
high_is High e = refl
high_is Released e = absurd (clash e refl)

-- a pin that is driven high has the port's kind
high_kinds : (c o a b : Bool) → drive c o a b ≡ High → a ≡ b
unfolding drive open_drain
high_kinds true o a b e = absurd (released_high e)
  where
    released_high : Released ≡ High → ⊥
    released_high q = let z : ◌≡◌ {A = ℕ} 0 1 = cc in omega arith
high_kinds false false a b e = absurd (low_high e)
  where
    low_high : Low ≡ High → ⊥
    low_high q = let z : ◌≡◌ {A = ℕ} 0 1 = cc in omega arith
high_kinds false true true true e = refl
high_kinds false true true false e = absurd (let z : ◌≡◌ {A = ℕ} 0 1 = cc in omega arith)
high_kinds false true false true e = absurd (let z : ◌≡◌ {A = ℕ} 0 1 = cc in omega arith)
high_kinds false true false false e = refl

differ : (a b : Bool) → differs a b ≡ true → a ≡ b → ⊥
differ true b e q = clash (sym q) (not-true b e)
differ false b e q = clash e (sym q)

module _ (p : Shape) (k j : ℕ) where
  -- one write changes one register: not the port kinds and the pin kinds
  one : (s : Settings) (w : Write)
      → ((bits_of p (put p s w) k j).port_kind ≡ (bits_of p s k j).port_kind) ⊎ ((bits_of p (put p s w) k j).pin_kind ≡ (bits_of p s k j).pin_kind)
  one s w = go (eqb (2 * p.ports) (place_of p w)) refl
    where
      go : (b : Bool) → eqb (2 * p.ports) (place_of p w) ≡ b
          → ((bits_of p (put p s w) k j).port_kind ≡ (bits_of p s k j).port_kind) ⊎ ((bits_of p (put p s w) k j).pin_kind ≡ (bits_of p s k j).pin_kind)
      go true e =
          inr (ap (λ (b : ℕ). bit b j)
          (get_or-set_other s (place_of p w) (2 * p.ports + 1 + k) _ 0 (λ q. omega (arith, eqb-true (2 * p.ports) (place_of p w) e, q))))
      go false e = inl (ap (λ (b : ℕ). bit b k) (get_or-set_other s (place_of p w) (2 * p.ports) _ 0 (eqb-false (2 * p.ports) (place_of p w) e)))

  -- so a pin that stays high keeps its port's kind
  keeps : (s : Settings) (ws : List Write) → ((i : ℕ) → drive_of p (after p s ws i) k j ≡ High)
      → (bits_of p (run p s ws) k j).port_kind ≡ (bits_of p s k j).port_kind
  keeps s [] h = refl
  keeps s (w ∷ ws) h = keeps (put p s w) ws (λ i. h (suc i)) ∙ ⊎_elim (λ q. q) (λ q. new ∙ q ∙ sym old) (one s w)
    where
      old : (bits_of p s k j).port_kind ≡ (bits_of p s k j).pin_kind
      old = high_kinds _ _ _ _ (h 0)

      new : (bits_of p (put p s w) k j).port_kind ≡ (bits_of p (put p s w) k j).pin_kind
      new = high_kinds _ _ _ _ (h 1)

-- ---- the theorem: no list, of whatever writes, leads to the goal with each pin's drive its start's or its goal's throughout
pub no_list : (p : Shape) (start goal : Settings) (ws : List Write) → blocked p start goal ≡ true → run p start ws ≡ goal
    → ((k j : ℕ) → k < p.ports → j < p.width k → (i : ℕ) → (drive_of p (after p start ws i) k j ≡ drive_of p start k j) ⊎ (drive_of p (after p start ws i) k j ≡ drive_of p goal k j))
    → ⊥
no_list p start goal ws e reached either = port (some_true p.ports _ e)
  where
    pin : (k j : ℕ) → k < p.ports → j < p.width k → stuck (bits_of p start k j) (bits_of p goal k j) ≡ true → ⊥
    pin k j hk hj t =
        let ends = both _ _ t in
        let two = both _ _ ends.0 in
        let s : drive_of p start k j ≡ High = high_is _ two.0 in
        let g : drive_of p goal k j ≡ High = high_is _ two.1 in
        let kept = keeps p k j start ws (λ i. ⊎_elim (λ d. d ∙ s) (λ d. d ∙ g) (either k j hk hj i)) in
        differ _ _ ends.1 (sym kept ∙ ap (λ (x : Settings). (bits_of p x k j).port_kind) reached)

    port : (k : ℕ) × (k < p.ports) × (some (p.width k) (λ j. stuck (bits_of p start k j) (bits_of p goal k j)) ≡ true) → ⊥
    port x = bit_of (some_true (p.width x.0) _ x.2)
      where
        bit_of : (j : ℕ) × (j < p.width x.0) × (stuck (bits_of p start x.0 j) (bits_of p goal x.0 j) ≡ true) → ⊥
        bit_of y = pin x.0 y.0 x.1 y.1 y.2
