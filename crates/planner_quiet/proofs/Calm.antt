-- A test of a pin's states along a list of writes, that it decides what `Calm` says, and that writes that change nothing may be left out. Assumes nothing.
use mathlib.Core.Path.{◌≡◌, refl, sym, ap, ◌∙◌}
use mathlib.Core.Bool.{Bool, true, false, not, ◌&&◌, ◌||◌, cond, or_self}
use mathlib.Core.List.{List, [], ◌∷◌, ◌++◌}
use mathlib.Core.Logic.{◌⊎◌, inl, inr, ⊎_elim}
use Prim.Native.Nat.{ℕ, zero, suc, ◌≤◌, ◌<◌}
use native.Mathlib.Omega.{arith}
use borrow.Author.Tests.{eqb-true, ltb-true, ltb-false}
use lib.Dec.{eqb, ltb}
use lib.ListN.{get_or, set}
use lib.Seq.{set-get_or}
use Rattle.pins.specs.Pin.{Drive}
use Rattle.pins.specs.Pin.Drive.{Low, High, Released}
use Rattle.planner_quiet.specs.Settings.{Shape, Settings, PinBits, bits_of, drive_in, drive_of, Write, place_of, stored, put, after}
use Rattle.planner_quiet.specs.Order.{Calm}
use Rattle.planner_quiet.specs.Route.{needed}
use Rattle.planner_quiet.proofs.Blocked.{both, clash}

-- ---- drives
abbrev pub same : Drive → Drive → Bool
same Low Low = true
same Low High = false
same Low Released = false
same High Low = false
same High High = true
same High Released = false
same Released Low = false
same Released High = false
same Released Released = true

same_is : (a b : Drive) → same a b ≡ true → a ≡ b
same_is Low Low e = refl
same_is Low High e = absurd (clash e refl)
same_is Low Released e = absurd (clash e refl)
same_is High Low e = absurd (clash e refl)
same_is High High e = refl
same_is High Released e = absurd (clash e refl)
same_is Released Low e = absurd (clash e refl)
same_is Released High e = absurd (clash e refl)
same_is Released Released e = refl

or_holds : (a b : Bool) → (not a || b) ≡ true → a ≡ true → b ≡ true
or_holds true b e h = e
or_holds false b e h = absurd (clash h refl)

order : (a b : ℕ) → (a < b) ⊎ ((b < a) ⊎ (a ≡ b))
order a b = go (ltb a b) refl (ltb b a) refl
  where
    go : (u : Bool) → ltb a b ≡ u → (v : Bool) → ltb b a ≡ v → (a < b) ⊎ ((b < a) ⊎ (a ≡ b))
    go true e v q = inl (ltb-true a b e)
    go false e true q = inr (inl (ltb-true b a q))
    go false e false q = inr (inr (omega (arith, ltb-false a b e, ltb-false b a q)))

-- a write of what is there already
pub idle : (p : Shape) (s : Settings) (w : Write) → eqb (get_or s (place_of p w) 0) (stored p (place_of p w) w.value) ≡ true → put p s w ≡ s
idle p s w h =
    ap (λ (v : ℕ). set s (place_of p w) v) (sym (eqb-true (get_or s (place_of p w) 0) (stored p (place_of p w) w.value) h)) ∙ set-get_or s (place_of p w) 0

-- ---- the test: x until the drive is not x, then y; and an input, if `keep`
abbrev pub turned : Drive → Bool → PinBits → Bool
turned x t b = t || not (same (drive_in b) x)

abbrev pub ok : Drive → Bool → Bool → PinBits → Bool
ok y keep t b = (not t || same (drive_in b) y) && (not keep || b.configuration)

abbrev pub fine : (x y : Drive) (keep : Bool) → Bool → List PinBits → Bool
fine x y keep t [] = true
fine x y keep t (b ∷ bs) = ok y keep (turned x t b) b && fine x y keep (turned x t b) bs

module _ (x y : Drive) (keep : Bool) where
  -- what it says of the first state, and of the others
  parts : (t : Bool) (b : PinBits) (bs : List PinBits) → fine x y keep t (b ∷ bs) ≡ true
      → (turned x t b ≡ true → drive_in b ≡ y) × (keep ≡ true → b.configuration ≡ true) × (fine x y keep (turned x t b) bs ≡ true)
  parts t b bs e =
      let r = both (ok y keep (turned x t b) b) (fine x y keep (turned x t b) bs) e in
      let o = both (not (turned x t b) || same (drive_in b) y) (not keep || b.configuration) r.0 in
      (λ h. same_is _ _ (or_holds (turned x t b) _ o.0 h), or_holds keep _ o.1, r.1)

  -- to see the first state once more makes no difference
  pub again : (t : Bool) (b : PinBits) (bs : List PinBits) → fine x y keep (turned x t b) (b ∷ bs) ≡ fine x y keep t (b ∷ bs)
  again true b bs = refl
  again false b bs = ap (λ (u : Bool). ok y keep u b && fine x y keep u bs) (or_self (not (same (drive_in b) x)))

module _ (p : Shape) (k j : ℕ) where
  -- the pin's states after the first
  abbrev pub later : Settings → List Write → List PinBits
  later s [] = []
  later s (w ∷ ws) = bits_of p (put p s w) k j ∷ later (put p s w) ws

  abbrev at : Settings → List Write → ℕ → PinBits
  at s ws i = bits_of p (after p s ws i) k j

  module _ (x y : Drive) (keep : Bool) where
    abbrev pub Fine : Bool → Settings → List Write → Type 0
    Fine t s ws = fine x y keep t (bits_of p s k j ∷ later s ws) ≡ true

    keeps : (t : Bool) (s : Settings) (ws : List Write) → Fine t s ws → keep ≡ true → (i : ℕ) → (at s ws i).configuration ≡ true
    keeps t s [] e h zero = (parts x y keep t (bits_of p s k j) [] e).1 h
    keeps t s [] e h (suc i) = (parts x y keep t (bits_of p s k j) [] e).1 h
    keeps t s (w ∷ ws) e h zero = (parts x y keep t (bits_of p s k j) (later s (w ∷ ws)) e).1 h
    keeps t s (w ∷ ws) e h (suc i) =
        keeps (turned x t (bits_of p s k j)) (put p s w) ws (parts x y keep t (bits_of p s k j) (later s (w ∷ ws)) e).2 h i

    late : (s : Settings) (ws : List Write) → Fine true s ws → (i : ℕ) → drive_in (at s ws i) ≡ y
    late s [] e zero = (parts x y keep true (bits_of p s k j) [] e).0 refl
    late s [] e (suc i) = (parts x y keep true (bits_of p s k j) [] e).0 refl
    late s (w ∷ ws) e zero = (parts x y keep true (bits_of p s k j) (later s (w ∷ ws)) e).0 refl
    late s (w ∷ ws) e (suc i) = late (put p s w) ws (parts x y keep true (bits_of p s k j) (later s (w ∷ ws)) e).2 i

    -- the first state is x, and the rest is fine still, or all are y
    here : (s : Settings) (ws : List Write) → Fine false s ws
        → ((drive_of p s k j ≡ x) × (fine x y keep false (later s ws) ≡ true)) ⊎ ((l : ℕ) → drive_in (at s ws l) ≡ y)
    here s ws e = go (same (drive_of p s k j) x) refl
      where
        go : (b : Bool) → same (drive_of p s k j) x ≡ b
            → ((drive_of p s k j ≡ x) × (fine x y keep false (later s ws) ≡ true)) ⊎ ((l : ℕ) → drive_in (at s ws l) ≡ y)
        go true h =
            inl (same_is _ _ h, ap (λ (b : Bool). fine x y keep (not b) (later s ws)) (sym h) ∙ (parts x y keep false (bits_of p s k j) (later s ws) e).2)
        go false h =
            inr (late s ws
            (ap (λ (b : Bool). fine x y keep (not b) (bits_of p s k j ∷ later s ws)) (sym h) ∙ again x y keep false (bits_of p s k j) (later s ws) ∙ e))

    -- each state is x, or from there on all are y
    step : (s : Settings) (ws : List Write) → Fine false s ws → (i : ℕ)
        → (drive_in (at s ws i) ≡ x) ⊎ ((l : ℕ) → i ≤ l → drive_in (at s ws l) ≡ y)
    step s [] e zero = ⊎_elim (λ h. inl h.0) (λ all. inr (λ l q. all l)) (here s [] e)
    step s [] e (suc i) = ⊎_elim (λ h. inl h.0) (λ all. inr (λ l q. all l)) (here s [] e)
    step s (w ∷ ws) e zero = ⊎_elim (λ h. inl h.0) (λ all. inr (λ l q. all l)) (here s (w ∷ ws) e)
    step s (w ∷ ws) e (suc i) =
        ⊎_elim (λ h. ⊎_elim inl (λ f. inr (deeper f)) (step (put p s w) ws h.1 i)) (λ all. inr (λ l q. all l)) (here s (w ∷ ws) e)
      where
        deeper : ((l : ℕ) → i ≤ l → drive_in (at (put p s w) ws l) ≡ y) → (l : ℕ) → suc i ≤ l → drive_in (at s (w ∷ ws) l) ≡ y
        deeper f zero q = absurd (omega arith)
        deeper f (suc l) q = f l (omega arith)

    -- so it changes once at most
    lone : (s : Settings) (ws : List Write) → Fine false s ws → (a b : ℕ) → a < b
        → (drive_in (at s ws a) ≡ drive_in (at s ws (suc a)) → ⊥) → (drive_in (at s ws b) ≡ drive_in (at s ws (suc b)) → ⊥) → ⊥
    lone s ws e a b h ca cb =
        ⊎_elim
        (λ next. ⊎_elim (λ here. ca (here ∙ sym next)) (λ all. ca (all a (omega arith) ∙ sym (all (suc a) (omega arith)))) (step s ws e a))
        (λ all. cb (all b (omega arith) ∙ sym (all (suc b) (omega arith))))
        (step s ws e (suc a))

    -- ---- leaving out what changes nothing
    pub still : (t : Bool) (s : Settings) (ws : List Write) → Fine t s ws → Fine t s (needed p s ws)
    still t s [] e = e
    still t s (w ∷ ws) e =
        go (still (turned x t (bits_of p s k j)) (put p s w) ws (parts x y keep t (bits_of p s k j) (later s (w ∷ ws)) e).2)
        (eqb (get_or s (place_of p w) 0) (stored p (place_of p w) w.value)) refl
      where
        u : List Write
        u = needed p (put p s w) ws

        head : ok y keep (turned x t (bits_of p s k j)) (bits_of p s k j) ≡ true
        head = (both (ok y keep (turned x t (bits_of p s k j)) (bits_of p s k j)) (fine x y keep (turned x t (bits_of p s k j)) (later s (w ∷ ws))) e).0

        go : Fine (turned x t (bits_of p s k j)) (put p s w) u
            → (b : Bool) → eqb (get_or s (place_of p w) 0) (stored p (place_of p w) w.value) ≡ b
            → Fine t s (cond b [] (w ∷ []) ++ u)
        go r true h =
            sym (again x y keep t (bits_of p s k j) (later s u))
            ∙ ap (λ (z : Settings). fine x y keep (turned x t (bits_of p s k j)) (bits_of p z k j ∷ later z u)) (sym (idle p s w h)) ∙ r
        go r false h = ap (λ (b : Bool). b && fine x y keep (turned x t (bits_of p s k j)) (later s (w ∷ u))) head ∙ r

-- what the test says
pub calmly : (p : Shape) (k j : ℕ) (start goal : Settings) (ws : List Write)
    → Fine p k j (drive_of p start k j) (drive_of p goal k j) ((bits_of p start k j).configuration && (bits_of p goal k j).configuration) false start ws
    → Calm p start goal ws k j
calmly p k j start goal ws e = record {
  either = λ i. ⊎_elim inl (λ all. inr (all i (omega arith))) (step p k j x y keep start ws e i);
  once = λ a b ca cb. ⊎_elim (λ h. absurd (lone p k j x y keep start ws e a b h ca cb))
      (⊎_elim (λ h. absurd (lone p k j x y keep start ws e b a h cb ca)) (λ h. h)) (order a b);
  input = λ s g. keeps p k j x y keep false start ws e (ap (λ (b : Bool). b && (bits_of p goal k j).configuration) s ∙ g);
}
  where
    x : Drive
    x = drive_of p start k j

    y : Drive
    y = drive_of p goal k j

    keep : Bool
    keep = (bits_of p start k j).configuration && (bits_of p goal k j).configuration
