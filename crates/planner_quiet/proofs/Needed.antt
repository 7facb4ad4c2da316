-- What `needed` leaves of a list: it leads to the same settings, each write changes its register, and it is no longer. Assumes nothing.
use mathlib.Core.Path.{◌≡◌, refl, sym, ap, subst, ◌∙◌}
use mathlib.Core.Bool.{Bool, true, false, cond}
use mathlib.Core.List.{List, [], ◌∷◌, ◌++◌}
use Prim.Native.Nat.{ℕ, zero, suc, ◌≤◌, ◌<◌}
use native.Mathlib.Omega.{arith}
use borrow.Author.Tests.{eqb-false, eq-eqb}
use lib.Dec.{eqb}
use lib.ListN.{get_or, length}
use Rattle.planner_quiet.specs.Settings.{Shape, Settings, Write, place_of, stored, put, run}
use Rattle.planner_quiet.specs.Order.{Good}
use Rattle.planner_quiet.specs.Route.{needed}
use Rattle.planner_quiet.proofs.Calm.{idle}

-- every write of a list
abbrev pub All : (P : Write → Type 0) → List Write → Type 0
All P [] = Unit {0}
All P (w ∷ ws) = P w × All P ws

-- it is a byte to one of the registers
abbrev pub SaneWrite : Shape → Write → Type 0
SaneWrite p w = (place_of p w < length p.registers) × (w.value < 256)

-- it is there already
abbrev pub IdleWrite : Shape → Settings → Write → Type 0
IdleWrite p s w = stored p (place_of p w) w.value ≡ get_or s (place_of p w) 0

module _ (p : Shape) where
  -- the test of `needed`
  abbrev there : Settings → Write → Bool
  there s w = eqb (get_or s (place_of p w) 0) (stored p (place_of p w) w.value)

  pub run_needed : (s : Settings) (ws : List Write) → run p s (needed p s ws) ≡ run p s ws
  run_needed s [] = refl
  run_needed s (w ∷ ws) = go (there s w) refl ∙ run_needed (put p s w) ws
    where
      u : List Write
      u = needed p (put p s w) ws

      go : (b : Bool) → there s w ≡ b → run p s (cond b [] (w ∷ []) ++ u) ≡ run p (put p s w) u
      go true h = ap (λ (z : Settings). run p z u) (sym (idle p s w h))
      go false h = refl

  pub length_needed : (s : Settings) (ws : List Write) → length (needed p s ws) ≤ length ws
  length_needed s [] = omega arith
  length_needed s (w ∷ ws) = go (there s w) (length_needed (put p s w) ws)
    where
      u : List Write
      u = needed p (put p s w) ws

      go : (b : Bool) → length u ≤ length ws → length (cond b [] (w ∷ []) ++ u) ≤ suc (length ws)
      go true h = omega arith
      go false h = omega arith

  pub good_needed : (s : Settings) (ws : List Write) → All (SaneWrite p) ws → (i : ℕ) → i < length (needed p s ws) → Good p s (needed p s ws) i
  good_needed s [] d i h = absurd (omega arith)
  good_needed s (w ∷ ws) d i h = go (there s w) refl i h (good_needed (put p s w) ws d.1)
    where
      u : List Write
      u = needed p (put p s w) ws

      go : (b : Bool) → there s w ≡ b → (i : ℕ) → i < length (cond b [] (w ∷ []) ++ u)
          → ((i : ℕ) → i < length u → Good p (put p s w) u i) → Good p s (cond b [] (w ∷ []) ++ u) i
      go true e i h r = subst (λ (z : Settings). Good p z u i) (idle p s w e) (r i h)
      go false e zero h r = record { known = d.0.0; byte = d.0.1; changes = eqb-false _ _ e }
      go false e (suc i) h r = let g = r i (omega arith) in record { known = g.known; byte = g.byte; changes = g.changes }

  -- a list of which every write is there already leaves nothing
  pub none_needed : (s : Settings) (ws : List Write) → All (IdleWrite p s) ws → needed p s ws ≡ []
  none_needed s [] d = refl
  none_needed s (w ∷ ws) d =
      ap (λ (b : Bool). cond b [] (w ∷ []) ++ needed p (put p s w) ws) e
      ∙ ap (λ (z : Settings). needed p z ws) (idle p s w e) ∙ none_needed s ws d.1
    where
      e : there s w ≡ true
      e = eq-eqb (get_or s (place_of p w) 0) (stored p (place_of p w) w.value) (sym d.0)
