-- What is taken of a line is what it says, its fields to their seventeenth byte. Assumes nothing.
use mathlib.Core.Path.{◌≡◌, refl, ap, sym, ◌∙◌}
use mathlib.Core.Bool.{Bool, true, false}
use mathlib.Core.List.{List, [], ◌∷◌, ◌++◌, append_assoc, append-nil}
use Prim.Native.Nat.{ℕ, ◌≤◌, ◌<◌}
use native.Mathlib.Omega.{arith}
use borrow.Author.Tests.{lt-ltb, le-ltb, ltb-true, ltb-false}
use lib.Dec.{ltb}
use lib.ListN.{length, take, length-set, length-take}
use lib.Seq.{take_all}
use Rattle.std.proofs.lemmas.List.{take-append-le, take_more_set}
use Rattle.plan_fields.specs.declared.Field.{Field}
use Rattle.plan_fields.specs.declared.Reading.{Reading}
use Rattle.plan_fields.specs.Asks.{byte_taken, kept_in, nothing, whole_in, Holds}
use Rattle.plan_fields.specs.Lines.{readable, start_in, goal_in}
use Rattle.plan_fields.proofs.Taken.{bytes_taken, start_ended}

-- ---- the bytes that are kept
-- a field has its array, and counts no further
record Counted (f : Field) : Type 0 where
  long : length f.bytes ≡ 17
  few : f.count ≤ 17

module _ (f : Field) (h : Counted f) (v : ℕ) where
  byte_on : f.count < 17 → Counted (byte_taken f v) × (kept_in (byte_taken f v) ≡ kept_in f ++ v ∷ [])
  unfolding byte_taken
  byte_on k =
      rw (lt-ltb f.count 17 k) (
        record { long = length-set f.bytes f.count v ∙ h.long; few = omega (arith, k) },
        take_more_set f.bytes f.count v (omega (arith, k, h.long)),
      )

  byte_full : 17 ≤ f.count → Counted (byte_taken f v) × (kept_in (byte_taken f v) ≡ kept_in f)
  unfolding byte_taken
  byte_full k = rw (le-ltb f.count 17 k) (record { long = h.long; few = h.few }, refl)

-- one byte more
kept_on : (v : ℕ) (vs : List ℕ) (f : Field) → Counted f → ((g : Field) → Counted g → kept_in (bytes_taken g vs) ≡ take 17 (kept_in g ++ vs))
    → kept_in (bytes_taken f (v ∷ vs)) ≡ take 17 (kept_in f ++ v ∷ vs)
kept_on v vs f h later = go (ltb f.count 17) refl
  where
    go : (t : Bool) → ltb f.count 17 ≡ t → kept_in (bytes_taken f (v ∷ vs)) ≡ take 17 (kept_in f ++ v ∷ vs)
    go true t =
        let on = byte_on f h v (ltb-true f.count 17 t) in
        later (byte_taken f v) on.0 ∙ ap (λ (l : List ℕ). take 17 (l ++ vs)) on.1 ∙ ap (take 17) (append_assoc (kept_in f) (v ∷ []) vs)
    go false t =
        let on = byte_full f h v (ltb-false f.count 17 t) in
        let full : 17 ≤ length (kept_in f) = omega (arith, h.long, ltb-false f.count 17 t, length-take f.count f.bytes) in
        later (byte_taken f v) on.0 ∙ ap (λ (l : List ℕ). take 17 (l ++ vs)) on.1 ∙ take-append-le 17 (kept_in f) vs full ∙ sym (take-append-le 17 (kept_in f) (v ∷ vs) full)

kept : (vs : List ℕ) (f : Field) → Counted f → kept_in (bytes_taken f vs) ≡ take 17 (kept_in f ++ vs)
kept [] f h = sym (ap (take 17) (append-nil (kept_in f)) ∙ take_all 17 (kept_in f) (omega (arith, h.few, length-take f.count f.bytes)))
kept (v ∷ vs) f h = kept_on v vs f h (λ g k. kept vs g k)

kept_all : (vs : List ℕ) → kept_in (bytes_taken nothing vs) ≡ take 17 vs
kept_all vs = kept vs nothing (record { long = refl; few = omega arith })

-- ---- the line
module _ (line : List ℕ) (r : Reading) (held : Holds r line) where
  pub whole_heard : whole_in r ≡ readable line
  whole_heard = ap whole_in held ∙ (start_ended line nothing refl).whole

  module _ (h : readable line ≡ true) where
    pub start_heard : kept_in r.start ≡ take 17 (start_in line)
    start_heard = ap (λ (x : Reading). kept_in x.start) (held ∙ (start_ended line nothing refl).is h) ∙ kept_all (start_in line)

    pub goal_heard : kept_in r.goal ≡ take 17 (goal_in line)
    goal_heard = ap (λ (x : Reading). kept_in x.goal) (held ∙ (start_ended line nothing refl).is h) ∙ kept_all (goal_in line)
