-- The call: refusal 8, nothing asked, a broken image, a run. Assumes nothing.
use mathlib.Core.Path.{◌≡◌, refl, sym, ap, subst}
use mathlib.Core.Bool.{Bool, true, false, cond, not, ◌||◌}
use mathlib.Core.List.{List, [], ◌∷◌}
use Prim.Native.Nat.{ℕ, ◌*◌, ◌/◌, ◌%◌, ◌≤◌}
use native.Mathlib.Nat.{div-add-mod'}
use native.Mathlib.Omega.{arith}
use borrow.Author.Tests.{eq-eqb, ne_eqb, ltb-false}
use lib.Dec.{eqb, ltb}
use lib.ListN.{length}
use Rattle.bits.proofs.Decide.{clash}
use Rattle.map.specs.Map.{part_of}
use Rattle.words_state.specs.Packed.{state_in, Packed}
use Rattle.words_events.specs.Events.{sent_of, eight}
use Rattle.words_runs.specs.Runs.{ran, Left}
use Rattle.words_burst.specs.Burst.{Bursts}

or_left : (a b : Bool) → (a || b) ≡ false → a ≡ false
or_left true b h = h
or_left false b h = refl

or_right : (a b : Bool) → (a || b) ≡ false → b ≡ false
or_right true b h = clash true refl h
or_right false b h = h

-- not refused with 8: there are bytes for every event, and room for every answer
pub enough : (bytes asked room : ℕ) → eight bytes asked room ≡ false → (12 * asked ≤ bytes) × (2 * asked ≤ room)
enough bytes asked room h =
    let few : asked ≤ bytes / 12 = ltb-false (bytes / 12) asked (or_left (ltb (bytes / 12) asked) _ rest) in
    let room : 2 * asked ≤ room = ltb-false room (2 * asked) (or_right (ltb 512 asked) _ (or_right (ltb (bytes / 12) asked) _ rest)) in
    (omega (arith, div-add-mod' bytes 12), room)
  where
    rest : (ltb (bytes / 12) asked || (ltb 512 asked || ltb room (2 * asked))) ≡ false
    rest = or_right (not (eqb (bytes % 12) 0)) _ h

module _ (c : ℕ) (w bytes : List ℕ) (asked : ℕ) (answers done : List ℕ) where
  pub bad : eight (length bytes) asked (length answers) ≡ true → Bursts c w bytes asked 8 w answers answers done done
  bad e = record { eighth = λ h. (refl, refl, refl, refl); taken = λ h. clash _ e h; broken = λ h. clash _ e h }

  module _ (e : eight (length bytes) asked (length answers) ≡ false) where
    pub nothing : asked ≡ 0 → Bursts c w bytes asked 0 w answers answers done (0 ∷ [])
    unfolding ran sent_of
    nothing z = record {
      eighth = λ h. clash _ h e;
      taken = λ h k. subst (λ (n : ℕ). Left c (ran (part_of c) (state_in (part_of c) w) (sent_of bytes 0 n)) 0 w answers answers (0 ∷ [])) (sym z) (none k);
      broken = λ h y. (ap (λ (t : Bool). cond {A = ℕ} t 0 3) (sym (eq-eqb asked 0 z)), refl, refl, refl);
    }
      where
        none : Packed c w → Left c (ran (part_of c) (state_in (part_of c) w) (sent_of bytes 0 0)) 0 w answers answers (0 ∷ [])
        none k = record { number_is = refl; packed = k; after = refl; told = refl; counted = refl }

    module _ (some : asked ≡ 0 → ⊥) where
      pub no_image : (Packed c w → ⊥) → Bursts c w bytes asked 3 w answers answers done (0 ∷ [])
      no_image z = record {
        eighth = λ h. clash _ h e;
        taken = λ h k. absurd (z k);
        broken = λ h y. (ap (λ (t : Bool). cond {A = ℕ} t 0 3) (sym (ne_eqb asked 0 some)), refl, refl, refl);
      }

      pub image : Packed c w → {n : ℕ} {w' answers' done' : List ℕ} → Left c (ran (part_of c) (state_in (part_of c) w) (sent_of bytes 0 asked)) n w' answers answers' done'
          → Bursts c w bytes asked n w' answers answers' done done'
      image k l = record { eighth = λ h. clash _ h e; taken = λ h k. l; broken = λ h z. absurd (z k) }
