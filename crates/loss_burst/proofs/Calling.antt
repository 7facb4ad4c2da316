-- The call: refusal 8, nothing asked, marks or an image that are refused, a run. Assumes nothing.
use mathlib.Core.Path.{◌≡◌, refl, sym, ap, ap₂, ◌∙◌}
use mathlib.Core.Bool.{Bool, true, false, ◌||◌}
use mathlib.Core.List.{List, [], ◌∷◌}
use Prim.Native.Nat.{ℕ}
use borrow.Author.Tests.{eq-eqb, ne_eqb}
use lib.ListN.{length}
use Rattle.bits.proofs.Decide.{clash}
use Rattle.map.specs.Map.{part_of}
use Rattle.words_state.specs.Packed.{state_in, Packed}
use Rattle.words_events.specs.Events.{sent_of, eight}
use Rattle.words_runs.specs.Runs.{ran, Left}
use Rattle.words_burst.proofs.Calling as burst
use Rattle.loss_rules.specs.Marks.{marks_fit}
use Rattle.loss_sets.specs.Sets.{marks_in}
use Rattle.loss_runs.specs.MarkedRuns.{marks_over}
use Rattle.loss_burst.specs.MarkedBurst.{passes, MarkedBursts}

module _ (c : ℕ) (w m bytes : List ℕ) (asked : ℕ) (answers done : List ℕ) where
  abbrev fits : Bool
  fits = marks_fit (part_of c) (marks_in m)

  abbrev bad : Bool
  bad = eight (length bytes) asked (length answers)

  pub eighth : bad ≡ true → MarkedBursts c w m bytes asked 8 w m answers answers done done
  eighth e = record {
    same = λ h. burst.bad c w bytes asked answers done e;
    unfit = λ h. clash _ (ap (λ (t : Bool). passes t asked fits) e) h;
    marks_are = λ h. clash _ e h;
    stay_eighth = λ h. refl;
    stay_unfit = λ h. refl;
    stay_broken = λ z. refl;
  }

  module _ (e : bad ≡ false) where
    pub nothing : asked ≡ 0 → MarkedBursts c w m bytes asked 0 w m answers answers done (0 ∷ [])
    unfolding marks_over sent_of
    nothing z = record {
      same = λ h. burst.nothing c w bytes asked answers done e z;
      unfit = λ h. clash _ (ap₂ (λ (b n : Bool). b || (n || fits)) e (eq-eqb asked 0 z)) h;
      marks_are = λ h f k. ap (λ (n : ℕ). marks_over (part_of c) (state_in (part_of c) w) (marks_in m) (sent_of bytes 0 n)) (sym z);
      stay_eighth = λ h. refl;
      stay_unfit = λ h. refl;
      stay_broken = λ k. refl;
    }

    module _ (some : asked ≡ 0 → ⊥) where
      to_marks : passes bad asked fits ≡ fits
      to_marks = ap₂ (λ (b n : Bool). b || (n || fits)) e (ne_eqb asked 0 some)

      pub unfit : false ≡ fits → MarkedBursts c w m bytes asked 3 w m answers answers done (0 ∷ [])
      unfit f = record {
        same = λ h. clash _ h (to_marks ∙ sym f);
        unfit = λ h. (refl, refl, refl, refl);
        marks_are = λ h g k. clash _ g (sym f);
        stay_eighth = λ h. refl;
        stay_unfit = λ h. refl;
        stay_broken = λ z. refl;
      }

      module _ (f : true ≡ fits) where
        pub no_image : (Packed c w → ⊥) → MarkedBursts c w m bytes asked 3 w m answers answers done (0 ∷ [])
        no_image z = record {
          same = λ h. burst.no_image c w bytes asked answers done e some z;
          unfit = λ h. clash _ (to_marks ∙ sym f) h;
          marks_are = λ h g k. absurd (z k);
          stay_eighth = λ h. refl;
          stay_unfit = λ h. refl;
          stay_broken = λ z. refl;
        }

        pub image : Packed c w → {n : ℕ} {w' m' answers' done' : List ℕ} → Left c (ran (part_of c) (state_in (part_of c) w) (sent_of bytes 0 asked)) n w' answers answers' done'
            → marks_in m' ≡ marks_over (part_of c) (state_in (part_of c) w) (marks_in m) (sent_of bytes 0 asked)
            → MarkedBursts c w m bytes asked n w' m' answers answers' done done'
        image k l over = record {
          same = λ h. burst.image c w bytes asked answers done e some k l;
          unfit = λ h. clash _ (to_marks ∙ sym f) h;
          marks_are = λ h g k. over;
          stay_eighth = λ h. clash _ h e;
          stay_unfit = λ h. clash _ (sym f) h;
          stay_broken = λ z. absurd (z k);
        }
