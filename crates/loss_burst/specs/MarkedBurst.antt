-- Many events in one call with loss marks: the burst without marks, and what its events set.
use Rattle.std.specs.Prelude.{◌≡◌, Bool, true, false, ◌||◌, List, [], ◌∷◌, ℕ, eqb, length}
use Rattle.map.specs.Map.{part_of}
use Rattle.words_state.specs.Packed.{state_in, Packed}
use Rattle.words_events.specs.Events.{sent_of, eight}
use Rattle.words_burst.specs.Burst.{Bursts}
use Rattle.loss_rules.specs.Marks.{marks_fit}
use Rattle.loss_sets.specs.Sets.{marks_in}
use Rattle.loss_runs.specs.MarkedRuns.{marks_over}

-- 8 is tested first, then whether none is asked, and only then the marks
abbrev pub passes : (bad : Bool) → (asked : ℕ) → (fit : Bool) → Bool
passes bad asked fit = bad || (eqb asked 0 || fit)

-- A burst of part c with the marks m, which become m'. Unless the marks are refused it is a burst without marks; marks that are not fit are 3 for the first event.
-- The marks are those of the rules where the burst is done, and else stay.
pub record MarkedBursts (c : ℕ) (w m bytes : List ℕ) (asked number : ℕ) (w' m' answers answers' done done' : List ℕ) : Type 0 where
  pub same : passes (eight (length bytes) asked (length answers)) asked (marks_fit (part_of c) (marks_in m)) ≡ true → Bursts c w bytes asked number w' answers answers' done done'
  pub unfit : passes (eight (length bytes) asked (length answers)) asked (marks_fit (part_of c) (marks_in m)) ≡ false
      → (number ≡ 3) × (w' ≡ w) × (answers' ≡ answers) × (done' ≡ 0 ∷ [])
  pub marks_are : eight (length bytes) asked (length answers) ≡ false → marks_fit (part_of c) (marks_in m) ≡ true → Packed c w
      → marks_in m' ≡ marks_over (part_of c) (state_in (part_of c) w) (marks_in m) (sent_of bytes 0 asked)
  pub stay_eighth : eight (length bytes) asked (length answers) ≡ true → m' ≡ m
  pub stay_unfit : marks_fit (part_of c) (marks_in m) ≡ false → m' ≡ m
  pub stay_broken : (Packed c w → ⊥) → m' ≡ m
