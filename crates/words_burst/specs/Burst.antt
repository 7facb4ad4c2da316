-- Many events in one call: when they are done, and what is refused before the first.
use Rattle.std.specs.Prelude.{true, false, cond, List, [], ◌∷◌, ◌≡◌, ℕ, eqb, length}
use Rattle.map.specs.Map.{part_of}
use Rattle.words_state.specs.Packed.{state_in, Packed}
use Rattle.words_events.specs.Events.{sent_of, eight}
use Rattle.words_runs.specs.Runs.{ran, Left}

-- a burst of part c: 8 with nothing lent written; by the rules where the words are packed; where they are not, 3 for the first event if one is asked
pub record Bursts (c : ℕ) (w bytes : List ℕ) (asked number : ℕ) (w' answers answers' done done' : List ℕ) : Type 0 where
  pub eighth : eight (length bytes) asked (length answers) ≡ true → (number ≡ 8) × (w' ≡ w) × (answers' ≡ answers) × (done' ≡ done)
  pub taken : eight (length bytes) asked (length answers) ≡ false → Packed c w
      → Left c (ran (part_of c) (state_in (part_of c) w) (sent_of bytes 0 asked)) number w' answers answers' done'
  pub broken : eight (length bytes) asked (length answers) ≡ false → (Packed c w → ⊥)
      → (number ≡ cond (eqb asked 0) 0 3) × (w' ≡ w) × (answers' ≡ answers) × (done' ≡ 0 ∷ [])
