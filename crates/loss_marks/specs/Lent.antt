-- What a step with marks and a sign-off promise, of the words of a device and the marks beside them.
use Rattle.std.specs.Prelude.{◌≡◌, true, false, List, ℕ}
use Rattle.map.specs.Map.{part_of}
use Rattle.device_rules.specs.declared.Answer.{Answer}
use Rattle.device_rules.specs.declared.Answer.TheVariants.{Refused}
use Rattle.words_state.specs.Packed.{state_in, Packed, Steps}
use Rattle.loss_rules.specs.Marks.{marks_fit, marked_step, sign_off}
use Rattle.loss_sets.specs.Sets.{marks_in}

-- A step from the words w to w' with the marks m, which become m': with marks that fit it is the device's own step, and the marks are those of the rules;
-- with others it is refused with 3; refused, nothing is changed.
pub record MarkedSteps (c : ℕ) (w w' m m' : List ℕ) (kind arg : ℕ) (answer : Answer) : Type 0 where
  pub same : marks_fit (part_of c) (marks_in m) ≡ true → Steps c w w' kind arg answer
  pub marks_are : Packed c w → marks_in m' ≡ (marked_step (part_of c) (state_in (part_of c) w) (marks_in m) kind arg).marks
  pub unfit : marks_fit (part_of c) (marks_in m) ≡ false → answer ≡ Refused 3
  pub refused : (n : ℕ) → answer ≡ Refused n → (w' ≡ w) × (m' ≡ m)

-- Sign-off of a pin: by the rules where the words are packed; refused with 3 where they are not; refused, the marks are as they were.
pub record Signs (c : ℕ) (w m m' : List ℕ) (pin number : ℕ) : Type 0 where
  pub number_is : Packed c w → number ≡ (sign_off (part_of c) (state_in (part_of c) w) (marks_in m) pin).refusal
  pub marks_are : Packed c w → marks_in m' ≡ (sign_off (part_of c) (state_in (part_of c) w) (marks_in m) pin).marks
  pub broken : (Packed c w → ⊥) → number ≡ 3
  pub refused : (number ≡ 0 → ⊥) → m' ≡ m
