-- What a C host sees of a step with loss marks, whatever is lent to it.
use Rattle.std.specs.Prelude.{◌≡◌, true, false, List, ℕ, eqb}
use Rattle.map.specs.Map.{part_of}
use Rattle.words_state.specs.Packed.{state_in, Packed}
use Rattle.host_words.specs.Host.{Told}
use Rattle.loss_rules.specs.Marks.{marks_fit, marked_step}
use Rattle.loss_sets.specs.Sets.{marks_in}

-- one event: with marks that fit what a step without marks is told; with others 3; refused, nothing lent is changed
pub record MarkedTold (c : ℕ) (w m : List ℕ) (kind arg number : ℕ) (w' m' told told' : List ℕ) : Type 0 where
  pub same : marks_fit (part_of c) (marks_in m) ≡ true → Told c w kind arg number w' told told'
  pub marks_are : Packed c w → marks_in m' ≡ (marked_step (part_of c) (state_in (part_of c) w) (marks_in m) kind arg).marks
  pub unfit : marks_fit (part_of c) (marks_in m) ≡ false → number ≡ 3
  pub unchanged : eqb number 0 ≡ false → (w' ≡ w) × (m' ≡ m) × (told' ≡ told)
