-- A step with loss marks, told in numbers. Assumes nothing.
use mathlib.Core.Path.{◌≡◌, ap, ◌∙◌}
use mathlib.Core.List.{List}
use Prim.Native.Nat.{ℕ}
use Rattle.device_rules.specs.Answers.{refusal_number}
use Rattle.device_rules.specs.declared.Answer.{Answer}
use Rattle.host_words.specs.Host.{told_as}
use Rattle.host_words.proofs.Laws.{told_of, only_refused, left_told}
use Rattle.loss_marks.specs.Lent.{MarkedSteps}
use Rattle.loss_host.specs.MarkedHost.{MarkedTold}

module _ (c : ℕ) (w m : List ℕ) (kind arg number : ℕ) (w' m' told told' : List ℕ) where
  pub marked_told : (a : Answer) → MarkedSteps c w w' m m' kind arg a → number ≡ refusal_number a → told' ≡ told_as a told
      → MarkedTold c w m kind arg number w' m' told told'
  marked_told a s n t = record {
    same = λ f. told_of c w w' told told' kind arg number a (s.same f) n t;
    marks_are = s.marks_are;
    unfit = λ f. n ∙ ap refusal_number (s.unfit f);
    unchanged = λ h. only_refused number a n h (λ r e. ((s.refused r e).0, (s.refused r e).1, left_told a told r e t));
  }
