-- What a contract sees of a file of answers: those that were read and are not done with, and whether no more follow.
use Rattle.std.specs.Prelude.{Bool, List, ℕ}

pub record Reading : Type 0 where
  pub left : List ℕ
  pub last : Bool
