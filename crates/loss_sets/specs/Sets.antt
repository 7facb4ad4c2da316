-- The marks that the lent memory holds, and what making them promises.
use Rattle.std.specs.Prelude.{◌≡◌, List, ℕ, get_or}
use Rattle.map.specs.Map.{part_of}
use Rattle.loss_rules.specs.Marks.{Marks, marks, marks_refused, new_marks}

-- the pins that are marked, and each pin's healthy level
abbrev pub marks_in : List ℕ → Marks
marks_in m = marks (get_or m 0 0) (get_or m 1 0)

-- making marks of part c in the memory m, which leaves m': all are set; refused, the memory is as it was
pub record MakesMarks (c healthy number : ℕ) (m m' : List ℕ) : Type 0 where
  pub number_is : number ≡ marks_refused (part_of c) healthy
  pub made : number ≡ 0 → marks_in m' ≡ new_marks (part_of c) healthy
  pub refused : (number ≡ 0 → ⊥) → m' ≡ m
