-- A verdict as a number: this is what C sees.
use Rattle.std.specs.Prelude.{ℕ}
use Rattle.compare_lines.specs.Comparing.{agrees, departs, ends_early, left_over}
use Rattle.compare_lines.specs.declared.Verdict.{Verdict}
use Rattle.compare_lines.specs.declared.Verdict.TheVariants.{Agrees, Departs, EndsEarly, LeftOver}

abbrev pub number_of : Verdict → ℕ
number_of Agrees = agrees
number_of Departs = departs
number_of EndsEarly = ends_early
number_of LeftOver = left_over
