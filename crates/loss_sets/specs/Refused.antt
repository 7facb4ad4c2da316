-- What refuses marks, by the numbers that refusals go by.
use Rattle.std.specs.Prelude.{ℕ, Result, Ok, Err}
use Rattle.loss_sets.specs.declared.Refusal.{Refusal}
use Rattle.loss_sets.specs.declared.Refusal.TheVariants.{BadArgument, BrokenImage, NotHealthy}

abbrev pub number_of : Refusal → ℕ
number_of BadArgument = 2
number_of BrokenImage = 3
number_of NotHealthy = 13

-- the number of the refusal, 0 for none
abbrev pub refused_by : {A : Type 0} → Result A Refusal → ℕ
refused_by (Ok x) = 0
refused_by (Err e) = number_of e
