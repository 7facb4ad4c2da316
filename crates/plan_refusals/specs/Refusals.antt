-- The numbers of what a line of settings is refused for.
use Rattle.std.specs.Prelude.{ℕ, Option, Some, None, Result, Ok, Err}
use Rattle.planner_promise.specs.Promise.{number_of}
use Rattle.plan_refusals.specs.declared.LineRefusal.{LineRefusal}
use Rattle.plan_refusals.specs.declared.LineRefusal.TheVariants.{Unreadable, Planner}

abbrev pub line_number : LineRefusal → ℕ
line_number Unreadable = 7
line_number (Planner refusal) = number_of refusal

-- of a result, 0 where it was not refused
abbrev pub refused_as : {A : Type 0} → Result A LineRefusal → ℕ
refused_as (Ok a) = 0
refused_as (Err refusal) = line_number refusal

-- and of one that may be there
abbrev pub number_told : Option LineRefusal → ℕ
number_told None = 0
number_told (Some refusal) = line_number refusal
