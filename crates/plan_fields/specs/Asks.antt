-- How a line of any length is taken byte by byte, in bounded memory; `Lines` has what it says.
use Rattle.std.specs.Prelude.{◌≡◌, Bool, true, false, cond, ◌&&◌, List, [], ◌∷◌, ℕ, ◌+◌, ◌*◌, ◌%◌, eqb, ltb, set, take, replicate, Option, Some, None, is_none}
use Rattle.text.specs.Text.{digit_of}
use Rattle.plan_fields.specs.declared.Field.{Field}
use Rattle.plan_fields.specs.declared.Place.{Place}
use Rattle.plan_fields.specs.declared.Place.TheVariants.{Start, Goal, Nowhere}
use Rattle.plan_fields.specs.declared.Reading.{Reading}

abbrev pub field : List ℕ → (count : ℕ) → (high : Option ℕ) → Field
field bytes count high = record { bytes = bytes; count = count; high = high }

-- The bytes that are kept of a field.
abbrev pub kept_in : Field → List ℕ
kept_in f = take f.count f.bytes

-- A pair of digits is whole: the first seventeen bytes are kept, one more than the longest setting has.
unfoldable pub byte_taken : Field → (v : ℕ) → Field
byte_taken f v = cond (ltb f.count 17) (field (set f.bytes f.count v) (f.count + 1) None) (field f.bytes f.count None)

-- A digit: the first of a pair waits, the second makes it whole.
abbrev pub digit_behind : Option ℕ → Field → (d : ℕ) → Field
digit_behind None f d = field f.bytes f.count (Some d)
digit_behind (Some high) f d = byte_taken f (high % 16 * 16 + d)

unfoldable pub digit_taken : Field → (d : ℕ) → Field
digit_taken f d = digit_behind f.high f d

abbrev pub reading : (start goal : Field) → Place → Reading
reading start goal place = record { start = start; goal = goal; place = place }

-- Before the first byte of a line.
abbrev pub nothing : Field
nothing = field (replicate 17 0) 0 None

abbrev pub begun : Reading
begun = reading nothing nothing Start

-- The first tab ends the start; another spoils the line.
abbrev pub past_tab : Place → Place
past_tab Start = Goal
past_tab Goal = Nowhere
past_tab Nowhere = Nowhere

-- A digit goes to its field.
abbrev pub with_digit_at : Place → Reading → (d : ℕ) → Reading
with_digit_at Start r d = reading (digit_taken r.start d) r.goal r.place
with_digit_at Goal r d = reading r.start (digit_taken r.goal d) r.place
with_digit_at Nowhere r d = r

unfoldable pub with_digit : Reading → (d : ℕ) → Reading
with_digit r d = with_digit_at r.place r d

-- A byte of the line: a tab ends the first field, a digit goes to its field, and any other byte spoils the line.
unfoldable pub taken : Reading → (b : ℕ) → Reading
taken r b =
    cond (eqb b 0x09) (reading r.start r.goal (past_tab r.place))
    (cond (ltb (digit_of b) 16) (with_digit r (digit_of b)) (reading r.start r.goal Nowhere))

-- The line is two fields of whole pairs.
abbrev pub at_goal : Place → Bool
at_goal Start = false
at_goal Goal = true
at_goal Nowhere = false

abbrev pub whole_in : Reading → Bool
whole_in r = (at_goal r.place && is_none r.start.high) && is_none r.goal.high

-- All bytes of a part.
unfoldable pub taken_all : Reading → (part : List ℕ) → Reading
taken_all r [] = r
taken_all r (b ∷ part) = taken_all (taken r b) part

-- The reading is that of this text.
abbrev pub Holds : Reading → (text : List ℕ) → Type 0
Holds r text = r ≡ taken_all begun text

-- it is that of some text: `begin` and `grow` give no other
pub record Said (r : Reading) : Type 0 where
  pub text : List ℕ
  pub holds : Holds r text
