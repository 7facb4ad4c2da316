-- `Device::show`: 3 before 2; else the byte that the words show. Assumes nothing.
use mathlib.Core.Path.{◌≡◌, sym, ap, ap₂, ◌∙◌}
use mathlib.Core.Bool.{Bool, true, cond, not, ◌||◌}
use Prim.Native.Nat.{ℕ, ◌<◌}
use native.Mathlib.Omega.{arith}
use borrow.Author.Tests.{ne_eqb, eq-eqb, le-ltb}
use lib.Dec.{eqb}
use Rattle.std.specs.Prelude.{Result, Ok, Err}
use Rattle.map.specs.Map.{Part, kind_at, code, reserved, part_of}
use Rattle.map.specs.Map.Kind.{Reserved}
use Rattle.device_rules.specs.Device.{State, shown_in}
use Rattle.words_rows.specs.Rows.{row_at}
use Rattle.words_rows.proofs.Taken.{word_there, row_zero}
use Rattle.device_making.specs.declared.Refusal.{Refusal}
use Rattle.device_making.specs.declared.Refusal.TheVariants.{BadArgument, BadImage}
use Rattle.device.specs.Held.{state_in}
use Rattle.device.specs.declared.Device.{Device}
use Rattle.device.proofs.Device.show.Goals as goal

-- by whether the image may stand, and whether the number is reserved
abbrev told : Device → (n : ℕ) → (fits none : Bool) → Result ℕ Refusal
told d n fits none = cond fits (cond none (Err BadArgument) (Ok (shown_in (part_of d.part) (state_in d) n))) (Err BadImage)

-- a number over 7Fh counts as reserved
over : (p : Part) (n : ℕ) → 127 < n → reserved p n ≡ true
unfolding reserved
over p n h = ap (λ (t : Bool). not t || eqb (code (kind_at p n)) (code Reserved)) (le-ltb n 128 h)

pub returns-then-n-gt-LAST_NUMBER : goal.returns-then-n-gt-LAST_NUMBER
returns-then-n-gt-LAST_NUMBER c =
    let x = c.args in
    ap₂ (told x.self x.n) (sym c.in_ok-words.ensures.stands.2) (sym (over (part_of x.self.part) x.n c.if-n-gt-LAST_NUMBER.true))

pub returns-then-row-eq0 : goal.returns-then-row-eq0
returns-then-row-eq0 c =
    let x = c.args in
    let small : x.n < 128 = omega (arith, c.if-n-gt-LAST_NUMBER.false) in
    let row = c.row_of-row.ensures ∙ ap₂ (λ (part n : ℕ). row_at (part_of part) n) c.from.ensures c.from-2.ensures in
    let none = sym (row_zero _ x.self.part x.n small row) ∙ eq-eqb _ 0 c.if-row-eq0.true in
    ap₂ (told x.self x.n) (sym c.in_ok-words.ensures.stands.2) (sym none)

pub show-requires : goal.show-requires
show-requires c =
    let x = c.args in
    let small : x.n < 128 = omega (arith, c.if-n-gt-LAST_NUMBER.false) in
    let row = c.row_of-row.ensures ∙ ap₂ (λ (part n : ℕ). row_at (part_of part) n) c.from.ensures c.from-2.ensures in
    omega (arith, word_there _ x.self.part x.n small row)

pub returns : goal.returns
returns c =
    let x = c.args in
    let small : x.n < 128 = omega (arith, c.if-n-gt-LAST_NUMBER.false) in
    let row = c.row_of-row.ensures ∙ ap₂ (λ (part n : ℕ). row_at (part_of part) n) c.from.ensures c.from-2.ensures in
    let known = sym (row_zero _ x.self.part x.n small row) ∙ ne_eqb _ 0 c.if-row-eq0.false in
    let stands = c.in_ok-words.ensures.stands in
    let byte = c.show.ensures x.self.part x.n known row stands.0.fit ∙ ap (λ (s : State). shown_in (part_of x.self.part) s x.n) stands.1 in
    ap {A = ℕ} {B = Result ℕ Refusal} Ok byte ∙ ap₂ (told x.self x.n) (sym stands.2) (sym known)
