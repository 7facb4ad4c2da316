-- `power_on`: refused as making a device is; else power-on, of what is not refused (`unrefused`). Assumes nothing.
use mathlib.Core.Path.{◌≡◌, sym, ap, ◌∙◌}
use Prim.Native.Nat.{◌%◌}
use native.Mathlib.Nat.{mod-lt, mod-eq_of_lt}
use native.Mathlib.Omega.{arith}
use Rattle.map.specs.Map.{part_of}
use Rattle.device_making.specs.Refused.{refused_by}
use Rattle.device_making.proofs.Unrefused.{unrefused, numbered}
use Rattle.host_words.proofs.Laws.{made, not_made}
use Rattle.host_calls.proofs.power_on.Goals as goal

pub power_on-requires : goal.power_on-requires
power_on-requires c =
    let x = c.args in
    let fits = unrefused (part_of x.part) x.choice x.levels x.number (sym (ap refused_by c.in-Ok.is) ∙ c.allows.ensures) in
    (c.requires, mod-lt x.choice (omega arith), fits.1, fits.2)

pub returns-in-Ok : goal.returns-in-Ok
returns-in-Ok c =
    let x = c.args in
    let passed = sym (ap refused_by c.in-Ok.is) ∙ c.allows.ensures in
    let fits = unrefused (part_of x.part) x.choice x.levels x.number passed in
    let same : x.choice % 4 ≡ x.choice = mod-eq_of_lt fits.0 in
    made _ _ _ _ _ _ passed (rw same at c.power_on.ensures)

pub returns-in-Err : goal.returns-in-Err
returns-in-Err c =
    let number = c.from.ensures ∙ c.number.ensures in
    not_made _ _ _ _ _ _ (number ∙ sym (ap refused_by c.in-Err.is) ∙ c.allows.ensures) (λ e. numbered _ (sym number ∙ e))
