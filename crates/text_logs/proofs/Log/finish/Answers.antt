-- `text_logs::Log::finish`: nothing where no line has begun, else its answer. Assumes nothing.
use Rattle.std.proofs.Common.{◌≡◌, ◌≤◌, ap, length, arith, rules}
use Rattle.text_logs.specs.Pieces.{Reading}
use Rattle.text_logs.proofs.Feeding.{none_ends, line_ends}
use Rattle.text_logs.proofs.Log.finish.Goals as goal

pub returns-then-is_empty-clause-gives : goal.returns-then-is_empty-clause-gives
returns-then-is_empty-clause-gives g c =
    let few : length c.self.inside.begun.items ≤ 33 = c.self.invariant in
    let none : length c.self.inside.begun.items ≡ 0 = search rules in
    let same = ap (λ (r : Reading g.row.A.Denot). length r.begun) c.self.view_is in
    none_ends g.A.AnswersLines.answer _ (omega (arith, few, same)) (omega (arith, none, same)) _ _

pub returns-clause-gives : goal.returns-clause-gives
returns-clause-gives g c =
    let few : length c.self.inside.begun.items ≤ 33 = c.self.invariant in
    let some : length c.self.inside.begun.items ≡ 0 → ⊥ = search rules in
    let same = ap (λ (r : Reading g.row.A.Denot). length r.begun) c.self.view_is in
    line_ends g.A.AnswersLines.answer _ (omega (arith, few, same)) (λ z. some (omega (arith, z, same))) c.end_line.ensures
