-- `text_logs::Log::first_line`: with no newline all of the piece is carried on, else its first line is answered. Assumes nothing.
use Rattle.std.proofs.Common.{◌∙◌, ◌++◌, ap, arith, length, length-take, rules}
use Rattle.text_logs.specs.Pieces.{Reading, reading, grown}
use Rattle.text_logs.proofs.Feeding.{none_gives, line_gives}
use Rattle.text_logs.proofs.Log.first_line.Goals as goal

pub invariant_of-self : goal.invariant_of-self
invariant_of-self g c = omega (arith, ap length c.grow.ensures, length-take 33 (c.self.inside.begun.items ++ c.args.piece.now))

pub returns-then-line-clause-gives : goal.returns-then-line-clause-gives
returns-then-line-clause-gives g c =
    let f = c.first_line-line.ensures in
    none_gives g.A.AnswersLines.answer _ _ _ f.ends (f.unended c.if-line.true) _ _
    (ap (reading c.self.inside.answers) c.grow.ensures ∙ ap (λ (r : Reading g.row.A.Denot). grown r c.args.piece.now) c.self.view_is)

pub returns-clause-gives : goal.returns-clause-gives
returns-clause-gives g c =
    let f = c.first_line-line.ensures in
    line_gives g.A.AnswersLines.answer _ _ _ f.ends (f.ended (search rules)) c.end_line.ensures
