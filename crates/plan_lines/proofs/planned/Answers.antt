-- `plan_lines::planned`: a line that cannot be read (`line_unread`), or as the planner answers (`line_asked`). Assumes nothing.
use mathlib.Core.Path.{refl, sym, subst, ◌∙◌}
use Rattle.std.proofs.lemmas.Result.{err_from_is_err_and}
use Rattle.map.specs.Map.{part_of}
use Rattle.planner_promise.specs.Answer.{answer_of, Answers}
use Rattle.plan_lines.proofs.Parts.{few_bytes, roomy}
use Rattle.plan_lines.proofs.Answering.{line_unread, line_asked}
use Rattle.plan_lines.proofs.planned.Goals as goal

pub returns-then-not-is_whole : goal.returns-then-not-is_whole
returns-then-not-is_whole c =
    λ line held. subst (Answers 7 0 _ _) (sym (line_unread (part_of c.args.part) (few_bytes c.args.part) line c.args.r.now held (sym c.is_whole.ensures ∙ c.if-not-is_whole.true))) (refl, refl, refl)

pub returns-in_err-writes : goal.returns-in_err-writes
returns-in_err-writes c =
    let d = err_from_is_err_and c.from_residual.result c.from_residual.ensures.1 in
    rw (d.1, d.2) (λ line held.
    let p = part_of c.args.part in
    let whole = sym c.is_whole.ensures ∙ c.if-not-is_whole.false in
    let same = (λ i. answer_of (c.chip_of.ensures i) (c.kept.ensures i) (c.kept-2.ensures i) (c.told-pairs i)) ∙ roomy c.args.part _ _ ∙ line_asked p (few_bytes c.args.part) line c.args.r.now held whole in
    subst (Answers _ 0 _ _) same c.in_err-writes.ensures.exact)

pub returns : goal.returns
returns c = λ line held.
    let p = part_of c.args.part in
    let whole = sym c.is_whole.ensures ∙ c.if-not-is_whole.false in
    let same = (λ i. answer_of (c.chip_of.ensures i) (c.kept.ensures i) (c.kept-2.ensures i) (c.told-pairs i)) ∙ roomy c.args.part _ _ ∙ line_asked p (few_bytes c.args.part) line c.args.r.now held whole in
    subst (Answers 0 _ _ _) same c.in_ok-writes.ensures.exact
