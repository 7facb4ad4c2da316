-- `watch_session::Watch::sign`: told or refused by the sign-off (`signed_says`, `unsigned_says`); refusal 7 where there is no device. Assumes nothing.
use mathlib.Core.Path.{sym, ◌∙◌}
use Rattle.loss_sets.specs.Sets.{marks_in}
use Rattle.loss_sets.proofs.Laws.{numbered, unrefused}
use Rattle.watch_session.proofs.Laws.{standing, no_device, sign_none, signed_room, signed_fits, signed_says, unsigned_says}
use Rattle.watch_session.proofs.Watch.sign.Goals as goal

pub returns-in_default : goal.returns-in_default
returns-in_default c =
    sign_none (marks_in c.self.inside.marks) (no_device c.self.inside.session (sym c.part.ensures ∙ c.in_default.is)) c.self.view_is c.refuse.ensures c.args.pin

pub put_marks-requires : goal.put_marks-requires
put_marks-requires c =
    let d = standing c.self.inside.marks c.self.view_is (sym c.part.ensures ∙ c.in-Some.is) c.words.ensures c.self.invariant in
    signed_room d c.args.pin c.sign_off-signed.ensures c.put_line-end.ensures c.requires

pub invariant_of-self-2 : goal.invariant_of-self-2
invariant_of-self-2 c =
    let d = standing c.self.inside.marks c.self.view_is (sym c.part.ensures ∙ c.in-Some.is) c.words.ensures c.self.invariant in
    signed_fits d c.args.pin c.sign_off-signed.ensures

pub returns : goal.returns
returns c =
    let d = standing c.self.inside.marks c.self.view_is (sym c.part.ensures ∙ c.in-Some.is) c.words.ensures c.self.invariant in
    signed_says d c.args.pin c.sign_off-signed.ensures c.put_line-end.ensures (unrefused _ c.in_default-signed.not-Err) c.put_marks.ensures

pub returns-in-Err : goal.returns-in-Err
returns-in-Err c =
    let d = standing c.self.inside.marks c.self.view_is (sym c.part.ensures ∙ c.in-Some.is) c.words.ensures c.self.invariant in
    unsigned_says d c.args.pin (rw c.in-Err.is at c.sign_off-signed.ensures) (numbered _) (rw c.number.ensures at c.refuse_sign.ensures)
