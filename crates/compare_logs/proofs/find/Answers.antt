-- `compare_logs::find`: the header departs or is missing, or the rest decides. Assumes nothing.
use mathlib.Core.Path.{refl, ap}
use Rattle.compare_lines.specs.Verdicts.{number_of}
use Rattle.compare_pieces.proofs.Laws.{some_there}
use Rattle.compare_pieces.proofs.Whole.{header_there, header_some}
use Rattle.compare_logs.proofs.Laws.{finds_header, finds_rest, finds_as}
use Rattle.compare_logs.proofs.find.Goals as goal

pub judge-requires : goal.judge-requires
judge-requires c =
    let t = header_there c.put_header-end.ensures.0 refl in
    some_there t (header_some t)

pub returns-in-Ok : goal.returns-in-Ok
returns-in-Ok c =
    let l = c.line_at.ensures in
    finds_as (ap number_of l.as_given.0) l.as_given.1 (finds_rest c.args.events.now c.args.answers.now (header_there c.put_header-end.ensures.0 refl) c.in-Ok.ensures c.find_on-place.ensures.finds c.find_on-place.ensures.within l.line)

pub returns-in-Err : goal.returns-in-Err
returns-in-Err c =
    let l = c.line_at-in-Err.ensures in
    finds_as (ap number_of l.as_given.0) l.as_given.1 (finds_header c.args.events.now c.args.answers.now (header_there c.put_header-end.ensures.0 refl) c.in-Err.ensures l.line)
