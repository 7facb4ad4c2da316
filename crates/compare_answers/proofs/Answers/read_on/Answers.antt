-- `Answers::read_on`: what is read lies behind what is there. Assumes nothing.
use Rattle.std.proofs.Common.{◌≡◌, ◌-◌, arith, ap, take, drop}
use Rattle.compare_answers.specs.Reading.{Reading}
use Rattle.compare_answers.proofs.Seen.{seen_more}
use Rattle.compare_answers.proofs.Answers.read_on.Goals as goal

pub returns-clause-kept : goal.returns-clause-kept
returns-clause-kept g c =
    let i = c.self.inside in
    let v : take (i.have - i.at) (drop i.at i.seen) ≡ c.args.self.now.left = ap (λ (r : Reading). r.left) c.self.view_is in
    rw (← v) (seen_more i.seen c.read.new.buf i.at i.have (65536 - i.have) c.in_ok-count.count c.self.invariant.0 (omega (arith, c.self.invariant.1, c.self.told)))
