-- `Answers::advance`: what is left begins later. Assumes nothing.
use Rattle.std.proofs.Common.{◌≡◌, ◌-◌, arith, ap, ◌∙◌, take, drop, length}
use Rattle.compare_answers.specs.Reading.{Reading}
use Rattle.compare_answers.proofs.Seen.{seen_after, seen_long}
use Rattle.compare_answers.proofs.Answers.advance.Goals as goal

pub returns : goal.returns
returns g c =
    let i = c.self.inside in
    let v : take (i.have - i.at) (drop i.at i.seen) ≡ c.args.self.now.left = ap (λ (r : Reading). r.left) c.self.view_is in
    let long = seen_long i.seen i.at i.have c.self.invariant.0 (omega (arith, c.self.invariant.1, c.self.told)) in (
      seen_after i.seen i.at i.have c.args.count (omega (arith, c.requires, ap length v, long)) ∙ ap (drop c.args.count) v,
      ap (λ (r : Reading). r.last) c.self.view_is,
    )
