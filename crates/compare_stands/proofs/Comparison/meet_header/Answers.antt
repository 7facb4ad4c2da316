-- `Comparison::meet_header`: the header is a line. Assumes nothing.
use Rattle.std.proofs.Common.{◌≡◌, ℕ, arith}
use Rattle.std.proofs.lemmas.List.{length-take}
use Rattle.trace_logs.specs.Logs.{header}
use Rattle.compare_stands.proofs.Comparison.meet_header.Goals as goal

pub judge-requires : goal.judge-requires
unfolding header
judge-requires g c =
    let e : c.put_header-end.result ≡ 20 = c.put_header-end.ensures.0.ends in
    omega (arith, length-take {A = ℕ})
