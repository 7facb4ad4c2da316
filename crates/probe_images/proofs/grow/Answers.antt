-- `probe_images::grow`: of the bytes so far and these the first 395 are kept (`grown_holds`). Assumes nothing.
use mathlib.Core.Path.{◌≡◌}
use borrow.Author.Rules.{rules}
use lib.ListN.{length}
use Rattle.probe_images.proofs.Answered.{grown_holds}
use Rattle.probe_images.proofs.grow.Goals as goal

pub returns : goal.returns
returns c =
    let all : length c.args.line.held ≡ 395 = search rules in
    grown_holds c.args.line all c.keep-len.ensures _
