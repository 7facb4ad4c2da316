use borrow.Author.Rules.{rules}
use mathlib.Core.Path.{refl, sym, ◌∙◌}
use lib.ListN.{replicate}
use Rattle.probe_fields.proofs.Reading.{bytes_more, bytes_done, bytes_all}
use Rattle.probe_fields.proofs.file_in.Goals as goal

pub loop-i-preserved : goal.loop-i-preserved
loop-i-preserved c =
    rw c.byte_at.ensures (bytes_more c.args.line.now c.loop-i.file c.loop-i.i (search rules) ∙ c.loop-i.invariant)

pub returns : goal.returns
returns c =
    let line = c.args.line.now in
    sym (bytes_done line c.loop-i.file c.loop-i.i (search rules)) ∙ c.loop-i.invariant ∙ bytes_all line (replicate 128 0) refl
