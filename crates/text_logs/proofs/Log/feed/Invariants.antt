-- `text_logs::Log::feed`: at each turn the answers written and those of the rest are all answers of the piece (`Onward`). Assumes nothing.
use Rattle.std.proofs.Common.{length}
use Rattle.text_logs.proofs.Feeding.{Onward}
use Rattle.text_logs.proofs.Log.feed.Given as goal

abbrev pub invariant-loop-rest : goal.invariant-loop-rest
invariant-loop-rest g l = Onward g.A.AnswersLines.answer g.A.AnswersLines.room l.initial.self l.piece l.initial.out l.at l.out l.rest l.self l.end

abbrev pub decreases-loop-rest : goal.decreases-loop-rest
decreases-loop-rest g l = length l.rest
