-- `compare_pieces::meet`: at each turn what the lines so far come to and what the rest comes to are what the pieces come to (`meets_then`). Assumes nothing.
use Rattle.std.proofs.Common.{◌≡◌, ◌≤◌, ◌-◌, length}
use Rattle.std.specs.Prelude.{None}
use Rattle.compare_pieces.specs.Meeting.{Unless, Meets}
use Rattle.compare_pieces.proofs.Laws.{to_go}
use Rattle.compare_pieces.proofs.meet.Given as goal

abbrev pub invariant-loop-log : goal.invariant-loop-log
invariant-loop-log l = record {
  meets : Meets (Unless l.last) l.initial.log l.events l.answers l.met.verdict l.met.lines l.met.events l.met.answers l.log;
  line : (length l.line ≡ length l.initial.line) × (l.met.end ≤ length l.line);
  onward : l.met.verdict ≡ None → l.met.events ≡ 0 → l.met.answers ≡ 0;
}

abbrev pub decreases-loop-log : goal.decreases-loop-log
decreases-loop-log l = to_go l.met.verdict (length l.events - l.met.events)
