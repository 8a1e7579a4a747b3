use Rattle.std.proofs.Common.{length}
use Rattle.kinds.proofs.dial.+patterns_meet.Given as goal

abbrev pub decreases-patterns_meet : goal.decreases-patterns_meet
decreases-patterns_meet l = length l.pattern
