use Rattle.std.proofs.Common.{arith}
use Rattle.placing.proofs.Steps.{reach_blocked}
use Rattle.placing.proofs.clash.reach_beyond.Goals as goal

pub returns-then-is_blocked : goal.returns-then-is_blocked
returns-then-is_blocked g c = grind (arith, reach_blocked)
