use Rattle.std.proofs.Common.{arith}
use Rattle.placing.proofs.Steps.{clear_more}
use Rattle.placing.proofs.clash.reach_of.Goals as goal

pub loop-later-preserved : goal.loop-later-preserved
loop-later-preserved g c = grind (arith, clear_more)
