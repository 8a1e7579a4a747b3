use Rattle.std.proofs.Common.{◌-◌}
use Rattle.placing.proofs.Steps.{Clear}
use Rattle.placing.proofs.clash.reach_of.Given as goal

abbrev pub invariant-loop-later : goal.invariant-loop-later
invariant-loop-later g l = Clear g.D.Kind.Kind.meaning (g.D.SlotDevice.slots l.device) l.slot l.later

abbrev pub decreases-loop-later : goal.decreases-loop-later
decreases-loop-later g l = l.last - l.later
