use Rattle.placing.specs.Passing.{NonePasses}
use Rattle.placing.proofs.scanning.past_last_passing.Given as goal

abbrev pub invariant-loop-last : goal.invariant-loop-last
invariant-loop-last g l = NonePasses (goal.F-post g l.passes) (g.D.SlotDevice.slots l.device) l.last l.end
