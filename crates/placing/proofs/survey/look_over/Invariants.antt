use Rattle.placing.proofs.Surveys.{Surveyed}
use Rattle.placing.proofs.survey.look_over.Given as goal

abbrev pub invariant-loop-slot : goal.invariant-loop-slot
invariant-loop-slot g l = Surveyed g.D.Kind.Kind.meaning (g.D.SlotDevice.slots l.device) l.new l.count l.slot l.from l.to l.tied
