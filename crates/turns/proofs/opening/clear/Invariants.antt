use Rattle.std.proofs.Common.{length}
use Rattle.turns.proofs.Clears.{Clearing}
use Rattle.turns.proofs.opening.clear.Given as goal

abbrev pub invariant-loop-slot : goal.invariant-loop-slot
invariant-loop-slot g l = Clearing g.D.SlotDevice l.initial.device l.device l.slot (length (g.D.SlotDevice.slots l.initial.device))
