use Rattle.std.proofs.Common.{◌≡◌}
use Rattle.turns.specs.Shown.{fixed_by}
use Rattle.board.specs.Led.{face, Same}
use Rattle.board.proofs.Serves.{Serving}
use Rattle.board.proofs.serving.serve.Given as goal

abbrev pub invariant-loop-call : goal.invariant-loop-call
invariant-loop-call g l =
    record {
      same : Same g.D.SlotDevice l.initial.board l.board;
      script : g.C.Caller.reads.of l.caller ≡ g.C.Caller.reads.of l.fn.caller;
      serving : Serving g.C.Caller.holds (fixed_by g.D.Kind.Kind.meaning g.D.SlotDevice.traced l.number) g.D.SlotDevice.stored (g.D.SlotDevice.slots l.fn.device) (g.D.SlotDevice.trace l.fn.device) (g.D.SlotDevice.memory l.fn.device) l.caller (face g.D.SlotDevice l.board);
    }

abbrev pub decreases-loop-call : goal.decreases-loop-call
decreases-loop-call g l = g.C.Caller.left l.caller
