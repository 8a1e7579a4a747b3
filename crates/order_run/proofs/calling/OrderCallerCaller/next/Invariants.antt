use Rattle.std.proofs.Common.{◌≡◌, ◌≤◌}
use Rattle.board.specs.Serving.{Past}
use Rattle.order_run.specs.Calling.{Holds, calls_left, turns_left}
use Rattle.order_run.proofs.calling.OrderCallerCaller.next.Given as goal

abbrev pub invariant-loop-self : goal.invariant-loop-self
invariant-loop-self l =
    ((before : Past) → Holds l.initial.self before → Holds l.self before) × (calls_left l.self ≤ calls_left l.initial.self) × (l.self.reader.input.now ≡ l.initial.self.reader.input.now)

abbrev pub decreases-loop-self : goal.decreases-loop-self
decreases-loop-self l = turns_left l.self
