use Rattle.std.proofs.Common.{◌≡◌, ◌-◌, true}
use Rattle.job.specs.declared.named.Named.{Named}
use Rattle.turns.specs.Shown.{fixed_by, shown}
use Rattle.turns.proofs.Writes.{OnWay}
use Rattle.turns.proofs.writing.complete_add.Given as goal

abbrev pub invariant-loop-device : goal.invariant-loop-device
invariant-loop-device g l =
    (l.job.busy ≡ true)
    × (g.D.SlotDevice.lenders l.device ≡ g.D.SlotDevice.lenders l.initial.device)
    × ((named : Named) → OnWay (fixed_by g.D.Kind.Kind.meaning g.D.SlotDevice.traced l.number) g.D.SlotDevice.stored named
    (shown g.D.SlotDevice l.initial.device l.initial.job)
    (shown g.D.SlotDevice l.device l.job))

abbrev pub decreases-loop-device : goal.decreases-loop-device
decreases-loop-device g l = l.job.chain.length - l.job.made
