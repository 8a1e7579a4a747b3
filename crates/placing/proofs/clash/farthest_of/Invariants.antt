use Rattle.std.proofs.Common.{◌≡◌, ◌⊎◌, ◌-◌, ◌≤◌}
use Rattle.shifting.specs.Chains.{farthest}
use Rattle.shifting.specs.Slots.{reach}
use Rattle.placing.proofs.clash.farthest_of.Given as goal

abbrev pub invariant-loop-slot : goal.invariant-loop-slot
invariant-loop-slot g l =
    let reached = reach g.D.Kind.Kind.meaning (g.D.SlotDevice.slots l.device) in
    (l.slot - 1 - l.from ≤ l.to - l.from)
    × (l.best ≡ farthest reached l.from (l.slot - 1 - l.from))
    × (((l.slot ≡ l.from) × (l.«best_reach» ≡ 0)) ⊎ (l.«best_reach» ≡ reached l.best))
