use Rattle.std.proofs.Common.{arith}
use Rattle.turns.proofs.Turned.{carries_out}
use Rattle.turns.proofs.Clears.{clearing_start, clearing_more, cleared_all}
use Rattle.turns.proofs.opening.clear.Goals as goal

pub loop-slot-init : goal.loop-slot-init
loop-slot-init g c = clearing_start g.D.SlotDevice c.args.device.now

pub loop-slot-preserved : goal.loop-slot-preserved
loop-slot-preserved g c =
    let erased = c.erase.ensures in
    clearing_more g.D.SlotDevice c.args.device.now c.loop-slot.device _ c.loop-slot.slot _ (omega arith)
    (carries_out g.D.SlotDevice c.loop-slot.device _ _ erased.slots erased.trace erased.memory erased.same) c.loop-slot.invariant

pub returns : goal.returns
returns g c = cleared_all g.D.SlotDevice c.args.device.now c.loop-slot.device c.loop-slot.slot _ (omega arith) c.loop-slot.invariant
