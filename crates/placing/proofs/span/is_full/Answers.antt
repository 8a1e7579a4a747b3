use Rattle.std.proofs.Common.{arith}
use Rattle.shifting.specs.Slots.{empty}
use Rattle.placing.proofs.Passings.{first_is}
use Rattle.placing.proofs.Placed.{full_is}
use Rattle.placing.proofs.span.is_full.Goals as goal

pub returns : goal.returns
returns g c =
    let slots = g.D.SlotDevice.slots c.args.device.now in
    full_is slots c.args.from c.usable_slots.result _ _ _ c.usable_slots.ensures
    (first_is _ empty slots c.args.from _ _ c.first_passing.ensures (λ held answer is. is.1)) (omega arith) c.is_none.ensures
