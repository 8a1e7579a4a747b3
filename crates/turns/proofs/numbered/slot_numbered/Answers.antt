use Rattle.std.proofs.Common.{rules}
use Rattle.shifting.specs.Machine.{has_number}
use Rattle.placing.proofs.Passings.{first_is}
use Rattle.turns.proofs.Drops.{numbered_is}
use Rattle.turns.proofs.numbered.slot_numbered.Goals as goal

pub returns : goal.returns
returns g c =
    let slots = g.D.SlotDevice.slots c.args.device.now in
    numbered_is slots c.args.number c.count.result _ c.count.ensures.answer (first_is _ (has_number c.args.number) slots 0 c.count.result _ c.first_passing.ensures (λ held answer is. search rules))
