use Rattle.std.proofs.Common.{rules}
use Rattle.shifting.specs.Slots.{level}
use Rattle.placing.proofs.Passings.{first_is}
use Rattle.placing.proofs.Placed.{tied_is}
use Rattle.placing.proofs.span.is_tied.Goals as goal

pub returns : goal.returns
returns g c =
    let slots = g.D.SlotDevice.slots c.args.device.now in
    tied_is g.D.Kind.Kind.meaning slots c.args.new c.usable_slots.result _ _ c.usable_slots.ensures
    (first_is _ (level g.D.Kind.Kind.meaning c.args.new) slots 0 _ _ c.first_passing.ensures (λ held answer is. search rules)) c.is_some.ensures
