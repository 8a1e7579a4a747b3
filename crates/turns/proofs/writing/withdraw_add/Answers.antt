use Rattle.std.proofs.Common.{refl}
use Rattle.shifting.specs.Machine.{withdraw, take_back}
use Rattle.turns.specs.Shown.{fixed_by, shown, ticket_of}
use Rattle.turns.proofs.Writes.{withdraw_done, close_refused}
use Rattle.turns.proofs.writing.withdraw_add.Goals as goal

pub returns-in_err-allows-clause-takes : goal.returns-in_err-allows-clause-takes
returns-in_err-allows-clause-takes g c =
    close_refused (fixed_by g.D.Kind.Kind.meaning g.D.SlotDevice.traced c.args.number) g.D.SlotDevice.stored g.met.D.Kind.Kind.lawful (withdraw (ticket_of c.args.named)) take_back
    (shown g.D.SlotDevice c.args.device.now c.args.job.now) c.args.named c.from_residual.result _ (λ state. refl) c.from_residual.ensures.1 c.in_err-allows.ensures

pub returns-clause-takes : goal.returns-clause-takes
returns-clause-takes g c =
    let erased = c.erase_half_way.ensures in
    withdraw_done _ _ g.met.D.Kind.Kind.lawful _ _ _ _ _ c.args.named _ c.in_ok-allows.ensures c.in_force-told.ensures erased.slots erased.trace erased.memory c.happens.ensures
