use Rattle.turns.specs.Shown.{fixed_by, shown}
use Rattle.turns.proofs.Writes.{step_done, step_refused}
use Rattle.turns.proofs.writing.step_add.Goals as goal

pub returns-in_err-allows-clause-takes : goal.returns-in_err-allows-clause-takes
returns-in_err-allows-clause-takes g c =
    step_refused (fixed_by g.D.Kind.Kind.meaning g.D.SlotDevice.traced c.args.number) g.D.SlotDevice.stored g.met.D.Kind.Kind.lawful
    (shown g.D.SlotDevice c.args.device.now c.args.job.now) c.args.named c.from_residual.result _ c.from_residual.ensures.1 c.in_err-allows.ensures

pub returns-clause-takes : goal.returns-clause-takes
returns-clause-takes g c =
    let wrote = c.write_next.ensures in
    step_done _ _ g.met.D.Kind.Kind.lawful _ _ c.args.named _ c.in_ok-allows.ensures (record { slots = wrote.writes.slots; trace = wrote.writes.trace; memory = wrote.writes.memory; job = wrote.job }) c.left.ensures
