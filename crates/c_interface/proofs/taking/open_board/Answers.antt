use Rattle.std.proofs.Common.{refl}
use Rattle.turns.specs.Shown.{fixed_by, shown}
use Rattle.c_interface.proofs.Lawfully.{opens}
use Rattle.c_interface.proofs.taking.open_board.Goals as goal

pub returns-clause-opens : goal.returns-clause-opens
returns-clause-opens g c =
    opens (fixed_by g.D.Kind.Kind.meaning g.D.SlotDevice.traced) g.D.SlotDevice.stored (shown g.D.SlotDevice c.args.device.now c.args.job.now) _
    (λ board. record { slots = c.clear.ensures.slots; trace = c.clear.ensures.trace; job = refl }) c.clear.ensures.memory
