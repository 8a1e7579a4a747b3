use Rattle.std.proofs.Common.{arith}
use Rattle.turns.specs.Shown.{fixed_by, shown}
use Rattle.c_interface.specs.Crossing.{call_of}
use Rattle.c_interface.proofs.Lawfully.{obeys, sized_in}
use Rattle.c_interface.proofs.taking.call_board.Goals as goal

pub returns-clause-law : goal.returns-clause-law
returns-clause-law g c =
    let call = c.args.call in
    obeys (fixed_by g.D.Kind.Kind.meaning g.D.SlotDevice.traced c.args.board) g.D.SlotDevice.stored g.met.D.Kind.Kind.lawful (call_of call) c.take.result (shown g.D.SlotDevice c.args.device.now c.args.job.now) (shown g.D.SlotDevice c.take.new.device c.take.new.job)
    (sized_in call (omega arith, omega arith)) c.take.ensures.tells
