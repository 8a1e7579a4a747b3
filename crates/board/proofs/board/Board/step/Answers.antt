use Rattle.std.proofs.Common.{rules}
use Rattle.shifting.specs.Machine.{step}
use Rattle.turns.specs.Shown.{ticket_of}
use Rattle.board.proofs.Lawed.{lawfully}
use Rattle.board.proofs.board.Board.step.Goals as goal

pub returns-clause-law : goal.returns-clause-law
returns-clause-law g c =
    lawfully _ g.D.SlotDevice.stored g.met.D.Kind.Kind.lawful (step (ticket_of c.args.ticket.now.named)) _ _ _ tt
    (rw (← c.named.ensures) (search rules))
