use Rattle.std.proofs.Common.{rules}
use Rattle.shifting.specs.Machine.{look_up}
use Rattle.board.proofs.Lawed.{lawfully}
use Rattle.board.proofs.board.Board.look_up.Goals as goal

pub returns : goal.returns
returns g c = record { law = lawfully _ g.D.SlotDevice.stored g.met.D.Kind.Kind.lawful (look_up c.args.subject) _ _ _ tt (search rules) }
