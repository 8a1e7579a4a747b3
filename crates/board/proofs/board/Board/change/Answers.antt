use Rattle.std.proofs.Common.{rules}
use Rattle.shifting.specs.Machine.{change_action}
use Rattle.board.proofs.Lawed.{lawfully}
use Rattle.board.proofs.board.Board.change.Goals as goal

pub returns-clause-law : goal.returns-clause-law
returns-clause-law g c = lawfully _ g.D.SlotDevice.stored g.met.D.Kind.Kind.lawful (change_action c.args.rule c.args.action) _ _ _ tt (search rules)
