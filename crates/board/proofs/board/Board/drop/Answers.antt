use Rattle.std.proofs.Common.{rules}
use Rattle.shifting.specs.Machine.{drop_rule}
use Rattle.board.proofs.Lawed.{lawfully}
use Rattle.board.proofs.board.Board.drop.Goals as goal

pub returns-clause-law : goal.returns-clause-law
returns-clause-law g c = lawfully _ g.D.SlotDevice.stored g.met.D.Kind.Kind.lawful (drop_rule c.args.rule) _ _ _ tt (search rules)
