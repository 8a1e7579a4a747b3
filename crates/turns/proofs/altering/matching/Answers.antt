use Rattle.std.proofs.Common.{rules}
use Rattle.turns.proofs.Drops.{matched}
use Rattle.turns.proofs.altering.matching.Goals as goal

pub returns : goal.returns
returns g c =
    matched g.D.Kind.Kind.meaning c.args.subject (g.D.SlotDevice.slots c.args.device.now) c.first_match.result c.and_then.result c.first_match.ensures.answer (search rules)
