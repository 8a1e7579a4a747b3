use Rattle.std.proofs.Common.{refl}
use Rattle.board.proofs.Lawed.{led_start}
use Rattle.board.proofs.board.Board.open.Goals as goal

pub returns-clause-law : goal.returns-clause-law
returns-clause-law g c =
    led_start _ g.D.SlotDevice.stored _ _ _ _ (record { slots = c.clear.ensures.slots; trace = c.clear.ensures.trace; job = refl }) c.clear.ensures.memory
