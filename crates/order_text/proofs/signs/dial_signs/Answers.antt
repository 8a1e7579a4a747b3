use Rattle.std.proofs.Common.{rules}
use Rattle.kinds.specs.Places.{codes_places}
use Rattle.order_text.proofs.signs.dial_signs.Goals as goal

pub loop-code-init : goal.loop-code-init
loop-code-init c = record { codes = rw (c.into_iter-code-iterator.ensures.into_iter_gives, c.of-code-items.ensures) (codes_places 16 c.args.word); text = search rules }
