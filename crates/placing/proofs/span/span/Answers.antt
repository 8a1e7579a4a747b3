use Rattle.std.proofs.Common.{rules}
use Rattle.shifting.specs.Slots.{above, below}
use Rattle.placing.proofs.Passings.{first_is, past_is}
use Rattle.placing.proofs.Placed.{low_is, high_is}
use Rattle.placing.proofs.span.span.Goals as goal

pub returns : goal.returns
returns g c =
    let slots = g.D.SlotDevice.slots c.args.device.now in
    record {
      low = low_is g.D.Kind.Kind.meaning slots c.args.new _ _ c.usable_slots-count.ensures (past_is _ (above g.D.Kind.Kind.meaning c.args.new) slots _ _ c.past_last_passing-low.ensures (λ held answer is. search rules));
      high = high_is g.D.Kind.Kind.meaning slots c.args.new _ _ _ _ _ c.usable_slots-count.ensures (first_is _ (below g.D.Kind.Kind.meaning c.args.new) slots 0 _ _ c.first_passing-below.ensures (λ held answer is. search rules)) c.unwrap_or.ensures c.last_of.ensures c.min.ensures;
    }
