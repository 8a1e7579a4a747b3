use Rattle.std.proofs.Common.{◌+◌, ◌-◌, length, sym, refl, ap, ◌∙◌, arith}
use Rattle.shifting.specs.Slots.{empty, is_empty, usable, reach}
use Rattle.shifting.proofs.Scans.{farthest_high}
use Rattle.placing.proofs.Passings.{first_is, some_is, none_is}
use Rattle.placing.proofs.Steps.{jump_ends, jump_goes}
use Rattle.placing.proofs.Placed.{longer, one_more, last_one}
use Rattle.placing.proofs.jumping.jump_from.Goals as goal

pub overflow_add-low : goal.overflow_add-low
overflow_add-low g c = grind (arith, farthest_high)

pub loop-turn-preserved : goal.loop-turn-preserved
loop-turn-preserved g c =
    let slots = g.D.SlotDevice.slots c.args.device.now in
    let reached = reach g.D.Kind.Kind.meaning slots in
    let left = usable slots - (c.loop-turn._turn + 1) in
    let low = c.loop-turn.low in
    let high = c.loop-turn.high in
    let taken = c.farthest_of-taken.result in
    let bound = farthest_high reached low (high - low) in
    let first = none_is _ _ (sym c.in_default.is ∙ first_is _ empty slots low (high + 1) _ c.first_passing.ensures (λ held answer is. is.1)) in
    let goes = jump_goes (is_empty slots) reached (usable slots - c.loop-turn._turn) left low high _ (omega arith) refl taken (omega arith) c.farthest_of-taken.ensures in (
      omega arith,
      omega (arith, c.farthest_of-taken.ensures, c.loop-turn.invariant.0, c.loop-turn.invariant.1, c.loop-turn.invariant.2),
      omega (arith, c.loop-turn.invariant.2),
      longer _ _ _ _ taken c.push-in-loop-turn.ensures.slots c.push-in-loop-turn.ensures.length c.loop-turn.invariant.3,
      rw c.reach_of-high.ensures (one_more _ _ taken _ _ _ goes c.push-in-loop-turn.ensures.slots c.loop-turn.invariant.4),
    )

pub returns-in-Some : goal.returns-in-Some
returns-in-Some g c =
    let slots = g.D.SlotDevice.slots c.args.device.now in
    let reached = reach g.D.Kind.Kind.meaning slots in
    let left = usable slots - (c.loop-turn._turn + 1) in
    let low = c.loop-turn.low in
    let high = c.loop-turn.high in
    let found = some_is _ _ _ (sym c.in-Some.is ∙ first_is _ empty slots low (high + 1) _ c.first_passing.ensures (λ held answer is. is.1)) in
    let first = c.in-Some.empty in
    let ends = jump_ends (is_empty slots) reached (usable slots - c.loop-turn._turn) left low high first (omega arith) found.0 (omega arith) in
    let are = last_one _ _ first _ _ ends c.push.ensures.slots c.loop-turn.invariant.4 in
    record { as_many = longer _ _ _ _ first c.push.ensures.slots c.push.ensures.length c.loop-turn.invariant.3 ∙ ap length are; are = are }
