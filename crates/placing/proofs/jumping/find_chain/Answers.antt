use Rattle.std.proofs.Common.{sym, ◌∙◌}
use Rattle.placing.proofs.Placed.{placed_crossed, placed_full, placed_well}
use Rattle.placing.proofs.jumping.find_chain.Goals as goal

pub returns-then-is_crossed-clause-answer : goal.returns-then-is_crossed-clause-answer
returns-then-is_crossed-clause-answer g c =
    let found = c.look_over-survey.ensures in
    placed_crossed g.D.Kind.Kind.meaning (g.D.SlotDevice.slots c.args.device.now) c.args.new _ _ (sym found.tied ∙ c.if-survey.false) found.low found.high (sym c.if-is_crossed.ensures)

pub returns-then-is_full-clause-answer : goal.returns-then-is_full-clause-answer
returns-then-is_full-clause-answer g c =
    let found = c.look_over-survey.ensures in
    placed_full g.D.Kind.Kind.meaning (g.D.SlotDevice.slots c.args.device.now) c.args.new _ _ (sym found.tied ∙ c.if-survey.false) found.low found.high (sym c.if-is_crossed.ensures) (sym c.if-is_full.ensures)

pub returns-clause-answer : goal.returns-clause-answer
returns-clause-answer g c =
    let found = c.look_over-survey.ensures in
    placed_well g.D.Kind.Kind.meaning (g.D.SlotDevice.slots c.args.device.now) c.args.new _ _ (sym found.tied ∙ c.if-survey.false) found.low found.high (sym c.if-is_crossed.ensures) (sym c.if-is_full.ensures)
