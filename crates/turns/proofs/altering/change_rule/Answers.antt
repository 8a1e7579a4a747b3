use Rattle.std.proofs.Common.{◌≡◌, length, refl, ap, ◌∙◌}
use Rattle.rules.specs.declared.rule.Rule.{Rule}
use Rattle.rules.specs.Slots.{writing, answer, carried_out, after}
use Rattle.shifting.specs.Slots.{at}
use Rattle.shifting.specs.Machine.{change_action, rewrite_rule, with_action, held}
use Rattle.turns.specs.Shown.{doing}
use Rattle.turns.proofs.Turned.{refused_exit}
use Rattle.turns.proofs.Drops.{unknown_refused, change_done}
use Rattle.turns.proofs.altering.change_rule.Goals as goal

pub returns-in_err-slot-clause-takes : goal.returns-in_err-slot-clause-takes
returns-in_err-slot-clause-takes g c =
    refused_exit _ _ (change_action c.args.rule c.args.action) doing _ _ _ _ c.from_residual-in_err-slot.ensures.1
    (unknown_refused _ _ _ _ _ _ c.in_ok-allows.ensures (change_action c.args.rule c.args.action) (λ fixed state. rewrite_rule fixed state c.args.rule c.args.action) c.args.rule _ (λ state. refl) c.in_err-slot.ensures)

pub returns-clause-takes : goal.returns-clause-takes
returns-clause-takes g c =
    let slots = g.D.SlotDevice.slots c.args.device.now in
    let rule_is : c.with_action.result ≡ with_action c.args.action (held (at slots c.in_ok-slot.slot)) = c.with_action.ensures ∙ ap (with_action c.args.action) c.held_at-held.ensures in
    let written = c.write.ensures in
    let count = length slots in
    change_done _ _ _ _ _ _ c.in_ok-allows.ensures c.args.rule c.in_ok-slot.slot _ _ _ _ c.in_ok-slot.ensures c.args.action
    (written.answer ∙ ap (λ (rule : Rule). answer (writing count c.in_ok-slot.slot rule)) rule_is)
    (written.slots ∙ ap (λ (rule : Rule). after carried_out slots (writing count c.in_ok-slot.slot rule)) rule_is)
    (written.trace ∙ ap (λ (rule : Rule). after g.D.SlotDevice.traced (g.D.SlotDevice.trace c.args.device.now) (writing count c.in_ok-slot.slot rule)) rule_is)
    (written.memory ∙ ap (λ (rule : Rule). after g.D.SlotDevice.stored (g.D.SlotDevice.memory c.args.device.now) (writing count c.in_ok-slot.slot rule)) rule_is)
