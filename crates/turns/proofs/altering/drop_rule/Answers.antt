use Rattle.std.proofs.Common.{refl}
use Rattle.shifting.specs.Machine.{drop_rule, erase_rule}
use Rattle.turns.specs.Shown.{doing}
use Rattle.turns.proofs.Turned.{refused_exit}
use Rattle.turns.proofs.Drops.{unknown_refused, drop_done}
use Rattle.turns.proofs.altering.drop_rule.Goals as goal

pub returns-in_err-slot-clause-takes : goal.returns-in_err-slot-clause-takes
returns-in_err-slot-clause-takes g c =
    refused_exit _ _ (drop_rule c.args.rule) doing _ _ _ _ c.from_residual-in_err-slot.ensures.1
    (unknown_refused _ _ _ _ _ _ c.in_ok-allows.ensures (drop_rule c.args.rule) (λ fixed state. erase_rule fixed state c.args.rule) c.args.rule _ (λ state. refl) c.in_err-slot.ensures)

pub returns-clause-takes : goal.returns-clause-takes
returns-clause-takes g c =
    let erased = c.erase.ensures in
    drop_done _ _ _ _ _ _ c.in_ok-allows.ensures c.args.rule c.in_ok-slot.slot _ _ _ _ c.in_ok-slot.ensures erased.answer erased.slots erased.trace erased.memory
