use Rattle.std.proofs.Common.{sym, ap, ◌∙◌}
use Rattle.shifting.specs.Machine.{told}
use Rattle.turns.proofs.Drops.{look_up_found}
use Rattle.turns.proofs.altering.look_up_rule.Goals as goal

pub returns : goal.returns
returns g c = look_up_found _ _ _ _ _ _ c.args.subject c.told_of.result (sym c.if-not-well_formed_subject.ensures) (c.told_of.ensures ∙ ap told c.matching.ensures)
