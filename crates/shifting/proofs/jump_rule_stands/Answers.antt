use Rattle.shifting.proofs.Spans.{jump_rule}
use Rattle.shifting.proofs.jump_rule_stands.Goals as goal

pub returns : goal.returns
returns c = jump_rule
