use Rattle.std.proofs.Common.{rules}
use Rattle.kinds.specs.DialRules.{places}
use Rattle.cases.proofs.worked_cases.Goals as goal

pub returns-clause-hold : goal.returns-clause-hold
unfolding places
returns-clause-hold c = search rules
