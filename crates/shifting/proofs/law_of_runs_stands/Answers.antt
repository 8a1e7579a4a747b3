use Rattle.shifting.proofs.Lawful.{law_of_runs}
use Rattle.shifting.proofs.law_of_runs_stands.Goals as goal

pub returns : goal.returns
returns c = law_of_runs
