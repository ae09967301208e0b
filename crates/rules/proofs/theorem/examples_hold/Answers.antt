use Rattle.rules.proofs.Worked.{worked}
use Rattle.rules.proofs.theorem.examples_hold.Goals as goal

pub returns : goal.returns
returns c = worked
