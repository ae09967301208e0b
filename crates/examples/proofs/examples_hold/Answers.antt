use Rattle.examples.proofs.Worked.{worked}
use Rattle.examples.proofs.examples_hold.Goals as goal

pub returns : goal.returns
returns c = worked
