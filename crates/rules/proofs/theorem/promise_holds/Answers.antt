use Rattle.rules.proofs.Keeping.{promised}
use Rattle.rules.proofs.theorem.promise_holds.Goals as goal

pub returns : goal.returns
returns c = promised
