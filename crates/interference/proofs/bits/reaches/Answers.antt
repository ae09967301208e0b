use Rattle.interference.proofs.Words.{reaches_is}
use Rattle.interference.proofs.bits.reaches.Goals as goal

pub returns-then-n-lt64 : goal.returns-then-n-lt64
returns-then-n-lt64 c = reaches_is c.args.w c.args.n
