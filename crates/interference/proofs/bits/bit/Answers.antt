use Rattle.std.proofs.Common.{eqb, ap}
use lib.Bits.{and_mask}
use Rattle.interference.proofs.bits.bit.Goals as goal

pub returns : goal.returns
returns c = ap (λ bit. eqb bit 1) (and_mask _ 1)
