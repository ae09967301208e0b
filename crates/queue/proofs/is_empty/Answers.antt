use Rattle.std.proofs.Common.{eqb, ap}
use Rattle.std.proofs.lemmas.List.{length-take}
use Rattle.queue.proofs.is_empty.Goals as goal

pub returns : goal.returns
returns g c = simp length-take (ap (λ n. eqb n 0) c.min.ensures)
