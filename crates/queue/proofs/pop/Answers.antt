use Rattle.std.proofs.Common.{◌-◌, arith}
use Rattle.std.proofs.lemmas.List.{length-take}
use Rattle.queue.proofs.Places as places
use Rattle.queue.proofs.Ranked as laws
use Rattle.queue.proofs.pop.Goals as goal

pub take_first-requires : goal.take_first-requires
take_first-requires g c = simp length-take (omega arith)

pub returns : goal.returns
returns g c =
    let took = c.take_first.ensures in
    let popped = places.popped _ g.met.T.Rank.order c.args.places.now c.take_first.new.places c.take_first.result c.args.len (c.args.len - 0) (omega arith) (omega arith) (omega arith) c.take_first.auto.places took.holds took.first took.heaped in
    record { popped = popped; ranked = λ heap. laws.popped_ranked _ g.met.T.Rank.order _ _ _ _ heap popped }
