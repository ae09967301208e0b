use Rattle.std.proofs.Common.{◌+◌, ◌-◌, arith}
use Rattle.std.proofs.lemmas.List.{length-take, length-set}
use Rattle.queue.proofs.Places as places
use Rattle.queue.proofs.Ranked as laws
use Rattle.queue.proofs.push.Goals as goal

pub sift_up-requires : goal.sift_up-requires
sift_up-requires g c = simp (length-take, length-set) (omega arith)

pub returns : goal.returns
returns g c =
    let sift = c.sift_up.ensures in
    let pushed = places.pushed _ c.args.places.now c.args.x c.args.len (c.args.len + 1 - 0) (omega arith) (omega arith) c.sift_up.new.places sift.shuffled sift.heaped in
    record { pushed = pushed; ranked = laws.pushed_ranked _ g.met.T.Rank.order _ _ _ _ pushed }
