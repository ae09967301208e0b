use Rattle.std.proofs.Common.{◌-◌, length, arith}
use Rattle.queue.proofs.Ends as ends
use Rattle.queue.proofs.Places as places
use Rattle.queue.proofs.take_first.Goals as goal

pub returns : goal.returns
returns g c =
    let xs = c.args.places.now in
    let ys = c.swap.new.self in
    let zs = c.sift_down.new.places in
    let swap = c.swap.ensures in
    let sift = c.sift_down.ensures in
    let same = places.kept g.T.Rank.before xs ys (length xs - 1 - 0) c.requires (omega arith) swap.len swap.by_index.1 swap.by_index.2 zs sift.shuffled in
    record {
      holds = rw same (places.taken g.T.Rank.before xs ys (length xs - 1 - 0) c.requires (omega arith) swap.len swap.by_index.1 swap.by_index.2 zs _ (cc) swap.permutation sift.shuffled);
      first = ends.first _ g.met.T.Rank.order xs _ (cc);
      heaped = λ heap. rw same (sift.heaped (places.sinking _ xs ys (length xs - 1 - 0) c.requires (omega arith) swap.len swap.by_index.1 swap.by_index.2 heap));
    }
