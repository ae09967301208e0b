use Rattle.std.proofs.Common.{◌<◌, length}
use Rattle.std.specs.List.Sorted.{IsPermutation}
use Rattle.queue.specs.Heap.{Rising}
use Rattle.queue.proofs.sift_up.Given as goal

abbrev pub invariant-loop-at : goal.invariant-loop-at
invariant-loop-at g l = (l.at < length l.places) × IsPermutation l.initial.places l.places × (Rising g.T.Rank.before l.initial.places l.initial.at → Rising g.T.Rank.before l.places l.at)

abbrev pub decreases-loop-at : goal.decreases-loop-at
decreases-loop-at g l = l.at
