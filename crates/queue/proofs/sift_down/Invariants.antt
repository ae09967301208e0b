use Rattle.std.proofs.Common.{◌-◌, length}
use Rattle.std.specs.List.Sorted.{IsPermutation}
use Rattle.queue.specs.Heap.{Sinking}
use Rattle.queue.proofs.sift_down.Given as goal

abbrev pub invariant-loop-at : goal.invariant-loop-at
invariant-loop-at g l = IsPermutation l.initial.places l.places × (Sinking g.T.Rank.before l.initial.places l.initial.at → Sinking g.T.Rank.before l.places l.at)

abbrev pub decreases-loop-at : goal.decreases-loop-at
decreases-loop-at g l = length l.initial.places - l.at
