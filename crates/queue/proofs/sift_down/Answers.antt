use Rattle.std.proofs.lemmas.List.Sorted.{IsPermutation-trans}
use Rattle.queue.proofs.Sifts as sifts
use Rattle.queue.proofs.sift_down.Goals as goal

pub returns-then-not-precedes_at : goal.returns-then-not-precedes_at
returns-then-not-precedes_at g c =
    let l = c.loop-at in
    record {
      shuffled = l.invariant.0;
      heaped = λ sinking. sifts.sunk _ g.met.T.Rank.order l.places l.at _ c.first_child-child.ensures.best c.if-not-precedes_at.ensures (l.invariant.1 sinking);
    }

pub loop-at-preserved : goal.loop-at-preserved
loop-at-preserved g c =
    let l = c.loop-at in
    let child = c.first_child-child.ensures.child in
    let swap = c.swap.ensures in (
      IsPermutation-trans _ _ _ l.invariant.0 swap.permutation,
      λ sinking. sifts.sinks _ g.met.T.Rank.order l.places _ l.at c.first_child-child.result child.0 child.1 child.2 swap.len swap.by_index.0 swap.by_index.1 swap.by_index.2 c.if-not-precedes_at.ensures c.first_child-child.ensures.best (l.invariant.1 sinking),
    )
