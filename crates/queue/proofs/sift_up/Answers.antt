use Rattle.std.proofs.Common.{◌≡◌, ◌-◌, ◌/◌, arith}
use Rattle.std.proofs.lemmas.List.Sorted.{IsPermutation-trans}
use Rattle.queue.proofs.Sifts as sifts
use Rattle.queue.proofs.sift_up.Goals as goal

pub loop-at-preserved : goal.loop-at-preserved
loop-at-preserved g c =
    let l = c.loop-at in
    let swap = c.swap.ensures in (
      omega arith,
      IsPermutation-trans _ _ _ l.invariant.1 swap.permutation,
      λ rising. sifts.rises _ g.met.T.Rank.order l.places _ ((l.at - 1) / 2) l.at (omega arith) (omega arith) l.invariant.0 swap.len swap.by_index.0 swap.by_index.1 swap.by_index.2 c.if-precedes_at.ensures (l.invariant.2 rising),
    )

pub returns-else-precedes_at : goal.returns-else-precedes_at
returns-else-precedes_at g c =
    let l = c.loop-at in
    record {
      shuffled = l.invariant.1;
      heaped = λ rising. sifts.risen _ g.met.T.Rank.order l.places l.at
          (λ p d a b. let e : p ≡ (l.at - 1) / 2 = omega arith in rw e (c.if-precedes_at.ensures d))
          (l.invariant.2 rising);
    }
