use Rattle.std.proofs.Common.{refl, arith}
use Rattle.routing.proofs.Trees.{enter_all, enter_more}
use Rattle.routing.proofs.tables.IndexedTree.by_node.Goals as goal
use Rattle.std.proofs.lemmas.List.{length-set}

pub bounds-table-from : goal.bounds-table-from
bounds-table-from g c = omega (arith, c.from.ensures, (c.args.self.indexed c.loop-link.link-index).0, c.loop-link.invariant.0)

pub loop-link-init : goal.loop-link-init
loop-link-init g c = (refl, λ f h. refl)

pub loop-link-preserved : goal.loop-link-preserved
loop-link-preserved g c = (
  simp length-set c.loop-link.invariant.0,
  λ f h. rw c.from.ensures (enter_more f _ _ _ c.loop-link.link-index _ c.loop-link-test.true (h _ _ c.value.ensures) (c.loop-link.invariant.1 f h)),
)

pub returns : goal.returns
returns g c = λ f h. enter_all f _ _ _ c.loop-link.link-index c.loop-link-test.false (c.loop-link.invariant.1 f h)
