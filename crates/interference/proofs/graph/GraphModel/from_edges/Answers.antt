use Rattle.std.proofs.Common.{ap, ◌∙◌, arith, rules}
use Rattle.interference.specs.Graph.{list_edge}
use Rattle.interference.proofs.Graphs.{none_yet, one_more, same_edges}
use Rattle.interference.proofs.graph.GraphModel.from_edges.Goals as goal
use Rattle.std.proofs.lemmas.List.{length-set, take_all}

pub loop-i-init : goal.loop-i-init
loop-i-init c = (search rules, search rules, none_yet 64)

pub loop-i-preserved : goal.loop-i-preserved
loop-i-preserved c = (
  simp length-set c.loop-i.invariant.0,
  search rules,
  λ a b.
      rw c.with_bit.ensures
      (one_more c.loop-i.own c.args.edges.now c.loop-i.i c.loop-i-test.true (omega arith) c.loop-i.invariant.2 a b),
)

pub returns : goal.returns
returns c =
    record {
      counted = search rules;
      within = search rules;
      count = search rules;
      pairs =
          let all = take_all c.loop-i.i c.args.edges.now c.loop-i-test.false in
          same_edges _ _ _ (λ a b ha hb. c.loop-i.invariant.2 a b ∙ ap (λ es. list_edge es a b) all);
    }
