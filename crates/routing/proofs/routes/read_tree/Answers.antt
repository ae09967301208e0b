use Rattle.std.proofs.Common.{◌≤◌, sym, ap, ◌∙◌, arith, rules}
use Rattle.routing.specs.Tree.{tree_fault}
use Rattle.routing.proofs.Outcomes as outcomes
use Rattle.routing.proofs.routes.read_tree.Goals as goal

pub returns-in-Some : goal.returns-in-Some
returns-in-Some g c =
    let ls = c.args.tree.now in
    ap (λ n. tree_fault n ls) (sym c.nodes-n.ensures)
    ∙ outcomes.bad_fault c.nodes-n.result ls (c.if-tree-from.false ∙ c.from.ensures) c.in-Some.at c.in-Some.ensures

pub returns-in-Some-first_repeated : goal.returns-in-Some-first_repeated
returns-in-Some-first_repeated g c =
    let ls = c.args.tree.now in
    ap (λ n. tree_fault n ls) (sym c.nodes-n.ensures)
    ∙ outcomes.repeated_fault c.nodes-n.result ls (c.if-tree-from.false ∙ c.from.ensures) c.in_default.ensures
    c.in-Some-first_repeated.at c.in-Some-first_repeated.ensures

pub invariant_of-tree : goal.invariant_of-tree
invariant_of-tree g c =
    let few : c.nodes-n.result ≤ 64 = omega (arith, c.nodes-n.ensures, g.met.M.Interference.most c.args.model.now) in
    record {
      few = omega (arith, c.if-tree-from.false, c.from.ensures);
      indexed = outcomes.indexed c.nodes-n.result c.args.tree.now (c.if-tree-from.false ∙ c.from.ensures) c.in_default.ensures few;
    }

pub returns-in-Some-first_unrooted : goal.returns-in-Some-first_unrooted
returns-in-Some-first_unrooted g c =
    let ls = c.args.tree.now in
    ap (λ n. tree_fault n ls) (sym c.nodes-n.ensures)
    ∙ outcomes.unrooted_fault c.nodes-n.result ls (c.if-tree-from.false ∙ c.from.ensures) c.in_default.ensures
    c.in_default-first_repeated.ensures c.by_node.result (c.by_node.ensures (λ l. l.parent) (λ l x p. search rules)) c.in-Some-first_unrooted.at
    c.in-Some-first_unrooted.ensures

pub returns : goal.returns
returns g c =
    let ls = c.args.tree.now in
    let parents = c.by_node.ensures (λ l. l.parent) (λ l x p. search rules) in
    let slots = c.by_node-2.ensures (λ l. l.slots) (λ l x p. search rules) in (
      ap (λ n. tree_fault n ls) (sym c.nodes-n.ensures)
          ∙ outcomes.no_fault c.nodes-n.result ls (c.if-tree-from.false ∙ c.from.ensures) c.in_default.ensures
          c.in_default-first_repeated.ensures c.by_node.result parents c.in_default-first_unrooted.ensures,
      outcomes.routes_are ls _ _ _ parents slots c.depths.ensures,
    )
