use Rattle.std.proofs.Common.{◌≡◌, ℕ, length, drop}
use Rattle.routing.specs.declared.link.TreeLink.{TreeLink}
use Rattle.routing.specs.Tree.{by_node, entered}
use Rattle.routing.proofs.tables.IndexedTree.by_node.Given as goal

-- what is left of the tree completes the table, whatever function the closure computes
abbrev pub invariant-loop-link : goal.invariant-loop-link
invariant-loop-link g l =
    (length l.table ≡ 64)
    × ((f : TreeLink → ℕ) → ((r : TreeLink) (x : ℕ) → goal.F-post g l.value r x → x ≡ f r)
    → entered f (drop l.link-index l.self.links.now) l.table ≡ by_node f l.self.links.now)
