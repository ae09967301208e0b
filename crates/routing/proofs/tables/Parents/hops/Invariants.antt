use Rattle.std.proofs.Common.{◌≡◌, ◌-◌}
use Rattle.routing.specs.Tree.{hops}
use Rattle.routing.proofs.Trees.{after}
use Rattle.routing.proofs.tables.Parents.hops.Given as goal

-- i hops are done, and the rest of the way starts at `at`
abbrev pub invariant-loop-i : goal.invariant-loop-i
invariant-loop-i l = hops l.self.table l.most l.node ≡ after l.i (hops l.self.table (l.most - l.i) l.at)
