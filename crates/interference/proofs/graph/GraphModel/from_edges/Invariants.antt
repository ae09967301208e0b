use Rattle.std.proofs.Common.{◌≡◌, ℕ, length, take}
use Rattle.interference.specs.Graph.{EdgesWithin, list_edge, word_edge}
use Rattle.interference.proofs.graph.GraphModel.from_edges.Given as goal

-- the edges so far are within the nodes, and are the bits of the words
abbrev pub invariant-loop-i : goal.invariant-loop-i
invariant-loop-i l =
    (length l.own ≡ 64) × EdgesWithin l.nodes l.edges l.i
    × ((a b : ℕ) → word_edge l.own a b ≡ list_edge (take l.i l.edges) a b)
