use Rattle.std.proofs.Common.{◌≡◌, ℕ, ◌<◌, length, get_or}
use Rattle.interference.specs.Graph.{WordsWithin}
use Rattle.interference.proofs.graph.GraphModel.from_words.Given as goal

-- the words so far are within the nodes, and copied
abbrev pub invariant-loop-i : goal.invariant-loop-i
invariant-loop-i l =
    (length l.own ≡ 64) × WordsWithin l.words l.i
    × ((j : ℕ) → j < l.i → get_or l.own j 0 ≡ get_or l.words j 0)
