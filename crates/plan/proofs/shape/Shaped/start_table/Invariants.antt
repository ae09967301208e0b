use Rattle.std.proofs.Common.{◌≡◌, ℕ, ◌<◌, length, get_or, take, sum}
use Rattle.plan.proofs.shape.Shaped.start_table.Given as goal

-- the steps so far start where the counts before them end
abbrev pub invariant-loop-i : goal.invariant-loop-i
invariant-loop-i l =
    (length l.starts ≡ 256) × (l.at ≡ sum (take l.i l.self.counts.now))
    × ((k : ℕ) → k < l.i → get_or l.starts k 0 ≡ sum (take k l.self.counts.now))
