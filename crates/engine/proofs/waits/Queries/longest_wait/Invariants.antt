use Rattle.std.proofs.Common.{ℕ, ◌+◌, ◌-◌, ◌≤◌}
use Rattle.engine.specs.Tables.{queries_of}
use Rattle.engine.proofs.waits.Queries.longest_wait.Given as goal
use Rattle.rules.specs.Waits.{demand}

-- the wait climbs, and passes no solution
abbrev pub invariant-loop-wait : goal.invariant-loop-wait
invariant-loop-wait l =
    (l.wait ≤ demand l.self.distance (queries_of l.self.rows.now l.self.extra) l.q l.wait)
    × ((x : ℕ) → demand l.self.distance (queries_of l.self.rows.now l.self.extra) l.q x ≤ x → l.wait ≤ x)

abbrev pub decreases-loop-wait : goal.decreases-loop-wait
decreases-loop-wait l = 60000 + 1 - l.wait
