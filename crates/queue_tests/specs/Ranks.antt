-- Which of two elements ranks before the other. Assumes nothing.
use Rattle.std.specs.Prelude.{Bool, ◌&&◌, ◌||◌, ◌==◌, nat_lt}
use Rattle.queue_tests.specs.declared.Waiting.{Waiting}
use Rattle.queue_tests.specs.declared.Candidate.{Candidate}

-- the smaller priority, then the smaller number
abbrev pub sooner : Waiting → Waiting → Bool
sooner a b = nat_lt a.priority b.priority || (a.priority == b.priority && nat_lt a.number b.number)

-- the deeper, then the smaller node
abbrev pub deeper : Candidate → Candidate → Bool
deeper a b = nat_lt b.depth.0 a.depth.0 || (b.depth.0 == a.depth.0 && nat_lt a.node b.node)
