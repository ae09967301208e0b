use Rattle.std.proofs.Common.{◌≡◌, ◌++◌, map, take, drop}
use Rattle.engine.proofs.running.RunningRounds.write_lines.Given as goal
use Rattle.rules.specs.Rules.{line_at}

-- the lines of the rounds before this one are written
abbrev pub invariant-loop-i : goal.invariant-loop-i
invariant-loop-i l = l.lines ≡ map (line_at l.slot) (take l.i l.round-items) ++ drop l.i l.initial.lines
