use Rattle.std.proofs.Common.{◌≡◌, ◌++◌, map, take, drop}
use Rattle.engine.proofs.rows.start_row.Given as goal
use Rattle.rules.specs.Rows.{start_row}

-- the rows before this one are as after the start
abbrev pub invariant-loop-row : goal.invariant-loop-row
invariant-loop-row l = l.rows ≡ map (start_row l.number) (take l.row-index l.initial.rows) ++ drop l.row-index l.initial.rows
