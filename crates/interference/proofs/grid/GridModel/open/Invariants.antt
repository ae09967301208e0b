use Rattle.std.proofs.Common.{◌≡◌, ℕ, ◌<◌, length}
use Rattle.interference.specs.Grid.{InsideTo, position_at}
use Rattle.interference.proofs.grid.GridModel.open.Given as goal

-- the positions so far are inside, and copied
abbrev pub invariant-loop-i : goal.invariant-loop-i
invariant-loop-i l =
    (length l.own ≡ 64) × InsideTo l.positions l.i
    × ((j : ℕ) → j < l.i → position_at l.own j ≡ position_at l.positions j)
