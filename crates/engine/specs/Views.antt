-- Tables and engines as the rules see them.
use Rattle.std.specs.Prelude.{◌≡◌, ℕ, List, map, Some, None, Option}
use Rattle.engine.specs.declared.table.Table.{Table}
use Rattle.rules.specs.declared.row.Row.{Row}
use Rattle.rules.specs.Rows.{first_in_rank, start_row, waits}

abbrev pub rows_of : Table → List Row
rows_of t = t.rows.items

-- the waiting round that ranks first, if any, was started: its number, and the rows before and after
abbrev pub Begun : List Row → List Row → Option ℕ → Type 0
Begun before after None = (first_in_rank waits before ≡ None) × (after ≡ before)
Begun before after (Some n) =
    ((y : Row) × (first_in_rank waits before ≡ Some y) × (y.number ≡ n)) × (after ≡ map (start_row n) before)
