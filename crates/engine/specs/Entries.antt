-- The entries of the queue of waiting rounds: their rank, and those of a table.
use Rattle.std.specs.Prelude.{Bool, ◌&&◌, ◌||◌, List, map, filter, ◌==◌, nat_lt}
use Rattle.engine.specs.declared.waiting.Waiting.{Waiting}
use Rattle.rules.specs.declared.row.Row.{Row}
use Rattle.rules.specs.Rows.{waits}

-- smaller priority first, then smaller number
abbrev pub sooner : Waiting → Waiting → Bool
sooner x y = nat_lt x.priority y.priority || (x.priority == y.priority && nat_lt x.number y.number)

abbrev pub entry_of : Row → Waiting
entry_of h = record { priority = h.priority; number = h.number }

-- the entries of the rows that wait, in the order of the table
abbrev pub waiting_of : List Row → List Waiting
waiting_of rows = map entry_of (filter waits rows)
