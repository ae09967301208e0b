-- The start of a slot, by what it does to the table and whose round starts.
use Rattle.std.specs.Prelude.{ℕ, Bool, true, false, List, [], ◌∷◌, ◌++◌, map, Some, None, filter, Option}
use Rattle.rules.specs.declared.round.Round.{Round}
use Rattle.rules.specs.declared.row.Row.{Row}
use Rattle.rules.specs.Rows.{start_row, staying}
use Rattle.rules.specs.Rules.{View}

-- the number that starts, and the rows after: of the waiting row that ranks first, and whether it may start
abbrev pub started_rows : Option Row → Bool → List Row → Option ℕ × List Row
started_rows None may rows = (None, filter staying rows)
started_rows (Some y) false rows = (None, rows)
started_rows (Some y) true rows = (Some y.number, map (start_row y.number) rows)

-- the running rounds, and the slot of the last start, after a number started in the slot, if any
abbrev pub joined : Option ℕ → ℕ → List Round → List Round
joined None slot rounds = rounds
joined (Some n) slot rounds = rounds ++ (record { number = n; start = slot } ∷ [])

abbrev pub last_by : Option ℕ → ℕ → Option ℕ → Option ℕ
last_by None slot last = last
last_by (Some n) slot last = Some slot

-- the view after the start of a number, if any, with the rows
abbrev pub started_by : Option ℕ → List Row → View → View
started_by started rows v =
    record {
      length = v.length;
      distance = v.distance;
      slot = v.slot;
      last = last_by started v.slot v.last;
      running = joined started v.slot v.running;
      next = v.next;
      rows = rows;
    }
