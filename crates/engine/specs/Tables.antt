-- What holds of the rows of a table, and a table with one more row.
use Rattle.std.specs.Prelude.{◌≡◌, ℕ, ◌≤◌, Bool, true, false, not, List, ◌++◌, Some, None, Option}
use Rattle.rules.specs.declared.row.Row.{Row}
use Rattle.rules.specs.Rows.{before}
use Rattle.rules.specs.Waits.{keeps}
use mathlib.Core.Bool.{Bool-set}
use Rattle.std.specs.Option.{option_to_list}

-- the period of a row is not 0
abbrev pub Fair : Row → Type 0
Fair h = 1 ≤ h.period

-- the rows and one more, if there is one
abbrev pub queries_of : List Row → Option Row → List Row
queries_of rows extra = rows ++ option_to_list extra

-- whether a row has a new one to wait for: it does not rank before it
abbrev pub feels : Option Row → Row → Bool
feels None h = false
feels (Some x) h = not (before h x)

-- the row keeps its deadline by the table
abbrev pub Kept : ℕ → ℕ → List Row → Row → Type 0
Kept length distance rows h = keeps length distance rows h ≡ true

pub Kept-prop : (length distance : ℕ) (rows : List Row) (h : Row) → IsProp (Kept length distance rows h)
Kept-prop length distance rows h = Bool-set _ _
