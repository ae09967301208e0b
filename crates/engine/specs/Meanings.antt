-- What answers mean, apart from how they are found.
use Rattle.std.specs.Prelude.{◌≡◌, ℕ, ◌+◌, ◌≤◌, List, [], ◌∷◌, ◌++◌, Some, None, Ok, Err, Option, Result}
use Rattle.rules.specs.declared.refusal.Refusal.{Refusal}
use Rattle.rules.specs.declared.refusal.Refusal.TheVariants.{NotInTable}
use Rattle.rules.specs.declared.row.Row.{Row}
use Rattle.rules.specs.Laws.{NamesFirst}
use Rattle.rules.specs.Refusals.{named_by}
use Rattle.rules.specs.Rows.{booked_row, row_of}
use Rattle.rules.specs.Rules.{View}
use Rattle.rules.specs.Waits.{IsWait}

-- the wait of the query of a number: the least solution, with which its deadline is kept; or no query has the number
abbrev pub Waited : ℕ → View → Result ℕ Refusal → Type 0
Waited n v (Ok w) =
    (q : Row) × (row_of n v.rows ≡ Some q) × IsWait v.distance v.rows q w × (w + v.length ≤ q.deadline)
Waited n v (Err f) = (row_of n v.rows ≡ None) × (f ≡ NotInTable)

-- a refusal that names a query: it is the first in rank that would not keep its deadline
abbrev pub NamesLate : ℕ → ℕ → List Row → Option ℕ → Type 0
NamesLate length distance rows None = Unit {0}
NamesLate length distance rows (Some n) = (y : Row) × NamesFirst length distance rows (Some y) × (y.number ≡ n)

-- the answer to a query that is asked for, by the rows with it: accepted, every query keeps its deadline
abbrev pub Judged : ℕ → ℕ → List Row → Result ℕ Refusal → Type 0
Judged length distance rows (Ok n) = NamesFirst length distance rows None
Judged length distance rows (Err f) = NamesLate length distance rows (named_by f)

abbrev pub JudgedIn : View → ℕ → ℕ → ℕ → Result ℕ Refusal → Type 0
JudgedIn v priority period deadline r =
    Judged v.length v.distance (v.rows ++ booked_row v.next priority period deadline ∷ []) r
