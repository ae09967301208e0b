-- Rows of the table: rank, the row of a number, the row that ranks first among those that pass a test.
use Rattle.std.specs.Prelude.{ℕ, ◌+◌, Bool, cond, not, ◌&&◌, ◌||◌, List, [], ◌∷◌, Some, None, Option, ◌==◌, nat_lt}
use Rattle.rules.specs.declared.phase.Phase.{Phase}
use Rattle.rules.specs.declared.phase.Phase.TheVariants.{Booked, Ready, Waiting}
use Rattle.rules.specs.declared.row.Row.{Row}
use Rattle.rules.specs.Phases.{is_leaving, is_waiting, started, closed}

-- h ranks before q: smaller priority, then smaller number
abbrev pub before : Row → Row → Bool
before h q = nat_lt h.priority q.priority || (h.priority == q.priority && nat_lt h.number q.number)

abbrev pub has_number : ℕ → Row → Bool
has_number n h = h.number == n

abbrev pub waits : Row → Bool
waits h = is_waiting h.phase

-- the row of a number
abbrev pub row_of : ℕ → List Row → Option Row
row_of n [] = None
row_of n (h ∷ rows) = cond (has_number n h) (Some h) (row_of n rows)

-- a row, if it passes the test and ranks before what was found among the rows after it
abbrev pub better : (Row → Bool) → Row → Option Row → Option Row
better test h None = cond (test h) (Some h) None
better test h (Some y) = cond (test h && before h y) (Some h) (Some y)

-- the row that ranks first among those that pass the test
abbrev pub first_in_rank : (Row → Bool) → List Row → Option Row
first_in_rank test [] = None
first_in_rank test (h ∷ rows) = better test h (first_in_rank test rows)

-- What the calls make of a row

abbrev pub booked_row : ℕ → ℕ → ℕ → ℕ → Row
booked_row number priority period deadline =
    record { number = number; priority = priority; period = period; deadline = deadline; earliest = 0; phase = Booked }

abbrev pub at_phase : Row → Phase → Row
at_phase h p =
    record { number = h.number; priority = h.priority; period = h.period; deadline = h.deadline; earliest = h.earliest; phase = p }

-- the row of the number n is confirmed, released in slot s, started, closed; every other row is as it was
abbrev pub confirm_row : ℕ → Row → Row
confirm_row n h = at_phase h (cond (has_number n h) Ready h.phase)

abbrev pub release_row : ℕ → ℕ → Row → Row
release_row s n h =
    record {
      number = h.number;
      priority = h.priority;
      period = h.period;
      deadline = h.deadline;
      earliest = cond (has_number n h) (s + h.period) h.earliest;
      phase = cond (has_number n h) (Waiting s) h.phase;
    }

abbrev pub start_row : ℕ → Row → Row
start_row n h = at_phase h (cond (has_number n h) (started h.phase) h.phase)

abbrev pub close_row : ℕ → Row → Row
close_row n h = at_phase h (cond (has_number n h) (closed h.phase) h.phase)

-- the rows that stay when the row of a number is withdrawn, and when leaving rows go
abbrev pub other_than : ℕ → Row → Bool
other_than n h = not (has_number n h)

abbrev pub staying : Row → Bool
staying h = not (is_leaving h.phase)
