-- The longest wait of a query by a table, and whether it keeps its deadline.
use Rattle.std.specs.Prelude.{◌≡◌, ℕ, ◌+◌, ◌-◌, ◌*◌, ◌/◌, ◌≤◌, Bool, false, cond, not, List, Some, None, Option, nat_eq, nat_le}
use Rattle.routing.specs.Search.{first_below}
use Rattle.rules.specs.declared.row.Row.{Row}
use Rattle.rules.specs.Lists.{total}
use Rattle.rules.specs.Rows.{before, first_in_rank}

-- how many rounds of h can be released in w + 1 slots
abbrev pub rounds : ℕ → Row → ℕ
rounds w h = w / h.period + 1

-- what h weighs against q: f h if h ranks before q, else nothing
abbrev pub against : Row → (Row → ℕ) → Row → ℕ
against q f h = cond (before h q) (f h) 0

-- the rounds of all rows before q that can be released in w + 1 slots
abbrev pub load : List Row → Row → ℕ → ℕ
load rows q w = total (against q (rounds w)) rows

-- how long q waits at most, if the rows before it are released as often as they may be in w + 1 slots
abbrev pub demand : ℕ → List Row → Row → ℕ → ℕ
demand distance rows q w = distance - 1 + distance * load rows q w

-- w is the longest wait of q: a solution of w = demand w, and no smaller one is
pub record IsWait (distance : ℕ) (rows : List Row) (q : Row) (w : ℕ) : Type 0 where
  pub solves : demand distance rows q w ≡ w
  pub least : (x : ℕ) → demand distance rows q x ≡ x → w ≤ x

-- the longest wait, if it is at most 60,000, as is that of every query in the table
abbrev pub wait_of : ℕ → List Row → Row → Option ℕ
wait_of distance rows q = first_below (λ w. nat_eq (demand distance rows q w) w) 60001

abbrev pub ends_by : Option ℕ → ℕ → ℕ → Bool
ends_by None length deadline = false
ends_by (Some w) length deadline = nat_le (w + length) deadline

-- q has a longest wait, and a round that starts so late still ends by the deadline
abbrev pub keeps : ℕ → ℕ → List Row → Row → Bool
keeps length distance rows q = ends_by (wait_of distance rows q) length q.deadline

-- the row that ranks first among those that do not keep their deadline
abbrev pub first_late : ℕ → ℕ → List Row → Option Row
first_late length distance rows = first_in_rank (λ q. not (keeps length distance rows q)) rows
