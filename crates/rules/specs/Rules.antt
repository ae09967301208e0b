-- The rules of the engine: what each call answers, and what it leaves.
use Rattle.std.specs.Prelude.{ℕ, ◌+◌, ◌-◌, ◌/◌, Bool, true, false, cond, not, ◌&&◌, List, [], ◌∷◌, ◌++◌, map, length, Some, None, Ok, Err, filter, Option, Result, ◌==◌, nat_le, nat_lt}
use Rattle.routing.specs.Search.{or_else}
use Rattle.rules.specs.declared.refusal.Refusal.{Refusal}
use Rattle.rules.specs.declared.refusal.Refusal.TheVariants.{FirstSlot, Terms, Numbers, TableFull, Deadline, NotBooked, NotOpen, TooEarly, RoundWaits, LastSlot, ShortList, NotInTable}
use Rattle.rules.specs.declared.round.Line.{Line}
use Rattle.rules.specs.declared.round.Round.{Round}
use Rattle.rules.specs.declared.row.Row.{Row}
use Rattle.rules.specs.Phases.{is_booked, is_open}
use Rattle.rules.specs.Rows.{row_of, waits, first_in_rank, booked_row, confirm_row, release_row, start_row, close_row, other_than, staying}
use Rattle.rules.specs.Waits.{wait_of, first_late}

-- an engine: length and distance of its plan, the next slot, the slot of the last start, the running rounds, oldest
-- start first, the next booking number, and the table
pub record View : Type 0 where
  pub length : ℕ
  pub distance : ℕ
  pub slot : ℕ
  pub last : Option ℕ
  pub running : List Round
  pub next : ℕ
  pub rows : List Row

abbrev pub with_rows : View → List Row → View
with_rows v rows =
    record {
      length = v.length;
      distance = v.distance;
      slot = v.slot;
      last = v.last;
      running = v.running;
      next = v.next;
      rows = rows;
    }

-- a refusal, where the test holds
abbrev pub when : Bool → Refusal → Option Refusal
when test r = cond test (Some r) None

-- Open

abbrev pub last_slot : ℕ
last_slot = 1000000000000

abbrev pub opened : ℕ → ℕ → ℕ → View
opened length distance first =
    record { length = length; distance = distance; slot = first; last = None; running = []; next = 1; rows = [] }

abbrev pub open_at : ℕ → ℕ → ℕ → Result View Refusal
open_at length distance first = cond (nat_lt last_slot first) (Err FirstSlot) (Ok (opened length distance first))

-- Book and Trial

-- 1 ≤ deadline ≤ period ≤ 60,000
abbrev pub fair : ℕ → ℕ → Bool
fair period deadline = nat_le 1 deadline && (nat_le deadline period && nat_le period 60000)

abbrev pub naming : Option Row → Option Refusal
naming None = None
naming (Some q) = Some (Deadline q.number)

-- why the row is not booked
abbrev pub book_refusal : Row → View → Option Refusal
book_refusal x v =
    or_else (when (not (fair x.period x.deadline)) Terms)
    (or_else (when (nat_lt 1000000 v.next) Numbers)
    (or_else (when (nat_le 32 (length v.rows)) TableFull)
    (naming (first_late v.length v.distance (v.rows ++ (x ∷ []))))))

abbrev pub book_with : Option Refusal → Row → View → Result ℕ Refusal × View
book_with (Some r) x v = (Err r, v)
book_with None x v = (
  Ok v.next,
  record {
    length = v.length;
    distance = v.distance;
    slot = v.slot;
    last = v.last;
    running = v.running;
    next = v.next + 1;
    rows = v.rows ++ (x ∷ []);
  },
)

abbrev pub book : ℕ → ℕ → ℕ → View → Result ℕ Refusal × View
book priority period deadline v =
    let x = booked_row v.next priority period deadline in
    book_with (book_refusal x v) x v

abbrev pub trial_with : Option Refusal → View → Result ℕ Refusal × View
trial_with (Some r) v = (Err r, v)
trial_with None v = (Ok v.next, v)

abbrev pub trial : ℕ → ℕ → ℕ → View → Result ℕ Refusal × View
trial priority period deadline v = trial_with (book_refusal (booked_row v.next priority period deadline) v) v

-- Confirm, Withdraw, Release and Close: refused, or the table is as given

abbrev pub settle : Option Refusal → List Row → View → Result (Unit {0}) Refusal × View
settle (Some r) rows v = (Err r, v)
settle None rows v = (Ok tt, with_rows v rows)

abbrev pub unless_booked : Option Row → Option Refusal
unless_booked None = Some NotBooked
unless_booked (Some q) = when (not (is_booked q.phase)) NotBooked

abbrev pub confirm : ℕ → View → Result (Unit {0}) Refusal × View
confirm n v = settle (unless_booked (row_of n v.rows)) (map (confirm_row n) v.rows) v

abbrev pub withdraw : ℕ → View → Result (Unit {0}) Refusal × View
withdraw n v = settle (unless_booked (row_of n v.rows)) (filter (other_than n) v.rows) v

abbrev pub release_refusal : Option Row → ℕ → Option Refusal
release_refusal None slot = Some NotOpen
release_refusal (Some q) slot =
    or_else (when (not (is_open q.phase)) NotOpen)
    (or_else (when (nat_lt slot q.earliest) TooEarly)
    (when (waits q) RoundWaits))

abbrev pub release : ℕ → View → Result (Unit {0}) Refusal × View
release n v = settle (release_refusal (row_of n v.rows) v.slot) (map (release_row v.slot n) v.rows) v

abbrev pub unless_open : Option Row → Option Refusal
unless_open None = Some NotOpen
unless_open (Some q) = when (not (is_open q.phase)) NotOpen

abbrev pub close : ℕ → View → Result (Unit {0}) Refusal × View
close n v = settle (unless_open (row_of n v.rows)) (map (close_row n) v.rows) v

-- Slot

-- no start yet, or the last one lies at least the distance back
abbrev pub may_start : ℕ → Option ℕ → ℕ → Bool
may_start distance None slot = true
may_start distance (Some t) slot = nat_le distance (slot - t)

-- the waiting row that ranks first starts, if it may; where no row waits, the leaving rows go
abbrev pub start_with : Option Row → Bool → View → View
start_with None may v = with_rows v (filter staying v.rows)
start_with (Some y) false v = v
start_with (Some y) true v =
    record {
      length = v.length;
      distance = v.distance;
      slot = v.slot;
      last = Some v.slot;
      running = v.running ++ (record { number = y.number; start = v.slot } ∷ []);
      next = v.next;
      rows = map (start_row y.number) v.rows;
    }

abbrev pub start_any : View → View
start_any v = start_with (first_in_rank waits v.rows) (may_start v.distance v.last v.slot) v

-- what a running round does in a slot
abbrev pub line_at : ℕ → Round → Line
line_at slot r = record { number = r.number; step = slot - r.start }

abbrev pub lines_now : View → List Line
lines_now v = map (line_at v.slot) v.running

-- a round has a step left for the slot
abbrev pub runs_in : ℕ → ℕ → Round → Bool
runs_in length slot r = nat_lt (slot - r.start) length

-- the slot is over, and the rounds that have no step left go
abbrev pub slot_over : View → View
slot_over v =
    record {
      length = v.length;
      distance = v.distance;
      slot = v.slot + 1;
      last = v.last;
      running = filter (runs_in v.length (v.slot + 1)) v.running;
      next = v.next;
      rows = v.rows;
    }

-- how many lines a slot can have: length ÷ distance, rounded up
abbrev pub most_lines : View → ℕ
most_lines v = (v.length + (v.distance - 1)) / v.distance

abbrev pub slot_refusal : ℕ → View → Option Refusal
slot_refusal room v = or_else (when (v.slot == last_slot) LastSlot) (when (nat_lt room (most_lines v)) ShortList)

-- w: the view after the start, if any
abbrev pub slot_with : Option Refusal → View → View → Result (List Line) Refusal × View
slot_with (Some r) w v = (Err r, v)
slot_with None w v = (Ok (lines_now w), slot_over w)

abbrev pub slot : ℕ → View → Result (List Line) Refusal × View
slot room v = slot_with (slot_refusal room v) (start_any v) v

-- Wait

abbrev pub or_not_in_table : Option ℕ → Result ℕ Refusal
or_not_in_table None = Err NotInTable
or_not_in_table (Some w) = Ok w

abbrev pub wait_in : Option Row → View → Result ℕ Refusal
wait_in None v = Err NotInTable
wait_in (Some q) v = or_not_in_table (wait_of v.distance v.rows q)

-- every query in the table of an engine has a longest wait
abbrev pub wait : ℕ → View → Result ℕ Refusal
wait n v = wait_in (row_of n v.rows) v
