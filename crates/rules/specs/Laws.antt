-- What waits and admission are, apart from how they are found.
use Rattle.std.specs.Prelude.{◌≡◌, ℕ, ◌+◌, ◌≤◌, true, List, length, Some, None, Ok, Option}
use Rattle.rules.specs.declared.call.Call.{Call}
use Rattle.rules.specs.declared.row.Row.{Row}
use Rattle.rules.specs.Lists.{◌∈◌}
use Rattle.rules.specs.Rows.{before}
use Rattle.rules.specs.Waits.{IsWait, wait_of, first_late}
use Rattle.rules.specs.Rules.{View, opened, book, trial, start_any, lines_now, most_lines, wait}
use Rattle.rules.specs.Runs.{last_view}

-- the query has a longest wait, and a round that starts so late still ends by the deadline
pub record KeepsDeadline (L Δ : ℕ) (rows : List Row) (q : Row) : Type 0 where
  pub longest : ℕ
  pub is_longest : IsWait Δ rows q longest
  pub ends : longest + L ≤ q.deadline

-- every query keeps its deadline; or y is the first in rank that does not
abbrev pub NamesFirst : ℕ → ℕ → List Row → Option Row → Type 0
NamesFirst L Δ rows None = (q : Row) → q ∈ rows → KeepsDeadline L Δ rows q
NamesFirst L Δ rows (Some y) =
    (y ∈ rows) × (KeepsDeadline L Δ rows y → ⊥) × ((h : Row) → h ∈ rows → before h y ≡ true → KeepsDeadline L Δ rows h)

-- the search for a wait finds the least solution, and finds it where it is at most 60,000
abbrev pub WaitLeast : Type 0
WaitLeast = (Δ : ℕ) (rows : List Row) (q : Row) (w : ℕ) → wait_of Δ rows q ≡ Some w → IsWait Δ rows q w

abbrev pub WaitFound : Type 0
WaitFound = (Δ : ℕ) (rows : List Row) (q : Row) (w : ℕ) → IsWait Δ rows q w → w ≤ 60000 → wait_of Δ rows q ≡ Some w

-- admission names exactly the first in rank that has no longest wait W with W + L ≤ D
abbrev pub Admission : Type 0
Admission =
    (L Δ : ℕ) (rows : List Row) → ((q : Row) → q ∈ rows → q.deadline ≤ 60000) → NamesFirst L Δ rows (first_late L Δ rows)

-- a trial answers what a booking would, and leaves everything as it is
abbrev pub TrialSame : Type 0
TrialSame =
    (priority period deadline : ℕ) (v : View) →
    ((trial priority period deadline v).0 ≡ (book priority period deadline v).0) × ((trial priority period deadline v).1 ≡ v)

-- in every engine that a run leads to, the longest wait of each query in the table is answered, and it keeps its deadline
abbrev pub WaitAnswered : Type 0
WaitAnswered =
    (L Δ first : ℕ) → 1 ≤ L → 1 ≤ Δ → (calls : List Call) (q : Row) → q ∈ (last_view (opened L Δ first) calls).rows →
    (w : ℕ) × (wait q.number (last_view (opened L Δ first) calls) ≡ Ok w) × IsWait Δ (last_view (opened L Δ first) calls).rows q w × (w + L ≤ q.deadline)

-- and a slot has at most as many lines as the list must have room for
abbrev pub LinesFit : Type 0
LinesFit =
    (L Δ first : ℕ) → 1 ≤ L → 1 ≤ Δ → (calls : List Call) →
    length (lines_now (start_any (last_view (opened L Δ first) calls))) ≤ most_lines (last_view (opened L Δ first) calls)
