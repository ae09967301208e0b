-- The promise over every run of an engine, said of what happened in the run: accepted releases, starts, lines, and the
-- tables as the slots found them.
use Rattle.std.specs.Prelude.{◌≡◌, ℕ, ◌+◌, ◌-◌, ◌/◌, ◌<◌, ◌≤◌, Bool, false, cond, ◌&&◌, List, [], ◌∷◌, ◌++◌, length, Some, ◌==◌, nat_eq, nat_le, nat_lt}
use Rattle.std.specs.List.{range_with_len, slice_get}
use Rattle.interference.specs.declared.transmission.Transmission.{Transmission}
use Rattle.rules.specs.declared.call.Call.{Call}
use Rattle.rules.specs.declared.round.Line.{Line}
use Rattle.rules.specs.declared.row.Row.{Row}
use Rattle.rules.specs.Lists.{◌∈◌, count}
use Rattle.rules.specs.Rows.{row_of}
use Rattle.rules.specs.Waits.{IsWait}
use Rattle.rules.specs.Rules.{View, opened}
use Rattle.rules.specs.Runs.{Moment, history, last_view, accepted, lines_by, ran_by, gives, is_release, Booking, asked}

-- What happened in a run

-- what f reads off each call of the run, in order
abbrev pub gather : {X : Type 0} → (Moment → List X) → List Moment → List X
gather f [] = []
gather f (m ∷ h) = f m ++ gather f h

-- the slots in which a release of n was accepted
abbrev pub releases_in : ℕ → Moment → List ℕ
releases_in n m = cond (is_release n m.call && accepted m.answer) (m.before.slot ∷ []) []

abbrev pub releases_of : ℕ → List Moment → List ℕ
releases_of n = gather (releases_in n)

-- the lines of slot u
abbrev pub lines_in : ℕ → Moment → List Line
lines_in u m = cond (m.before.slot == u) (lines_by m.answer) []

abbrev pub lines_of : ℕ → List Moment → List Line
lines_of u = gather (lines_in u)

-- the slots that ran
abbrev pub slots_of : List Moment → List ℕ
slots_of = gather (λ m. cond (ran_by m.answer) (m.before.slot ∷ []) [])

-- how often the line (n, i) stands in the list
abbrev pub is_line : ℕ → ℕ → Line → Bool
is_line n i l = l.number == n && l.step == i

abbrev pub times : ℕ → ℕ → List Line → ℕ
times n i ls = count (is_line n i) ls

-- the starts of n: what each slot found that wrote a line (n, 0)
abbrev pub starts_in : ℕ → Moment → List View
starts_in n m = cond (nat_le 1 (times n 0 (lines_by m.answer))) (m.before ∷ []) []

abbrev pub starts_of : ℕ → List Moment → List View
starts_of n = gather (starts_in n)

-- how many rounds of n started in slot u
abbrev pub started_in : ℕ → ℕ → List Moment → ℕ
started_in n u h = count (λ v. nat_eq v.slot u) (starts_of n h)

-- the terms that n was booked with: of each accepted booking that gave it out
abbrev pub bookings_of : ℕ → List Moment → List Booking
bookings_of n = gather (λ m. cond (gives n m.answer) (asked m.call) [])

-- What is promised of it

-- no two transmissions of the list conflict
abbrev pub Apart : (Transmission → Transmission → Bool) → List Transmission → Type 0
Apart conflict [] = Unit {0}
Apart conflict (a ∷ xs) = ((b : Transmission) → b ∈ xs → conflict a b ≡ false) × Apart conflict xs

-- the transmissions of all lines of a slot
abbrev pub transmissions_of : (ℕ → List Transmission) → List Line → List Transmission
transmissions_of part [] = []
transmissions_of part (l ∷ ls) = part l.step ++ transmissions_of part ls

-- n has a row in the table, and has waited for at most its longest wait by that table
pub record Within (Δ n : ℕ) (rows : List Row) (waited : ℕ) : Type 0 where
  pub row : Row
  pub stands : row_of n rows ≡ Some row
  pub longest : ℕ
  pub is_longest : IsWait Δ rows row longest
  pub within : waited ≤ longest

-- a round of n released in slot r started in the slot that found the view v: not before its release, within its longest
-- wait by the table of that slot, and so that it ends by the deadline it was booked with
pub record InTime (L Δ n : ℕ) (h : List Moment) (r : ℕ) (v : View) : Type 0 where
  pub later : r ≤ v.slot
  pub waited : Within Δ n v.rows (v.slot - r)
  pub terms : Booking
  pub booked : bookings_of n h ≡ terms ∷ []
  pub ends : v.slot - r + L ≤ terms.deadline

-- the promise of a run from slot first on, with the calls h, that left the view now
pub record Kept (L Δ first : ℕ) (part : ℕ → List Transmission) (conflict : Transmission → Transmission → Bool) (h : List Moment) (now : View) : Type 0 where
  -- the slots ran one after the other, each once, and now is the next
  pub ran : slots_of h ≡ range_with_len first (length (slots_of h))
  pub next : now.slot ≡ first + length (slots_of h)
  -- in no slot two transmissions conflict, of two lines or of one step
  pub apart : (u : ℕ) → Apart conflict (transmissions_of part (lines_of u h))
  -- the j-th start of n is the start of its j-th release, in time
  pub follows : (n j : ℕ) (v : View) → slice_get (starts_of n h) j ≡ Some v → (r : ℕ) × (slice_get (releases_of n h) j ≡ Some r) × InTime L Δ n h r v
  -- a slot u that ran has the line (n, i) exactly once if a round of n started in slot u - i, for i below L; and no other line
  pub steps : (u n i : ℕ) → u ∈ slots_of h → times n i (lines_of u h) ≡ cond (nat_lt i L && nat_le i u) (started_in n (u - i) h) 0
  pub once : (n u : ℕ) → started_in n u h ≤ 1
  -- at most one release of n has no start yet, and it has waited for at most the longest wait by the present table
  pub single : (n : ℕ) → length (releases_of n h) ≤ length (starts_of n h) + 1
  pub pending : (n j r : ℕ) → slice_get (releases_of n h) j ≡ Some r → length (starts_of n h) ≤ j →
      (r ≤ now.slot) × Within Δ n now.rows (now.slot - r)
  -- among any m slots in a row, n starts at most 1 + (m - 1 + D - L) / P rounds
  pub share : (n a m : ℕ) (b : Booking) → 1 ≤ m → bookings_of n h ≡ b ∷ [] →
      count (λ v. nat_le a v.slot && nat_lt v.slot (a + m)) (starts_of n h) ≤ 1 + (m - 1 + (b.deadline - L)) / b.period

-- a plan fit to run: within a step no two transmissions conflict, nor in two steps that lie Δ or more apart
pub record Fit (L Δ : ℕ) (part : ℕ → List Transmission) (conflict : Transmission → Transmission → Bool) : Type 0 where
  pub symmetric : (a b : Transmission) → conflict a b ≡ conflict b a
  pub alone : (i : ℕ) → i < L → Apart conflict (part i)
  pub distant : (i j : ℕ) → i + Δ ≤ j → j < L → (a b : Transmission) → a ∈ part i → b ∈ part j → conflict a b ≡ false

-- of every list of calls on a newly opened engine
abbrev pub Promise : (L Δ first : ℕ) → (ℕ → List Transmission) → (Transmission → Transmission → Bool) → Type 0
Promise L Δ first part conflict =
    (calls : List Call) → Kept L Δ first part conflict (history (opened L Δ first) calls) (last_view (opened L Δ first) calls)

-- of every plan and every first slot
abbrev pub Promised : Type 0
Promised =
    (L Δ first : ℕ) (part : ℕ → List Transmission) (conflict : Transmission → Transmission → Bool) →
    1 ≤ L → 1 ≤ Δ → Fit L Δ part conflict → Promise L Δ first part conflict
