-- Worked examples of the rules.
use Rattle.std.specs.Prelude.{◌≡◌, ℕ, List, [], ◌∷◌, ◌++◌, map, replicate, Some, Ok, Err}
use Rattle.rules.specs.declared.call.Call.{Call}
use Rattle.rules.specs.declared.call.Call.TheVariants.{Book, Confirm, Release, Close, Slot}
use Rattle.rules.specs.declared.refusal.Refusal.TheVariants.{Deadline}
use Rattle.rules.specs.declared.row.Row.{Row}
use Rattle.rules.specs.Refusals.{code_of}
use Rattle.rules.specs.Rows.{booked_row}
use Rattle.rules.specs.Waits.{wait_of}
use Rattle.rules.specs.Rules.{View, opened, book}
use Rattle.rules.specs.Runs.{Answer, Numbered, Done, Listed, Refused, Moment, history, last_view}
use Rattle.rules.specs.Promise.{gather, starts_of, releases_of}

-- three queries of priorities 1, 2, 3 and periods 60, 60, 100, the deadline of the third as given
abbrev pub first : Row
first = booked_row 1 1 60 40

abbrev pub second : Row
second = booked_row 2 2 60 40

abbrev pub third : ℕ → Row
third deadline = booked_row 3 3 100 deadline

abbrev pub three : List Row
three = first ∷ second ∷ third 40 ∷ []

abbrev pub booking : List Call
booking = Book 1 60 40 ∷ Book 2 60 40 ∷ []

abbrev pub run : ℕ → ℕ → List Call → List Moment
run L Δ calls = history (opened L Δ 0) calls

-- the slots in which rounds of n started
abbrev pub start_slots : ℕ → List Moment → List ℕ
start_slots n h = map (λ (v : View). v.slot) (starts_of n h)

abbrev pub code : Answer → List ℕ
code (Numbered n) = []
code Done = []
code (Listed ls) = []
code (Refused r) = code_of r ∷ []

-- the numbers of all refusals of a run
abbrev pub codes : List Moment → List ℕ
codes h = gather (λ m. code m.answer) h

abbrev pub slots : ℕ → List Call
slots k = replicate k (Slot 2)

-- low, middle and high, released in slots 0, 2 and 6
abbrev pub inversion : List Call
inversion =
    (Book 3 100 100 ∷ Book 2 100 100 ∷ Book 1 100 100 ∷ Confirm 1 ∷ Confirm 2 ∷ Confirm 3 ∷ Release 1 ∷ [])
    ++ slots 2 ++ (Release 2 ∷ []) ++ slots 4 ++ (Release 3 ∷ []) ++ slots 12

-- one query of period 60, released in slots 5, 64 and 65
abbrev pub early : List Call
early = (Book 1 60 60 ∷ Confirm 1 ∷ []) ++ slots 5 ++ (Release 1 ∷ []) ++ slots 59 ++ (Release 1 ∷ []) ++ slots 1 ++ (Release 1 ∷ [])

-- a leaving query with a round that waits, and another released in slot 2
abbrev pub leaving : List Call
leaving = Book 1 100 100 ∷ Book 2 100 100 ∷ Confirm 1 ∷ Confirm 2 ∷ Release 1 ∷ Close 1 ∷ Slot 2 ∷ []

abbrev pub removed : List Call
removed = leaving ++ slots 1

abbrev pub following : List Call
following = removed ++ (Release 2 ∷ []) ++ slots 8

abbrev pub numbers : List Row → List ℕ
numbers rows = map (λ (h : Row). h.number) rows

pub record Worked : Type 0 where
  -- length 15, distance 8: the waits are 7, 15, 23
  pub wait_first : wait_of 8 three first ≡ Some 7
  pub wait_second : wait_of 8 three second ≡ Some 15
  pub wait_third : wait_of 8 three (third 40) ≡ Some 23
  -- the third is accepted with the deadline 38, and refused with 37, naming itself
  pub accepts : (book 3 100 38 (last_view (opened 15 8 0) booking)).0 ≡ Ok 3
  pub refuses : (book 3 100 37 (last_view (opened 15 8 0) booking)).0 ≡ Err (Deadline 3)
  -- before all three, priority 0 with period and deadline 25 is refused, naming the third, whose wait would be 39
  pub urgent_wait : wait_of 8 (three ++ (booked_row 4 0 25 25 ∷ [])) (third 40) ≡ Some 39
  pub urgent : (book 0 25 25 (last_view (opened 15 8 0) (booking ++ (Book 3 100 40 ∷ [])))).0 ≡ Err (Deadline 3)
  -- low, middle and high start in slots 0, 16 and 8
  pub low : start_slots 1 (run 15 8 inversion) ≡ 0 ∷ []
  pub middle : start_slots 2 (run 15 8 inversion) ≡ 16 ∷ []
  pub high : start_slots 3 (run 15 8 inversion) ≡ 8 ∷ []
  -- after a release in slot 5, that in 64 is refused by 26, and that in 65 is accepted
  pub early_refused : codes (run 15 8 early) ≡ 26 ∷ []
  pub early_accepted : releases_of 1 (run 15 8 early) ≡ 5 ∷ 65 ∷ []
  -- the round of a leaving query starts in slot 0, the query is removed in slot 1, and a release in slot 2 starts in slot 8
  pub leaves : start_slots 1 (run 15 8 following) ≡ 0 ∷ []
  pub stays : numbers (last_view (opened 15 8 0) leaving).rows ≡ 1 ∷ 2 ∷ []
  pub goes : numbers (last_view (opened 15 8 0) removed).rows ≡ 2 ∷ []
  pub follows : start_slots 2 (run 15 8 following) ≡ 8 ∷ []
  -- length and distance 1, the query before has the period 2: the wait is 1
  pub wait_one : wait_of 1 (booked_row 1 1 2 2 ∷ booked_row 2 2 9 9 ∷ []) (booked_row 2 2 9 9) ≡ Some 1
