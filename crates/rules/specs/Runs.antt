-- Runs of calls: what each call found, answered and left.
use Rattle.std.specs.Prelude.{ℕ, Bool, true, false, List, [], ◌∷◌, Ok, Err, Result, ◌==◌}
use Rattle.rules.specs.declared.call.Call.{Call}
use Rattle.rules.specs.declared.call.Call.TheVariants.{Book, Trial, Confirm, Withdraw, Release, Close, Slot}
use Rattle.rules.specs.declared.refusal.Refusal.{Refusal}
use Rattle.rules.specs.declared.round.Line.{Line}
use Rattle.rules.specs.Rules.{View, book, trial, confirm, withdraw, release, close, slot}

-- what a call answers: a booking number, nothing, the lines of a slot, or a refusal
pub data Answer : Type 0 where
  Numbered : ℕ → Answer
  Done : Answer
  Listed : List Line → Answer
  Refused : Refusal → Answer

abbrev pub numbered : Result ℕ Refusal × View → Answer × View
numbered o = (elim o.0 [ Ok n ↦ Numbered n | Err r ↦ Refused r ], o.1)

abbrev pub done : Result (Unit {0}) Refusal × View → Answer × View
done o = (elim o.0 [ Ok u ↦ Done | Err r ↦ Refused r ], o.1)

abbrev pub listed : Result (List Line) Refusal × View → Answer × View
listed o = (elim o.0 [ Ok ls ↦ Listed ls | Err r ↦ Refused r ], o.1)

-- what a call answers, and what it leaves
abbrev pub step : Call → View → Answer × View
step (Book priority period deadline) v = numbered (book priority period deadline v)
step (Trial priority period deadline) v = numbered (trial priority period deadline v)
step (Confirm n) v = done (confirm n v)
step (Withdraw n) v = done (withdraw n v)
step (Release n) v = done (release n v)
step (Close n) v = done (close n v)
step (Slot room) v = listed (slot room v)

-- one call of a run: what it found, what was called, what it answered, what it left
pub record Moment : Type 0 where
  pub before : View
  pub call : Call
  pub answer : Answer
  pub after : View

abbrev pub moment : View → Call → Moment
moment v c = record { before = v; call = c; answer = (step c v).0; after = (step c v).1 }

-- every call of a run, in order
abbrev pub history : View → List Call → List Moment
history v [] = []
history v (c ∷ cs) = moment v c ∷ history (step c v).1 cs

-- what a run leaves
abbrev pub last_view : View → List Call → View
last_view v [] = v
last_view v (c ∷ cs) = last_view (step c v).1 cs

-- What call and answer tell

-- not refused
abbrev pub accepted : Answer → Bool
accepted (Numbered n) = true
accepted Done = true
accepted (Listed ls) = true
accepted (Refused r) = false

-- the lines that the call wrote: only a slot writes any
abbrev pub lines_by : Answer → List Line
lines_by (Numbered n) = []
lines_by Done = []
lines_by (Listed ls) = ls
lines_by (Refused r) = []

-- a slot that was not refused answers its lines
abbrev pub ran_by : Answer → Bool
ran_by (Numbered n) = false
ran_by Done = false
ran_by (Listed ls) = true
ran_by (Refused r) = false

-- the number n was answered
abbrev pub gives : ℕ → Answer → Bool
gives n (Numbered k) = k == n
gives n Done = false
gives n (Listed ls) = false
gives n (Refused r) = false

abbrev pub is_release : ℕ → Call → Bool
is_release n (Book priority period deadline) = false
is_release n (Trial priority period deadline) = false
is_release n (Confirm k) = false
is_release n (Withdraw k) = false
is_release n (Release k) = k == n
is_release n (Close k) = false
is_release n (Slot room) = false

-- the terms of a booking
pub record Booking : Type 0 where
  pub priority : ℕ
  pub period : ℕ
  pub deadline : ℕ

-- what the call asks to book
abbrev pub asked : Call → List Booking
asked (Book priority period deadline) = record { priority = priority; period = period; deadline = deadline } ∷ []
asked (Trial priority period deadline) = []
asked (Confirm k) = []
asked (Withdraw k) = []
asked (Release k) = []
asked (Close k) = []
asked (Slot room) = []
