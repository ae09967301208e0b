-- What the records of a day make the engine do, and the line that each call tells.
use Rattle.std.specs.Prelude.{ℕ, Bool, true, false, cond, List, [], ◌∷◌, ◌++◌, replicate, Some, None, Ok, Err, Option, Result, ◌==◌}
use Rattle.dayfile.specs.declared.record.Record.{Record}
use Rattle.dayfile.specs.declared.record.Record.TheVariants.{Nodes, Edge, Tree, Query as QueryRecord, Release as ReleaseRecord, Close as CloseRecord, Run}
use Rattle.lines.specs.declared.line.TextLine.{TextLine}
use Rattle.lines.specs.declared.line.TextLine.TheVariants.{Query, Start, No}
use Rattle.listing.specs.Scripts.{Script, Over, Broken, Next}
use Rattle.rules.specs.declared.call.Call.{Call}
use Rattle.rules.specs.declared.call.Call.TheVariants.{Book, Confirm, Release, Close, Slot}
use Rattle.rules.specs.declared.refusal.Refusal.{Refusal}
use Rattle.rules.specs.declared.round.Line.{Line}
use Rattle.rules.specs.Refusals.{code_of, named_by}
use Rattle.rules.specs.Rules.{View, book, wait}
use Rattle.rules.specs.Runs.{Answer, Numbered, Done, Listed, Refused, Moment, last_view}
use Rattle.std.specs.List.{find}
use Rattle.std.specs.Option.{option_map}

-- a record of the day, and not of the site
abbrev pub is_day : Record → Bool
is_day (Nodes n) = false
is_day (Edge a b) = false
is_day (Tree c p k) = false
is_day (QueryRecord h p d) = true
is_day (ReleaseRecord n) = true
is_day (CloseRecord n) = true
is_day (Run k) = true

-- the deadline of a query record: 0 stands for the period
abbrev pub deadline_of : ℕ → ℕ → ℕ
deadline_of period deadline = cond (deadline == 0) period deadline

-- how many lines a slot's list has room for
abbrev pub slot_room : ℕ
slot_room = 256

abbrev pub confirming : Result ℕ Refusal → List Call
confirming (Ok n) = Confirm n ∷ []
confirming (Err r) = []

-- the calls that a record makes on the engine: a query is booked and, if that is accepted, confirmed
abbrev pub calls_for : Record → View → List Call
calls_for (Nodes n) v = []
calls_for (Edge a b) v = []
calls_for (Tree c p k) v = []
calls_for (QueryRecord h p d) v = Book h p (deadline_of p d) ∷ confirming (book h p (deadline_of p d) v).0
calls_for (ReleaseRecord n) v = Release n ∷ []
calls_for (CloseRecord n) v = Close n ∷ []
calls_for (Run k) v = replicate k (Slot slot_room)

-- all calls of a day
abbrev pub calls_in : View → Script → List Call
calls_in v (Over o) = []
calls_in v (Broken f o) = []
calls_in v (Next r o rest) = cond (is_day r) (calls_for r v ++ calls_in (last_view v (calls_for r v)) rest) []

-- the number whose round starts: that of the line with step 0
abbrev pub starting : List Line → Option ℕ
starting ls = option_map (λ (l : Line). l.number) (find (λ (l : Line). l.step == 0) ls)

abbrev pub no_line : ℕ → Refusal → TextLine
no_line o r = No (code_of r) o (named_by r)

abbrev pub query_line : ℕ → ℕ → Result ℕ Refusal → TextLine
query_line o n (Ok w) = Query n w
query_line o n (Err r) = no_line o r

abbrev pub start_line : ℕ → Option ℕ → Option TextLine
start_line slot None = None
start_line slot (Some n) = Some (Start slot n)

-- the line of an answer: of a booking the number and its longest wait by the table after it, of a slot the start, if a
-- round starts, of a refusal its number
abbrev pub line_by : ℕ → ℕ → View → Answer → Option TextLine
line_by o slot after (Numbered n) = Some (query_line o n (wait n after))
line_by o slot after Done = None
line_by o slot after (Listed ls) = start_line slot (starting ls)
line_by o slot after (Refused r) = Some (no_line o r)

-- the line that one call tells, for the record at offset o
abbrev pub line_for : ℕ → Moment → Option TextLine
line_for o m = line_by o m.before.slot m.after m.answer
