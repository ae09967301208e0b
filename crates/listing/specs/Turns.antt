-- A listing in the making: what is written, and the story that is still to tell.
use Rattle.std.specs.Prelude.{◌≡◌, ℕ, ◌≤◌, List, ◌++◌, length, drop, replicate, Some, Ok, Err, Option, Result}
use Rattle.dayfile.specs.declared.record.Record.{Record}
use Rattle.lines.specs.declared.line.TextLine.{TextLine}
use Rattle.listing.specs.declared.page.Page.{Page}
use Rattle.listing.specs.declared.stop.StopFault.{StopFault}
use Rattle.listing.specs.Days.{calls_for, line_for, no_line, slot_room}
use Rattle.listing.specs.Listings.{Ends, Story, day_story, fitted, prepend, told, told_by}
use Rattle.listing.specs.Scripts.{Script, Next}
use Rattle.listing.specs.Stops.{stopped}
use Rattle.rules.specs.declared.call.Call.{Call}
use Rattle.rules.specs.declared.call.Call.TheVariants.{Slot}
use Rattle.rules.specs.declared.refusal.Refusal.{Refusal}
use Rattle.rules.specs.Rules.{View}
use Rattle.rules.specs.Runs.{history, last_view, moment, step}

-- of the whole story, told onto a page whose list held out₀: the text up to its place is written, and s is left to tell
pub record Sofar (whole : Story) (out₀ : List ℕ) (p : Page) (s : Story) : Type 0 where
  pub text : List ℕ
  pub place : p.at ≡ length text
  pub room : length text ≤ length out₀
  pub kept : p.out.now ≡ text ++ drop (length text) out₀
  pub goes : fitted (length out₀) 0 whole ≡ prepend text (fitted (length out₀) p.at s)

-- from one state of the page to the next, the story was told up to where s is left
abbrev pub Turned : Story → Page → Story → Page → Type 0
Turned before p s p' = (whole : Story) (out₀ : List ℕ) → Sofar whole out₀ p before → Sofar whole out₀ p' s

-- the story goes on with s, or it stops at offset o
abbrev pub left : Result (Unit {0}) StopFault → ℕ → Story → Story
left (Ok u) o s = s
left (Err f) o s = Ends (stopped f o)

-- a line, if there is one, was told; or it does not fit, and the listing stops
abbrev pub Told : Option TextLine → Page → Page → Result (Unit {0}) StopFault → Type 0
Told line p p' r = (o : ℕ) (s : Story) → Turned (told_by line o s) p (left r o s) p'

-- the line of what came of a call for the record at offset o
abbrev pub outcome_line : ℕ → Result (Option TextLine) Refusal → Option TextLine
outcome_line o (Ok line) = line
outcome_line o (Err r) = Some (no_line o r)

-- one call on the engine, and the line that it tells
abbrev pub Called : Call → View → View → Result (Option TextLine) Refusal → Type 0
Called call v v' r = (v' ≡ (step call v).1) × ((o : ℕ) → outcome_line o r ≡ line_for o (moment v call))

-- the calls of a record, which tell at most one line
abbrev pub OneLine : Record → View → View → Result (Option TextLine) Refusal → Type 0
OneLine said v v' r =
    (v' ≡ last_view v (calls_for said v)) × ((o : ℕ) (s : Story) → told o (history v (calls_for said v)) s ≡ told_by (outcome_line o r) o s)

-- k slots were run and told; or a line does not fit, and the listing stops
abbrev pub Ran : ℕ → ℕ → View → View → Page → Page → Result (Unit {0}) StopFault → Type 0
Ran o k v v' p p' (Ok u) =
    (v' ≡ last_view v (replicate k (Slot slot_room))) × ((s : Story) → Turned (told o (history v (replicate k (Slot slot_room))) s) p s p')
Ran o k v v' p p' (Err f) = (s : Story) → Turned (told o (history v (replicate k (Slot slot_room))) s) p (Ends (stopped f o)) p'

-- the record at offset o was carried out, whatever comes after it; or the listing stops there
abbrev pub Played : ℕ → Record → View → View → Page → Page → Result (Unit {0}) StopFault → Type 0
Played o said v v' p p' r = (rest : Script) → Turned (day_story v (Next said o rest)) p (left r o (day_story v' rest)) p'
