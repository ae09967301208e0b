-- The listing of a day file: the story that the file tells, cut to the lines that fit.
use Rattle.std.specs.Prelude.{◌≡◌, ℕ, ◌+◌, cond, List, [], ◌∷◌, ◌++◌, length, drop, Some, None, Ok, Err, Option, Result, nat_le, nat_lt}
use Rattle.lines.specs.declared.line.TextLine.{TextLine}
use Rattle.lines.specs.declared.line.TextLine.TheVariants.{Plan as PlanLine}
use Rattle.lines.specs.Text.{bytes_of}
use Rattle.listing.specs.declared.stop.SiteFault.{SiteFault}
use Rattle.listing.specs.declared.stop.Stop.{Stop}
use Rattle.listing.specs.declared.stop.StopFault.TheVariants.{TooLong, Unreadable, Order, NoRoom, Unplanned}
use Rattle.listing.specs.Days.{calls_for, is_day, line_for}
use Rattle.listing.specs.Scripts.{Script, Over, Broken, Next, offset_of, script_of}
use Rattle.listing.specs.Sites.{Site, planned, site_fault, site_in}
use Rattle.listing.specs.Stops.{stopped}
use Rattle.plan.specs.Plans.{Plan, length_of}
use Rattle.rules.specs.Rules.{View, opened}
use Rattle.rules.specs.Runs.{Moment, history, last_view}

-- what a file tells: lines, each for the record at an offset, and then where it stops, if it does
pub data Story : Type 0 where
  Ends : Option Stop → Story
  Writes : TextLine → ℕ → Story → Story

abbrev pub told_by : Option TextLine → ℕ → Story → Story
told_by None o s = s
told_by (Some l) o s = Writes l o s

-- what the calls of the record at offset o tell, one after the other, and then s
abbrev pub told : ℕ → List Moment → Story → Story
told o [] s = s
told o (m ∷ h) s = told_by (line_for o m) o (told o h s)

-- the day of an engine: each record makes its calls; a record of the site is out of order
abbrev pub day_story : View → Script → Story
day_story v (Over o) = Ends None
day_story v (Broken f o) = Ends (stopped (Unreadable f) o)
day_story v (Next r o rest) =
    cond (is_day r) (told o (history v (calls_for r v)) (day_story (last_view v (calls_for r v)) rest)) (Ends (stopped Order o))

-- the engine that a plan opens
abbrev pub engine_of : Plan → View
engine_of p = opened (length_of p) p.distance 0

-- the plan is made where the records of the day begin, and the engine opens
abbrev pub plan_story : Option SiteFault → Plan → Script → Story
plan_story (Some f) p script = Ends (stopped (Unplanned f) (offset_of script))
plan_story None p script = Writes (PlanLine (length_of p) p.distance) (offset_of script) (day_story (engine_of p) script)

abbrev pub site_story : Result (Site × Script) Stop → Story
site_story (Ok b) = plan_story (site_fault b.0) (planned b.0) b.1
site_story (Err stop) = Ends (Some stop)

abbrev pub story_of : List ℕ → Story
story_of file = cond (nat_lt 16384 (length file)) (Ends (stopped TooLong 0)) (site_story (site_in (script_of (length file) file)))

-- a listing: its text, and where it stopped, if it did
pub record Done : Type 0 where
  pub text : List ℕ
  pub stop : Option Stop

abbrev pub prepend : List ℕ → Done → Done
prepend bs d = record { text = bs ++ d.text; stop = d.stop }

abbrev pub ended : Option Stop → Done
ended e = record { text = []; stop = e }

-- the lines that fit into a list of so many places, i of which are taken: the first that does not fit stops the listing
abbrev pub fitted : ℕ → ℕ → Story → Done
fitted most i (Ends e) = ended e
fitted most i (Writes l o s) =
    cond (nat_le (i + length (bytes_of l)) most) (prepend (bytes_of l) (fitted most (i + length (bytes_of l)) s)) (ended (stopped NoRoom o))

-- the listing of a file in a list of so many places
abbrev pub listing_of : ℕ → List ℕ → Done
listing_of most file = fitted most 0 (story_of file)

-- the length and the stop are the listing's, and its text stands at the front of the list, which is as it was past it
pub record Listed (d : Done) (before after : List ℕ) (length' : ℕ) (stop' : Option Stop) : Type 0 where
  pub size : length' ≡ length d.text
  pub stop : stop' ≡ d.stop
  pub text : after ≡ d.text ++ drop (length d.text) before
