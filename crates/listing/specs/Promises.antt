-- What the listing of a file promises of the engine that the file drives, and of a site that has no plan.
use Rattle.std.specs.Prelude.{◌≡◌, ℕ, cond, List, [], ◌∷◌, ◌++◌, map, length, Some, None, Ok, Option, ◌==◌}
use Rattle.interference.specs.declared.fault.ModelFault.TheVariants.{NodeCount, EdgeOutside, Side, Coordinate}
use Rattle.lines.specs.declared.line.TextLine.{TextLine}
use Rattle.lines.specs.declared.line.TextLine.TheVariants.{Plan as PlanLine, Query as QueryLine, Start as StartLine, No as NoLine, Stop as StopLine}
use Rattle.listing.specs.declared.stop.SiteFault.{SiteFault}
use Rattle.listing.specs.declared.stop.SiteFault.TheVariants.{Graph, Routing}
use Rattle.listing.specs.declared.stop.Stop.{Stop}
use Rattle.listing.specs.declared.stop.StopFault.TheVariants.{Unplanned}
use Rattle.listing.specs.Days.{calls_in}
use Rattle.listing.specs.Listings.{Ends, Story, Writes, day_story, engine_of}
use Rattle.listing.specs.Scripts.{Script, script_of}
use Rattle.listing.specs.Sites.{Site, conflict_of, planned, site_fault, site_in, steps_of}
use Rattle.listing.specs.Stops.{stopped}
use Rattle.plan.specs.Plans.{length_of, part_of}
use Rattle.planning.specs.Making.{Holds}
use Rattle.rules.specs.Promise.{Kept, starts_of}
use Rattle.rules.specs.Rules.{View}
use Rattle.rules.specs.Runs.{Moment, history, last_view}

-- the slots in which the lines of a story say that a round of n starts, in order
abbrev pub started_at : ℕ → TextLine → List ℕ
started_at n (PlanLine length distance) = []
started_at n (QueryLine number wait) = []
started_at n (StartLine slot number) = cond (number == n) (slot ∷ []) []
started_at n (NoLine refusal offset named) = []
started_at n (StopLine refusal offset inner) = []

abbrev pub starts_told : ℕ → Story → List ℕ
starts_told n (Ends e) = []
starts_told n (Writes l o s) = started_at n l ++ starts_told n s

-- the slots in which rounds of n start in a run: those that the promise speaks of
abbrev pub start_slots : ℕ → List Moment → List ℕ
start_slots n h = map (λ (v : View). v.slot) (starts_of n h)

-- the plan of the site is the planner's, with its minimum step distance and approved; and the run of all calls that the
-- records make on its engine keeps the promise: no conflict, every round in time and exactly once, no more than its share;
-- the START lines of the day are just the starts of that run
pub record DayPromised (s : Site) (script : Script) : Type 0 where
  pub plan : Holds (conflict_of s) (steps_of s) (planned s)
  pub kept : Kept (length_of (planned s)) (planned s).distance 0 (part_of (planned s)) (conflict_of s)
      (history (engine_of (planned s)) (calls_in (engine_of (planned s)) script)) (last_view (engine_of (planned s)) (calls_in (engine_of (planned s)) script))
  pub starts : (n : ℕ) → starts_told n (day_story (engine_of (planned s)) script)
      ≡ start_slots n (history (engine_of (planned s)) (calls_in (engine_of (planned s)) script))

-- for the site and the day of a file, where the site is sound
abbrev pub FilePromised : List ℕ → Type 0
FilePromised file =
    (s : Site) (script : Script) → site_in (script_of (length file) file) ≡ Ok (s, script) → site_fault s ≡ None → DayPromised s script

-- the graph's refusals 11 and 12, and the tree's 1 to 4
abbrev pub Carried : SiteFault → Type 0
Carried (Graph NodeCount) = Unit {0}
Carried (Graph (EdgeOutside k)) = Unit {0}
Carried (Graph Side) = ⊥
Carried (Graph (Coordinate k)) = ⊥
Carried (Routing f) = Unit {0}

-- the fault is that of the site of the file, and so there is none where the site is sound
pub record FaultOf (file : List ℕ) (f : SiteFault) : Type 0 where
  pub carried : Carried f
  pub site : Site
  pub script : Script
  pub described : site_in (script_of (length file) file) ≡ Ok (site, script)
  pub fault : site_fault site ≡ Some f

-- a listing that stops for want of a plan carries the one fault of its site
abbrev pub Unplannable : List ℕ → Option Stop → Type 0
Unplannable file stop = (f : SiteFault) (o : ℕ) → stop ≡ stopped (Unplanned f) o → FaultOf file f
