-- The site that a day file describes, and the plan of that site.
use Rattle.std.specs.Prelude.{ℕ, Bool, cond, not, ◌&&◌, List, [], ◌∷◌, ◌++◌, length, Some, None, Ok, Err, Option, Result, nat_le, nat_lt}
use Rattle.dayfile.specs.declared.record.Record.TheVariants.{Nodes, Edge as EdgeRecord, Tree, Query, Release, Close, Run}
use Rattle.interference.specs.declared.fault.ModelFault.{ModelFault}
use Rattle.interference.specs.declared.fault.ModelFault.TheVariants.{NodeCount, EdgeOutside}
use Rattle.interference.specs.declared.graph.Edge.{Edge}
use Rattle.interference.specs.declared.transmission.Transmission.{Transmission}
use Rattle.interference.specs.Graph.{edge_at, graph_conflict, list_edge}
use Rattle.listing.specs.declared.stop.SiteFault.{SiteFault}
use Rattle.listing.specs.declared.stop.SiteFault.TheVariants.{Graph, Routing}
use Rattle.listing.specs.declared.stop.Stop.{Stop}
use Rattle.listing.specs.declared.stop.StopFault.TheVariants.{TooLong, Unreadable, Order, Unplanned}
use Rattle.listing.specs.Scripts.{Script, Over, Broken, Next, offset_of, script_of}
use Rattle.listing.specs.Stops.{stop_at}
use Rattle.plan.specs.Drafts.{step_of}
use Rattle.plan.specs.Plans.{Plan}
use Rattle.plan.specs.Spacing.{distance_of}
use Rattle.planner.specs.Planner.{flat, plan_steps, sizes}
use Rattle.routing.specs.declared.link.TreeLink.{TreeLink}
use Rattle.routing.specs.Search.{first_below, or_else}
use Rattle.routing.specs.Tree.{routes_of, tree_fault}
use Rattle.std.specs.Option.{option_map}

-- the number of nodes, who hears whom, and the routing tree, each in the file's order
pub record Site : Type 0 where
  pub count : ℕ
  pub edges : List Edge
  pub links : List TreeLink

abbrev pub bare : ℕ → Site
bare n = record { count = n; edges = []; links = [] }

abbrev pub with_edge : Site → ℕ → ℕ → Site
with_edge s a b = record { count = s.count; edges = s.edges ++ (record { from = a; to = b } ∷ []); links = s.links }

abbrev pub with_link : Site → ℕ → ℕ → ℕ → Site
with_link s c p k = record { count = s.count; edges = s.edges; links = s.links ++ (record { child = c; parent = p; slots = k } ∷ []) }

-- edge and tree records up to the first record of the day, or the end: the site, and the records from there on
abbrev pub surveyed : Site → Script → Result (Site × Script) Stop
surveyed s (Over o) = Ok (s, Over o)
surveyed s (Broken f o) = Err (stop_at (Unreadable f) o)
surveyed s (Next (Nodes n) o rest) = Err (stop_at Order o)
surveyed s (Next (EdgeRecord a b) o rest) = surveyed (with_edge s a b) rest
surveyed s (Next (Tree c p k) o rest) = surveyed (with_link s c p k) rest
surveyed s (Next (Query h p d) o rest) = Ok (s, Next (Query h p d) o rest)
surveyed s (Next (Release n) o rest) = Ok (s, Next (Release n) o rest)
surveyed s (Next (Close n) o rest) = Ok (s, Next (Close n) o rest)
surveyed s (Next (Run k) o rest) = Ok (s, Next (Run k) o rest)

-- the nodes record comes first
abbrev pub site_in : Script → Result (Site × Script) Stop
site_in (Over o) = Err (stop_at Order o)
site_in (Broken f o) = Err (stop_at (Unreadable f) o)
site_in (Next (Nodes n) o rest) = surveyed (bare n) rest
site_in (Next (EdgeRecord a b) o rest) = Err (stop_at Order o)
site_in (Next (Tree c p k) o rest) = Err (stop_at Order o)
site_in (Next (Query h p d) o rest) = Err (stop_at Order o)
site_in (Next (Release n) o rest) = Err (stop_at Order o)
site_in (Next (Close n) o rest) = Err (stop_at Order o)
site_in (Next (Run k) o rest) = Err (stop_at Order o)

-- both ends of the edge are among the n nodes
abbrev pub inside : ℕ → Edge → Bool
inside n e = nat_lt e.from n && nat_lt e.to n

-- the one refusal of the graph, if there is one
abbrev pub graph_fault : ℕ → List Edge → Option ModelFault
graph_fault n es =
    or_else (cond (nat_le 1 n && nat_le n 64) None (Some NodeCount))
    (option_map EdgeOutside (first_below (λ k. not (inside n (edge_at es k))) (length es)))

-- the one refusal of the site, if there is one: the graph's before the tree's
abbrev pub site_fault : Site → Option SiteFault
site_fault s = or_else (option_map Graph (graph_fault s.count s.edges)) (option_map Routing (tree_fault s.count s.links))

-- the relation of conflicts, the planner's steps, and the plan with its minimum step distance
abbrev pub conflict_of : Site → Transmission → Transmission → Bool
conflict_of s = graph_conflict s.count (list_edge s.edges)

abbrev pub steps_of : Site → List (List Transmission)
steps_of s = plan_steps (conflict_of s) s.count (routes_of s.links)

abbrev pub planned : Site → Plan
planned s = record {
  transmissions = flat (steps_of s);
  counts = sizes (steps_of s);
  distance = distance_of (conflict_of s) (flat (steps_of s)) (step_of (sizes (steps_of s)));
}

-- the number of nodes and the plan of a site, if it has one; else the listing stops at the first record of the day
abbrev pub planned_or : Option SiteFault → Site → Script → Result (ℕ × Plan) Stop
planned_or None s script = Ok (s.count, planned s)
planned_or (Some f) s script = Err (stop_at (Unplanned f) (offset_of script))

abbrev pub planned_from : Result (Site × Script) Stop → Result (ℕ × Plan) Stop
planned_from (Ok b) = planned_or (site_fault b.0) b.0 b.1
planned_from (Err stop) = Err stop

-- the number of nodes and the plan of the site of a file, or the stop of its listing before a line is written
abbrev pub planned_site : List ℕ → Result (ℕ × Plan) Stop
planned_site file = cond (nat_lt 16384 (length file)) (Err (stop_at TooLong 0)) (planned_from (site_in (script_of (length file) file)))
