-- A listing that stops for want of a plan carries the fault of its site.
use Rattle.std.proofs.Common.{◌≡◌, ℕ, ◌+◌, Bool, true, false, cond, ◌&&◌, ltb, leb, List, [], ◌∷◌, length, Some, None, Ok, Err, Option, Result, sym, refl, ap, ◌∙◌, subst, arith}
use Rattle.interference.specs.declared.fault.ModelFault.{ModelFault}
use Rattle.interference.specs.declared.fault.ModelFault.TheVariants.{NodeCount, EdgeOutside}
use Rattle.lines.specs.declared.line.TextLine.{TextLine}
use Rattle.lines.specs.Text.{bytes_of}
use Rattle.listing.specs.declared.stop.SiteFault.{SiteFault}
use Rattle.listing.specs.declared.stop.SiteFault.TheVariants.{Graph, Routing}
use Rattle.listing.specs.declared.stop.Stop.{Stop}
use Rattle.listing.specs.declared.stop.StopFault.{StopFault}
use Rattle.listing.specs.declared.stop.StopFault.TheVariants.{TooLong, Unreadable, Order, NoRoom, Unplanned}
use Rattle.dayfile.specs.declared.record.Record.TheVariants.{Nodes, Edge, Tree, Query, Release, Close, Run}
use Rattle.listing.specs.Days.{calls_for, is_day, line_for}
use Rattle.listing.specs.Listings.{Done, Ends, Story, Writes, day_story, ended, engine_of, fitted, listing_of, plan_story, prepend, site_story, story_of, told, told_by}
use Rattle.listing.specs.Promises.{Carried, FaultOf, Unplannable}
use Rattle.listing.specs.Scripts.{Script, Over, Broken, Next, script_of}
use Rattle.listing.specs.Sites.{Site, bare, graph_fault, planned, site_fault, site_in, surveyed, with_edge, with_link}
use Rattle.listing.specs.Stops.{stopped}
use Rattle.plan.specs.Plans.{Plan}
use Rattle.routing.specs.declared.fault.TreeFault.{TreeFault}
use Rattle.routing.specs.Search.{or_else}
use Rattle.routing.specs.Tree.{tree_fault}
use Rattle.rules.specs.Rules.{View}
use Rattle.rules.specs.Runs.{Moment, history, last_view}
use Rattle.std.specs.Option.{option_map}

-- the fault of the site in a stop
abbrev in_fault : StopFault → Option SiteFault
in_fault TooLong = None
in_fault (Unreadable f) = None
in_fault Order = None
in_fault NoRoom = None
in_fault (Unplanned f) = Some f

abbrev in_stop : Option Stop → Option SiteFault
in_stop None = None
in_stop (Some stop) = in_fault stop.fault

-- the graph is refused by 11 or 12, and the site by that or by its tree
carried_graph : (b : Bool) (o : Option ℕ) (m : ModelFault) → or_else (cond b None (Some NodeCount)) (option_map EdgeOutside o) ≡ Some m → Carried (Graph m)
carried_graph true None m e = let z : ◌≡◌ {A = ℕ} 0 1 = cc in absurd (omega arith)
carried_graph true (Some k) m e = let is : EdgeOutside k ≡ m = cc in subst (λ g. Carried (Graph g)) is tt
carried_graph false o m e = let is : NodeCount ≡ m = cc in subst (λ g. Carried (Graph g)) is tt

carried : (g : Option ModelFault) (t : Option TreeFault) (f : SiteFault) → ((m : ModelFault) → g ≡ Some m → Carried (Graph m))
    → or_else (option_map Graph g) (option_map Routing t) ≡ Some f → Carried f
carried (Some m) t f h e = let is : Graph m ≡ f = cc in subst Carried is (h m refl)
carried None (Some r) f h e = let is : Routing r ≡ f = cc in subst Carried is tt
carried None None f h e = let z : ◌≡◌ {A = ℕ} 0 1 = cc in absurd (omega arith)

-- reading a site stops for other reasons
abbrev Plain : Result (Site × Script) Stop → Type 0
Plain (Ok b) = Unit {0}
Plain (Err stop) = in_fault stop.fault ≡ None

surveyed_plain : (s : Site) (script : Script) → Plain (surveyed s script)
surveyed_plain s (Over o) = tt
surveyed_plain s (Broken f o) = refl
surveyed_plain s (Next (Nodes n) o rest) = refl
surveyed_plain s (Next (Edge a b) o rest) = surveyed_plain (with_edge s a b) rest
surveyed_plain s (Next (Tree c p k) o rest) = surveyed_plain (with_link s c p k) rest
surveyed_plain s (Next (Query h p d) o rest) = tt
surveyed_plain s (Next (Release n) o rest) = tt
surveyed_plain s (Next (Close n) o rest) = tt
surveyed_plain s (Next (Run k) o rest) = tt

site_plain : (script : Script) → Plain (site_in script)
site_plain (Over o) = refl
site_plain (Broken f o) = refl
site_plain (Next (Nodes n) o rest) = surveyed_plain (bare n) rest
site_plain (Next (Edge a b) o rest) = refl
site_plain (Next (Tree c p k) o rest) = refl
site_plain (Next (Query h p d) o rest) = refl
site_plain (Next (Release n) o rest) = refl
site_plain (Next (Close n) o rest) = refl
site_plain (Next (Run k) o rest) = refl

module _ (file : List ℕ) where
  -- a fault of the site in the stop is that of the file's site
  abbrev Good : Option Stop → Type 0
  Good e = (f : SiteFault) → in_stop e ≡ Some f → FaultOf file f

  other : (e : Option Stop) → in_stop e ≡ None → Good e
  other e none f some = let clash = sym some ∙ none in let z : ◌≡◌ {A = ℕ} 0 1 = cc in absurd (omega arith)

  abbrev AllGood : Story → Type 0
  AllGood (Ends e) = Good e
  AllGood (Writes l o s) = AllGood s

  chosen : (b : Bool) (s t : Story) → AllGood s → AllGood t → AllGood (cond b s t)
  chosen true s t a c = a
  chosen false s t a c = c

  told_by_good : (line : Option TextLine) (o : ℕ) (s : Story) → AllGood s → AllGood (told_by line o s)
  told_by_good None o s good = good
  told_by_good (Some l) o s good = good

  told_good : (o : ℕ) (h : List Moment) (s : Story) → AllGood s → AllGood (told o h s)
  told_good o [] s good = good
  told_good o (m ∷ h) s good = told_by_good (line_for o m) o (told o h s) (told_good o h s good)

  day_good : (v : View) (script : Script) → AllGood (day_story v script)
  day_good v (Over o) = other None refl
  day_good v (Broken f o) = other (stopped (Unreadable f) o) refl
  day_good v (Next r o rest) =
      chosen (is_day r) (told o (history v (calls_for r v)) (day_story (last_view v (calls_for r v)) rest)) (Ends (stopped Order o))
      (told_good o (history v (calls_for r v)) (day_story (last_view v (calls_for r v)) rest) (day_good (last_view v (calls_for r v)) rest))
      (other (stopped Order o) refl)

  plan_good : (o : Option SiteFault) (p : Plan) (script : Script) → ((f : SiteFault) → o ≡ Some f → FaultOf file f) → AllGood (plan_story o p script)
  plan_good None p script h = day_good (engine_of p) script
  plan_good (Some f) p script h = h

  site_good : (x : Result (Site × Script) Stop) → site_in (script_of (length file) file) ≡ x → Plain x → AllGood (site_story x)
  site_good (Ok b) is plain =
      plan_good (site_fault b.0) (planned b.0) b.1
      (λ f e. record {
        carried =
            carried (graph_fault b.0.count b.0.edges) (tree_fault b.0.count b.0.links) f
            (λ m g. carried_graph (leb 1 b.0.count && leb b.0.count 64) _ m g) e;
        site = b.0;
        script = b.1;
        described = is;
        fault = e;
      })
  site_good (Err stop) is plain = other (Some stop) plain

  file_good : AllGood (story_of file)
  file_good =
      chosen (ltb 16384 (length file)) (Ends (stopped TooLong 0)) (site_story (site_in (script_of (length file) file)))
      (other (stopped TooLong 0) refl) (site_good (site_in (script_of (length file) file)) refl (site_plain (script_of (length file) file)))

  fits_good : (b : Bool) (bs : List ℕ) (d : Done) (o : ℕ) → Good d.stop → Good (cond b (prepend bs d) (ended (stopped NoRoom o))).stop
  fits_good true bs d o good = good
  fits_good false bs d o good = other (stopped NoRoom o) refl

  fitted_good : (most i : ℕ) (s : Story) → AllGood s → Good (fitted most i s).stop
  fitted_good most i (Ends e) good = good
  fitted_good most i (Writes l o s) good =
      fits_good (leb (i + length (bytes_of l)) most) (bytes_of l) (fitted most (i + length (bytes_of l)) s) o
      (fitted_good most (i + length (bytes_of l)) s good)

  pub unplannable : (most : ℕ) (stop : Option Stop) → stop ≡ (listing_of most file).stop → Unplannable file stop
  unplannable most stop is f o e = fitted_good most 0 (story_of file) file_good f (ap in_stop (sym is ∙ e))
