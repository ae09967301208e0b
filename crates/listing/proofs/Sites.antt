-- The refusal of a site and its plan, from what the graph, the planner and approval say.
use Rattle.std.proofs.Common.{◌≡◌, ℕ, ◌<◌, ◌≤◌, Bool, true, false, not, ◌&&◌, leb, ◌⊎◌, List, length, Some, None, Ok, Err, sym, refl, ap, ◌∙◌, subst, inl, inr, arith}
use Rattle.interference.specs.declared.fault.ModelFault.{ModelFault}
use Rattle.interference.specs.declared.fault.ModelFault.TheVariants.{NodeCount, EdgeOutside, Side, Coordinate}
use Rattle.interference.specs.declared.graph.Edge.{Edge}
use Rattle.interference.specs.declared.transmission.Transmission.{Transmission}
use Rattle.interference.specs.Graph.{BadCount, EdgesMeant, EdgesRefused, EdgesWithin, GoodCount, edge_at}
use Rattle.listing.specs.declared.stop.SiteFault.TheVariants.{Graph, Routing}
use Rattle.listing.specs.Sites.{Site, conflict_of, graph_fault, inside, planned, site_fault, steps_of}
use Rattle.plan.proofs.Widest.{spaced_is}
use Rattle.plan.specs.Drafts.{step_of}
use Rattle.plan.specs.Plans.{Plan}
use Rattle.plan.specs.Spacing.{distance_of}
use Rattle.planning.proofs.Misses.{no_first}
use Rattle.planning.specs.Making.{Holds, Made}
use Rattle.routing.proofs.Searches.{first_hit}
use Rattle.routing.specs.declared.fault.TreeFault.{TreeFault}
use Rattle.routing.specs.Search.{first_below, or_else}
use Rattle.routing.specs.Tree.{tree_fault}
use Rattle.std.proofs.lemmas.Bool.Decides.{nat_tests}
use Rattle.std.specs.Option.{option_map}

counted : (n : ℕ) → GoodCount n → (leb 1 n && leb n 64) ≡ true
counted n (least, most) = grind (arith, nat_tests)

miscounted : (n : ℕ) → BadCount n → (leb 1 n && leb n 64) ≡ false
miscounted n (inl h) = grind (arith, nat_tests)
miscounted n (inr h) = grind (arith, nat_tests)

is_inside : (n : ℕ) (e : Edge) → e.from < n → e.to < n → not (inside n e) ≡ false
is_inside n e h k = grind (arith, nat_tests)

is_outside : (n : ℕ) (e : Edge) → (n ≤ e.from) ⊎ (n ≤ e.to) → not (inside n e) ≡ true
is_outside n e (inl h) = grind (arith, nat_tests)
is_outside n e (inr h) = grind (arith, nat_tests)

all_inside : (n : ℕ) (es : List Edge) (k : ℕ) → EdgesWithin n es k → first_below (λ j. not (inside n (edge_at es j))) k ≡ None
all_inside n es k within = no_first _ k (λ j h. let (from, to) = within j h in is_inside n (edge_at es j) from to)

-- the graph's refusal is the one refusal of a graph
pub graph_refused : (n : ℕ) (es : List Edge) (f : ModelFault) → EdgesRefused n es f → graph_fault n es ≡ Some f
graph_refused n es NodeCount bad = rw (miscounted n bad) refl
graph_refused n es (EdgeOutside k) (good, below, outside, within) =
    let first = first_hit (λ j. not (inside n (edge_at es j))) (length es) k below (all_inside n es k within) (is_outside n (edge_at es k) outside) in
    rw (counted n good, ← first) refl
graph_refused n es Side h = absurd h
graph_refused n es (Coordinate k) h = absurd h

pub graph_sound : (n : ℕ) (es : List Edge) (nodes : ℕ) (conflict : Transmission → Transmission → Bool) → EdgesMeant n es nodes conflict
    → graph_fault n es ≡ None
graph_sound n es nodes conflict meant = rw (counted n meant.counted, all_inside n es (length es) meant.within) refl

module _ (s : Site) where
  pub site_refused : (f : ModelFault) → EdgesRefused s.count s.edges f → site_fault s ≡ Some (Graph f)
  site_refused f refused = ap (λ o. or_else (option_map Graph o) (option_map Routing (tree_fault s.count s.links))) (graph_refused _ _ f refused)

  module _ (nodes : ℕ) (conflict : Transmission → Transmission → Bool) (meant : EdgesMeant s.count s.edges nodes conflict) where
    same-conflict : conflict ≡ conflict_of s
    same-conflict = λ k a b. meant.pairs a b k

    past-graph : site_fault s ≡ option_map Routing (tree_fault s.count s.links)
    past-graph = ap (λ o. or_else (option_map Graph o) (option_map Routing (tree_fault s.count s.links))) (graph_sound _ _ _ _ meant)

    pub tree_refused : (before after : Plan) (f : TreeFault) → Made nodes conflict s.links before after {U = Unit {0}} (Err f)
        → site_fault s ≡ Some (Routing f)
    tree_refused before after f (refused, same) =
        past-graph ∙ ap (option_map Routing) (ap (λ n. tree_fault n s.links) (sym meant.count) ∙ refused)

    planned-is : (p : Plan) → Holds (conflict_of s) (steps_of s) p → p ≡ planned s
    planned-is p holds = λ k. record {
      transmissions = holds.sent k;
      counts = holds.counted k;
      distance =
          (spaced_is (conflict_of s) p.transmissions (step_of p.counts) p.distance holds.spaced
          ∙ (λ j. distance_of (conflict_of s) (holds.sent j) (step_of (holds.counted j)))) k;
    }

    pub site_planned : (before after : Plan) → Made nodes conflict s.links before after {U = Unit {0}} (Ok tt)
        → (site_fault s ≡ None) × (after ≡ planned s)
    site_planned before after made =
        let one = subst (λ n. Made n conflict s.links before after {U = Unit {0}} (Ok tt)) meant.count made in
        let (sound, holds) = subst (λ f. Made s.count f s.links before after {U = Unit {0}} (Ok tt)) same-conflict one in
        (past-graph ∙ ap (option_map Routing) sound, planned-is after holds)
