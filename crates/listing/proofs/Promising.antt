-- The promise over the run that a file makes of its engine.
use Rattle.std.proofs.Common.{◌≡◌, ℕ, ◌≤◌, Bool, true, false, cond, ◌&&◌, ◌||◌, leb, List, Some, None, refl, arith}
use Rattle.engine.proofs.Promises.{promise_for}
use Rattle.interference.specs.Rules.{ruled_shared, ruled_swap}
use Rattle.interference.specs.declared.transmission.Transmission.{Transmission}
use Rattle.interference.specs.declared.fault.ModelFault.TheVariants.{NodeCount}
use Rattle.interference.specs.Graph.{list_edge}
use Rattle.listing.specs.declared.stop.SiteFault.TheVariants.{Graph, Routing}
use Rattle.listing.specs.Days.{calls_in}
use Rattle.listing.specs.Listings.{engine_of}
use Rattle.listing.specs.Promises.{DayPromised, FilePromised}
use Rattle.listing.specs.Scripts.{Script}
use Rattle.listing.specs.Sites.{Site, conflict_of, graph_fault, planned, site_fault, steps_of}
use Rattle.plan.proofs.Approvals.{approved, neither, unmapped}
use Rattle.plan.proofs.Widest.{spaced}
use Rattle.plan.specs.Drafts.{step_of}
use Rattle.listing.proofs.Starting.{day_starts}
use Rattle.plan.specs.Plans.{Approved, length_of}
use Rattle.planner.specs.Planner.{flat, sizes}
use Rattle.planning.proofs.Law.{always}
use Rattle.planning.specs.Always.{PlanApproved}
use Rattle.routing.specs.Tree.{tree_fault}
use Rattle.rules.proofs.States.{opened_inv}
use Rattle.std.proofs.lemmas.Bool.{leb-true}
use Rattle.std.specs.Option.{option_map}

or_swap : (a b : Bool) → (a || b) ≡ (b || a)
or_swap true true = refl
or_swap true false = refl
or_swap false true = refl
or_swap false false = refl

second : (a b : Bool) → (a && b) ≡ true → b ≡ true
second true b e = e
second false b e = let z : ◌≡◌ {A = ℕ} 0 1 = cc in absurd (omega arith)

good_test : {X : Type 0} (b : Bool) (x : X) → cond b None (Some x) ≡ None → b ≡ true
good_test true x e = refl
good_test false x e = let z : ◌≡◌ {A = ℕ} 0 1 = cc in absurd (omega arith)

module _ (s : Site) where
  symmetric : (a b : Transmission) → conflict_of s a b ≡ conflict_of s b a
  symmetric a b =
      ruled_swap s.count a b _ _ (or_swap (list_edge s.edges a.from b.to) (list_edge s.edges b.from a.to))

  module _ (sound : site_fault s ≡ None) where
    few : s.count ≤ 64
    few =
        let graph = unmapped Graph (graph_fault s.count s.edges) (neither (option_map Graph (graph_fault s.count s.edges)) _ sound).0 in
        let test = good_test (leb 1 s.count && leb s.count 64) NodeCount (neither (cond (leb 1 s.count && leb s.count 64) None (Some NodeCount)) _ graph).0 in
        leb-true s.count 64 (second (leb 1 s.count) (leb s.count 64) test)

    tree-sound : tree_fault s.count s.links ≡ None
    tree-sound = unmapped Routing (tree_fault s.count s.links) (neither (option_map Graph (graph_fault s.count s.edges)) _ sound).1

    draft-sound : PlanApproved s.count (conflict_of s) s.links
    draft-sound = always s.count (conflict_of s) s.links few (λ a b e. ruled_shared s.count a b _ e) tree-sound

    plan-approved : Approved (conflict_of s) (planned s)
    plan-approved =
        approved s.count (conflict_of s) s.links (flat (steps_of s)) (sizes (steps_of s)) draft-sound (planned s).distance
        (spaced (conflict_of s) (flat (steps_of s)) (step_of (sizes (steps_of s))))

    pub day_promised : (script : Script) → DayPromised s script
    day_promised script = record {
      plan = record {
        sent = refl;
        counted = refl;
        spaced = spaced (conflict_of s) (flat (steps_of s)) (step_of (sizes (steps_of s)));
        approved = plan-approved;
      };
      kept = promise_for (planned s) 0 (conflict_of s) symmetric plan-approved (calls_in (engine_of (planned s)) script);
      starts = λ n. day_starts n script (engine_of (planned s)) (opened_inv (length_of (planned s)) (planned s).distance 0 plan-approved.some plan-approved.positive);
    }

pub file_promised : (file : List ℕ) → FilePromised file
file_promised file s script described sound = day_promised s sound script
