-- The one outcome of a draft over a sound tree, from a table with the step of each transmission.
use Rattle.std.proofs.Common.{◌≡◌, ℕ, ◌+◌, ◌<◌, ◌≤◌, Bool, false, List, length, get_or, None, sum, Option, sym, ap, ◌∙◌, arith}
use Rattle.interference.specs.declared.transmission.Transmission.{Transmission}
use Rattle.plan.specs.Approval.{Spaced, approval_fault, step_fault}
use Rattle.plan.specs.Drafts.{bad_shape, step_of}
use Rattle.plan.specs.declared.fault.ApprovalFault.{ApprovalFault}
use Rattle.plan.proofs.Bridges.{fault_same, spaced_same, step_below, widest_le}
use Rattle.plan.proofs.Widest.{spaced, widest_gap}
use Rattle.routing.specs.declared.link.TreeLink.{TreeLink}
use Rattle.routing.specs.declared.routes.Routes.{Routes}
use Rattle.routing.specs.Tree.{routes_of, tree_fault}
use Rattle.std.proofs.lemmas.Bool.Decides.{nat_tests}

-- what a good shape says
pub record Shaped (ts : List Transmission) (cs : List ℕ) : Type 0 where
  pub some : 1 ≤ length cs
  pub few : length cs ≤ 256
  pub short : length ts ≤ 256
  pub adds : sum cs ≡ length ts

pub shaped : (ts : List Transmission) (cs : List ℕ) → bad_shape ts cs ≡ false → Shaped ts cs
shaped ts cs good = record {
  some = grind (arith, nat_tests);
  few = grind (arith, nat_tests);
  short = grind (arith, nat_tests);
  adds = grind (arith, nat_tests);
}

module _ (n : ℕ) (conflict : Transmission → Transmission → Bool) (ls : List TreeLink) (ts : List Transmission) (cs : List ℕ)
    (good : bad_shape ts cs ≡ false) (table : List ℕ) (stepped : (k : ℕ) → k < sum cs → get_or table k 0 ≡ step_of cs k) where
  same : (k : ℕ) → k < length ts → get_or table k 0 ≡ step_of cs k
  same k h = let adds = (shaped ts cs good).adds in stepped k (omega arith)

  pub outcome : (routes : Routes) (r : Option ApprovalFault) → tree_fault n ls ≡ None → routes ≡ routes_of ls
      → r ≡ step_fault n conflict routes.parents routes.slots ts (λ i. get_or table i 0)
      → approval_fault n conflict ls ts cs ≡ r
  outcome routes r sound are found =
      let steps = fault_same conflict ts (λ i. get_or table i 0) (step_of cs) same n (routes_of ls).parents (routes_of ls).slots in
      let along = ap (λ (t : Routes). step_fault n conflict t.parents t.slots ts (λ i. get_or table i 0)) are in
      rw (sound, good) (sym steps ∙ sym along ∙ sym found)

  pub distance : (w : ℕ) → w ≡ widest_gap conflict ts (λ i. get_or table i 0) → Spaced conflict ts (step_of cs) (w + 1)
  distance w is =
      let all = spaced_same conflict ts (λ i. get_or table i 0) (step_of cs) same _ (spaced conflict ts (λ i. get_or table i 0)) in
      rw is all

  pub narrow : (w : ℕ) → w ≡ widest_gap conflict ts (λ i. get_or table i 0) → w ≤ 255
  narrow w is =
      let few = (shaped ts cs good).few in
      let adds = (shaped ts cs good).adds in
      rw is
      (widest_le conflict ts (λ i. get_or table i 0) 255
      (λ k h. let e = same k h in let low = step_below cs k (omega arith) in omega arith))
