-- A plan that was made is a draft without a fault, and approval holds just its steps.
use Rattle.std.proofs.Common.{◌≡◌, ℕ, ◌-◌, ◌≤◌, Bool, List, length, take, drop, Some, None, Ok, sym, ap, ◌∙◌, subst, arith}
use Rattle.interference.specs.declared.transmission.Transmission.{Transmission}
use Rattle.plan.specs.Approval.{Spaced, approval_fault}
use Rattle.plan.specs.Drafts.{step_of}
use Rattle.plan.specs.Plans.{Approved, Plan}
use Rattle.plan.specs.declared.fault.ApprovalFault.{ApprovalFault}
use Rattle.plan.proofs.Approvals.{neither, unmapped}
use Rattle.planner.specs.Planner.{PlanDone, flat, overwritten, plan_steps, sizes}
use Rattle.planner.specs.declared.fault.PlanFault.TheVariants.{Tree}
use Rattle.planner.specs.declared.planner.PlanSize.{PlanSize}
use Rattle.planning.specs.Always.{Shared}
use Rattle.planning.specs.Making.{Holds}
use Rattle.planning.proofs.Law.{always}
use Rattle.routing.specs.declared.link.TreeLink.{TreeLink}
use Rattle.routing.specs.Tree.{routes_of, tree_fault}
use Rattle.std.proofs.lemmas.List.{length-map, take_at}
use Rattle.std.specs.Option.{option_map}

-- the part of a list that was written over
front : {X : Type 0} (xs ys zs : List X) (k : ℕ) → k ≡ length xs → zs ≡ overwritten xs ys → take (k - 0) zs ≡ xs
front xs ys zs k is e =
    ap (take (k - 0)) e ∙ take_at xs (drop (length xs) ys) (k - 0) (let n : length xs ≡ k - 0 = omega arith in n)

module _ (n : ℕ) (conflict : Transmission → Transmission → Bool) (ls : List TreeLink) (ts ts' : List Transmission) (cs cs' : List ℕ)
    (size : PlanSize) (done : PlanDone n conflict ls ts cs ts' cs' (Ok size)) where
  pub sound : tree_fault n ls ≡ None
  sound = unmapped Tree (tree_fault n ls) (neither (option_map Tree (tree_fault n ls)) _ done.0).0

  sent_is : take (size.transmissions - 0) ts' ≡ flat (plan_steps conflict n (routes_of ls))
  sent_is = front _ ts ts' size.transmissions done.1 done.3

  counts_are : take (size.steps - 0) cs' ≡ sizes (plan_steps conflict n (routes_of ls))
  counts_are =
      front (sizes (plan_steps conflict n (routes_of ls))) cs cs' size.steps
      (done.2 ∙ sym (length-map (plan_steps conflict n (routes_of ls)) length)) done.4

  pub never_refused : n ≤ 64 → Shared conflict → (f : ApprovalFault)
      → approval_fault n conflict ls (take (size.transmissions - 0) ts') (take (size.steps - 0) cs') ≡ Some f → ⊥
  never_refused few shared f refused =
      let draft =
      ap (λ xs. approval_fault n conflict ls xs (take (size.steps - 0) cs')) sent_is
      ∙ ap (approval_fault n conflict ls (flat (plan_steps conflict n (routes_of ls)))) counts_are in
      let law = always n conflict ls few shared sound in
      let clash = sym refused ∙ (draft ∙ law) in
      let z : ◌≡◌ {A = ℕ} 0 1 = cc in
      omega arith

  pub holds : (p : Plan) → p.transmissions ≡ take (size.transmissions - 0) ts' → p.counts ≡ take (size.steps - 0) cs'
      → Spaced conflict (take (size.transmissions - 0) ts') (step_of (take (size.steps - 0) cs')) p.distance
      → Approved conflict p → Holds conflict (plan_steps conflict n (routes_of ls)) p
  holds p sent counted spaced approved = record {
    sent = sent ∙ sent_is;
    counted = counted ∙ counts_are;
    spaced =
        subst (λ xs. Spaced conflict xs (step_of p.counts) p.distance) (sym sent)
        (subst (λ ks. Spaced conflict (take (size.transmissions - 0) ts') (step_of ks) p.distance) (sym counted) spaced);
    approved = approved;
  }
