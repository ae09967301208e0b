-- What an approved draft gives, step by step.
use Rattle.std.proofs.Common.{◌≡◌, ℕ, ◌+◌, ◌-◌, ◌<◌, min, Bool, true, false, cond, ◌&&◌, List, length, get_or, take, drop, Some, None, Ok, sum, Option, sym, refl, ap, ◌∙◌, subst, arith}
use Rattle.interference.specs.declared.transmission.Transmission.{Transmission}
use Rattle.plan.specs.Approval.{Spaced, approval_fault, conflicts_at, conflicts_with, is_stray, step_fault}
use Rattle.plan.specs.Drafts.{bad_shape, step_of, transmission_at}
use Rattle.plan.specs.Plans.{ApprovalDone, Approved, Plan}
use Rattle.plan.specs.declared.fault.ApprovalFault.TheVariants.{Tree, Shape, NotToParent, Conflicting}
use Rattle.plan.proofs.Judgement.{Shaped, shaped}
use Rattle.plan.proofs.Marks.{step_place}
use Rattle.routing.specs.declared.link.TreeLink.{TreeLink}
use Rattle.routing.specs.Search.{first_below, or_else}
use Rattle.routing.specs.Tree.{parent_table, slot_table, tree_fault}
use Rattle.routing.proofs.Searches.{any_none, first_none}
use Rattle.std.proofs.lemmas.List.{get_or-drop, get_or-take, length-drop, length-take}
use Rattle.std.proofs.lemmas.Bool.{eq-eqb}
use Rattle.std.specs.Option.{option_map}

-- where a chain of tests finds nothing, no test does
pub neither : {X : Type 0} (a b : Option X) → or_else a b ≡ None → (a ≡ None) × (b ≡ None)
neither None b e = (refl, e)
neither (Some x) b e = let z : ◌≡◌ {A = ℕ} 0 1 = cc in absurd (omega arith)

pub unmapped : {X Y : Type 0} (f : X → Y) (o : Option X) → option_map f o ≡ None → o ≡ None
unmapped f None e = refl
unmapped f (Some x) e = let z : ◌≡◌ {A = ℕ} 0 1 = cc in absurd (omega arith)

unfaulted : {X : Type 0} (b : Bool) (x : X) → cond b (Some x) None ≡ None → b ≡ false
unfaulted true x e = let z : ◌≡◌ {A = ℕ} 0 1 = cc in absurd (omega arith)
unfaulted false x e = refl

-- place j of a part of a list is a place of the list
part_place : (ts : List Transmission) (c s j : ℕ) → j < length (take c (drop s ts))
    → (j < c) × (s + j < length ts) × (transmission_at (take c (drop s ts)) j ≡ transmission_at ts (s + j))
part_place ts c s j h =
    let long : length (take c (drop s ts)) ≡ min c (length ts - s) =
    length-take c (drop s ts) ∙ ap (min c) (length-drop s ts) in
    let within : j < c = omega arith in (
      within,
      omega arith,
      get_or-take c (drop s ts) j (record { from = 0; to = 0 }) within ∙ get_or-drop s ts j (record { from = 0; to = 0 }),
    )

module _ (n : ℕ) (conflict : Transmission → Transmission → Bool) (ls : List TreeLink) (ts : List Transmission) (cs : List ℕ)
    (none : approval_fault n conflict ls ts cs ≡ None) where
  past_tree : or_else (cond (bad_shape ts cs) (Some Shape) None) (step_fault n conflict (parent_table ls) (slot_table ls) ts (step_of cs)) ≡ None
  past_tree = (neither (option_map Tree (tree_fault n ls)) _ none).1

  pub well_shaped : Shaped ts cs
  well_shaped =
      shaped ts cs (unfaulted (bad_shape ts cs) Shape (neither (cond (bad_shape ts cs) (Some Shape) None) _ past_tree).0)

  no_conflict : first_below (conflicts_at conflict ts (step_of cs)) (length ts) ≡ None
  no_conflict =
      let steps = (neither (cond (bad_shape ts cs) (Some Shape) None) _ past_tree).1 in
      let links = (neither (option_map NotToParent (first_below (λ k. is_stray n (parent_table ls) (transmission_at ts k)) (length ts))) _ steps).1 in
      unmapped Conflicting _ (neither (option_map Conflicting (first_below (conflicts_at conflict ts (step_of cs)) (length ts))) _ links).0

  -- two transmissions of one step do not conflict
  apart : (j k : ℕ) → j < k → k < length ts → step_of cs j ≡ step_of cs k → conflict (transmission_at ts j) (transmission_at ts k) ≡ false
  apart j k before below same =
      let free = first_none (conflicts_at conflict ts (step_of cs)) (length ts) k no_conflict below in
      let with-j = any_none (conflicts_with conflict ts (step_of cs) k) k j free before in
      subst (λ b. (b && conflict (transmission_at ts j) (transmission_at ts k)) ≡ false) (eq-eqb _ _ same) with-j

  pub approved : (d : ℕ) → Spaced conflict ts (step_of cs) d
      → Approved conflict (record { transmissions = ts; counts = cs; distance = d })
  approved d spaced = record {
    some = well_shaped.some;
    positive = spaced.positive;
    within = λ i j k before below.
        let start = sum (take i cs) in
        let size = get_or cs i 0 in
        let at-k = part_place ts size start k below in
        let at_j = part_place ts size start j (omega arith) in
        let same : step_of cs (start + j) ≡ step_of cs (start + k) =
        step_place cs i j (start + j) at_j.0 refl ∙ sym (step_place cs i k (start + k) at-k.0 refl) in
        rw (at_j.2, at-k.2) (apart (start + j) (start + k) (omega arith) at-k.1 same);
    between = λ h i j k far in-h in-i.
        let at_j = part_place ts (get_or cs h 0) (sum (take h cs)) j in-h in
        let at-k = part_place ts (get_or cs i 0) (sum (take i cs)) k in-i in
        let step-j = step_place cs h j (sum (take h cs) + j) at_j.0 refl in
        let step-k = step_place cs i k (sum (take i cs) + k) at-k.0 refl in
        rw (at_j.2, at-k.2) (spaced.clear _ _ at_j.1 at-k.1 (omega arith));
  }

  -- the outcome of a place that now holds the draft with this distance
  pub filled : (before after : Plan) (d : ℕ) → Spaced conflict ts (step_of cs) d
      → after ≡ record { transmissions = ts; counts = cs; distance = d }
      → ApprovalDone n conflict ls ts cs before after {U = Unit {0}} (Ok tt)
  filled before after d spaced is =
      let holds : Plan → Type 0 = λ p. ApprovalDone n conflict ls ts cs before p {U = Unit {0}} (Ok tt) in
      subst holds (sym is) (none, refl, refl, spaced, approved d spaced)
