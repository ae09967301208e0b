-- What the planner makes from a tree that is not refused is approved.
use Rattle.std.proofs.Common.{◌≡◌, ℕ, ◌<◌, ◌≤◌, Bool, false, eqb, ltb, leb, List, [], ◌∷◌, length, get_or, None, sum, sym, refl, ap, ⊎_elim, arith}
use Rattle.interference.specs.declared.transmission.Transmission.{Transmission}
use Rattle.planning.specs.Always.{PlanApproved, Shared}
use Rattle.plan.specs.Approval.{approval_fault, comes_late, conflicts_at, conflicts_with, is_early, is_stray, is_uneven, step_fault}
use Rattle.plan.specs.Drafts.{bad_shape, step_of, transmission_at}
use Rattle.plan.proofs.Faulty.{step_sound}
use Rattle.planning.proofs.Misses.{no_first, none_below}
use Rattle.planning.proofs.Planned.{Planned, Sender, planned_none, sizes_add, steps_few, steps_planned, steps_some}
use Rattle.planning.proofs.Sound.{depth_of, slot_node, slots_rooted, slots_some, slots_sum, tree_count}
use Rattle.planner.specs.Planner.{flat, plan_steps, sizes, steps_from}
use Rattle.routing.specs.declared.link.TreeLink.{TreeLink}
use Rattle.routing.specs.Tree.{parent_table, routes_of, slot_table, tree_fault}
use Rattle.std.proofs.ByRecursion.{All-get_or}
use Rattle.std.proofs.lemmas.List.{length-map, nil_from_length}
use Rattle.std.proofs.lemmas.Bool.{and_left, and_right, cases_eq, eq-eqb, lt-leb, ne_eqb, not_from_true}
use Rattle.std.proofs.lemmas.Bool.Decides.{nat_tests}

module _ (n : ℕ) (conflict : Transmission → Transmission → Bool) (parents slots : List ℕ) (steps : List (List Transmission))
    (planned : Planned conflict parents n slots steps) where
  -- no sender is the base station
  no_stray : ((v : ℕ) → 0 < get_or slots v 0 → 0 < v) → (k : ℕ) → k < length (flat steps)
      → is_stray n parents (transmission_at (flat steps) k) ≡ false
  no_stray away k h =
      let sender = All-get_or (Sender parents slots n) (flat steps) k (record { from = 0; to = 0 }) h planned.senders in
      let pos = away (transmission_at (flat steps) k).from sender.1 in
      straight (transmission_at (flat steps) k) sender.0 pos sender.2
    where
      straight : (t : Transmission) → t.from < n → 0 < t.from → t.to ≡ get_or parents t.from 0
          → is_stray n parents t ≡ false
      straight t below pos to = grind (arith, nat_tests)

  no_conflict : (k : ℕ) → k < length (flat steps) → conflicts_at conflict (flat steps) (step_of (sizes steps)) k ≡ false
  no_conflict k h =
      none_below (conflicts_with conflict (flat steps) (step_of (sizes steps)) k) k
      (λ j before.
      ⊎_elim
      (λ (same : step_of (sizes steps) j ≡ step_of (sizes steps) k).
      and_right (eqb (step_of (sizes steps) j) (step_of (sizes steps) k)) _ (planned.apart j k before h same))
      (λ (ne : step_of (sizes steps) j ≡ step_of (sizes steps) k → ⊥). and_left _ _ (ne_eqb _ _ ne))
      (cases_eq (step_of (sizes steps) j) (step_of (sizes steps) k)))

  no_uneven : (v : ℕ) → v < n → is_uneven slots (flat steps) v ≡ false
  no_uneven v h = and_right (ltb 0 v) _ (not_from_true _ (eq-eqb _ _ (planned.slots v)))

  no_early : (k : ℕ) → k < length (flat steps) → is_early (flat steps) (step_of (sizes steps)) k ≡ false
  no_early k h =
      none_below (comes_late (flat steps) (step_of (sizes steps)) k) (length (flat steps))
      (λ j in-j.
      ⊎_elim
      (λ (same : (transmission_at (flat steps) j).to ≡ (transmission_at (flat steps) k).from).
      and_right _ (leb (step_of (sizes steps) k) (step_of (sizes steps) j)) (lt-leb _ _ (planned.order j k in-j h same)))
      (λ (ne : (transmission_at (flat steps) j).to ≡ (transmission_at (flat steps) k).from → ⊥). and_left _ _ (ne_eqb _ _ ne))
      (cases_eq (transmission_at (flat steps) j).to (transmission_at (flat steps) k).from))

  steps_sound : ((v : ℕ) → 0 < get_or slots v 0 → 0 < v)
      → None ≡ step_fault n conflict parents slots (flat steps) (step_of (sizes steps))
  steps_sound away =
      step_sound n conflict parents slots (flat steps) (step_of (sizes steps))
      (sym (no_first _ (length (flat steps)) (no_stray away)))
      (sym (no_first _ (length (flat steps)) no_conflict))
      (sym (no_first _ n no_uneven))
      (sym (no_first _ (length (flat steps)) no_early))

good_shape : (ts : List Transmission) (cs : List ℕ) → 1 ≤ length cs → length cs ≤ 256 → length ts ≤ 256
    → sum cs ≡ length ts → bad_shape ts cs ≡ false
good_shape ts cs some few short adds = grind (arith, nat_tests)

module _ (n : ℕ) (conflict : Transmission → Transmission → Bool) (ls : List TreeLink) (few : n ≤ 64) (shared : Shared conflict)
    (sound : tree_fault n ls ≡ None) where
  drafted : (steps : List (List Transmission)) → 1 ≤ length steps → length steps ≤ 256
      → Planned conflict (parent_table ls) n (slot_table ls) steps → approval_fault n conflict ls (flat steps) (sizes steps) ≡ None
  drafted steps some long planned =
      let all = slots_sum n ls sound few in
      let counts : length (sizes steps) ≡ length steps = length-map steps length in
      let shape =
      good_shape (flat steps) (sizes steps) (omega arith) (omega arith) (omega (arith, planned.whole)) (sizes_add steps) in
      rw (sound, shape)
      (sym (steps_sound n conflict (parent_table ls) (slot_table ls) steps planned (λ v h. (slot_node n ls sound v h).1)))

  -- a base station alone: one empty step
  alone : n ≡ 1 → plan_steps conflict n (routes_of ls) ≡ [] ∷ []
  alone one = rw (eq-eqb n 1 one) refl

  several : (n ≡ 1 → ⊥) → plan_steps conflict n (routes_of ls) ≡ steps_from conflict n (routes_of ls) 256 (slot_table ls)
  several ne = rw (ne_eqb n 1 ne) refl

  no_slots : n ≡ 1 → sum (slot_table ls) ≡ 0
  no_slots one =
      let empty : ls ≡ [] = nil_from_length ls (omega (arith, tree_count n ls sound)) in
      ap (λ l. sum (slot_table l)) empty

  pub always : PlanApproved n conflict ls
  always =
      ⊎_elim
      (λ (one : n ≡ 1).
      rw (alone one)
      (drafted ([] ∷ []) (omega arith) (omega arith)
      (planned_none conflict (parent_table ls) n (slot_table ls) ([] ∷ []) refl (no_slots one))))
      (λ (ne : n ≡ 1 → ⊥).
      let count = tree_count n ls sound in
      let some = slots_some n ls sound few (omega arith) in
      let all = slots_sum n ls sound few in
      rw (several ne)
      (drafted (steps_from conflict n (routes_of ls) 256 (slot_table ls))
      (steps_some conflict n (routes_of ls) 256 (slot_table ls) (omega arith) some)
      (steps_few conflict n (routes_of ls) 256 (slot_table ls))
      (steps_planned conflict n (routes_of ls) shared (depth_of ls) 256 (slot_table ls) (slots_rooted n ls sound) all)))
      (cases_eq n 1)
