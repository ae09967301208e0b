-- The steps of the planner, all together.
use Rattle.std.proofs.Common.{◌≡◌, ℕ, zero, suc, ◌-◌, ◌<◌, ◌≤◌, Bool, true, false, cond, not, ◌&&◌, eqb, ltb, List, [], ◌∷◌, ◌++◌, length, get_or, sum, sym, refl, ap, ◌∙◌, subst, ⊎_elim, arith}
use Rattle.interference.specs.declared.transmission.Transmission.{Transmission}
use Rattle.planning.specs.Always.{Shared}
use Rattle.plan.specs.Approval.{sent_by}
use Rattle.plan.specs.Drafts.{step_of, transmission_at}
use Rattle.planning.proofs.Deepest.{Rooted}
use Rattle.planning.proofs.Joins.{Filled, Joining, place_within, ready_slots}
use Rattle.planning.proofs.Steps.{step_filled, step_some}
use Rattle.planner.specs.Planner.{Filling, flat, is_awaiting, is_ready, sizes, step_from, steps_from}
use Rattle.routing.specs.declared.routes.Routes.{Routes}
use Rattle.routing.proofs.Searches.{any_none}
use Rattle.std.proofs.ByRecursion.{All-append, All-get_or, All-weaker}
use Rattle.std.proofs.lemmas.List.{get_or_append_left, get_or-append_right, length-append}
use Rattle.std.proofs.lemmas.List.Sums.{get_or-le-sum_by, sum_by-append, sum_by-cons}
use Rattle.std.proofs.lemmas.Bool.{and_from, and_parts, both_ways, cases_lt, eq-eqb, le-ltb, lt-ltb, ne_eqb, not-true}
use Rattle.std.specs.List.{AllByRecursion}

-- ---- places of the first step, and of the later ones

step_first : (c : ℕ) (cs : List ℕ) (k : ℕ) → k < c → step_of (c ∷ cs) k ≡ 0
unfolding step_of
step_first c cs k h = rw (lt-ltb k c h) refl

step_later : (c : ℕ) (cs : List ℕ) (k : ℕ) → c ≤ k → step_of (c ∷ cs) k ≡ suc (step_of cs (k - c))
unfolding step_of
step_later c cs k h = rw (le-ltb k c h) refl

at_first : (s rest : List Transmission) (k : ℕ) → k < length s → transmission_at (s ++ rest) k ≡ transmission_at s k
at_first s rest k h = get_or_append_left s rest (record { from = 0; to = 0 }) k h

at_later : (s rest : List Transmission) (k : ℕ) → length s ≤ k
    → transmission_at (s ++ rest) k ≡ transmission_at rest (k - length s)
at_later s rest k h = get_or-append_right s rest (length s) k (record { from = 0; to = 0 }) refl h

pub sizes_add : (steps : List (List Transmission)) → sum (sizes steps) ≡ length (flat steps)
sizes_add [] = refl
sizes_add (s ∷ rest) =
    let here = sum_by-cons (λ x. x) (length s) (sizes rest) in
    let more = sizes_add rest in
    let long = length-append s (flat rest) in
    omega arith

-- a sender that is ready has no child with slots left
ready_alone : (parents left : List ℕ) (n v c : ℕ) → is_ready parents left n v ≡ true
    → c < n → get_or parents c 0 ≡ v → 0 < get_or left c 0 → ⊥
ready_alone parents left n v c ready below parent some =
    let free =
    not-true (is_awaiting parents left n v)
    (and_parts (ltb 0 (get_or left v 0)) (not (is_awaiting parents left n v)) ready).1 in
    both_ways (eqb (get_or parents c 0) v && ltb 0 (get_or left c 0))
    (any_none (λ u. eqb (get_or parents u 0) v && ltb 0 (get_or left u 0)) n c free below)
    (and_from (eqb (get_or parents c 0) v) (ltb 0 (get_or left c 0)) (eq-eqb (get_or parents c 0) v parent) (lt-ltb 0 (get_or left c 0) some))

-- a transmission to the parent, from a node that has slots left
abbrev pub Sender : List ℕ → List ℕ → ℕ → Transmission → Type 0
Sender parents left n t = (t.from < n) × (0 < get_or left t.from 0) × (t.to ≡ get_or parents t.from 0)

module _ (conflict : Transmission → Transmission → Bool) (parents : List ℕ) (n : ℕ) where
  -- steps that use up these slots
  pub record Planned (left : List ℕ) (steps : List (List Transmission)) : Type 0 where
    pub senders : AllByRecursion (Sender parents left n) (flat steps)
    pub apart : (j k : ℕ) → j < k → k < length (flat steps) → step_of (sizes steps) j ≡ step_of (sizes steps) k
        → conflict (transmission_at (flat steps) j) (transmission_at (flat steps) k) ≡ false
    pub slots : (v : ℕ) → sent_by (flat steps) v ≡ get_or left v 0
    pub order : (j k : ℕ) → j < length (flat steps) → k < length (flat steps)
        → (transmission_at (flat steps) j).to ≡ (transmission_at (flat steps) k).from
        → step_of (sizes steps) j < step_of (sizes steps) k
    pub whole : length (flat steps) ≡ sum left

  -- no slots, no transmissions
  pub planned_none : (left : List ℕ) (steps : List (List Transmission)) → flat steps ≡ []
      → sum left ≡ 0 → Planned left steps
  planned_none left steps empty none =
      let short : length (flat steps) ≡ 0 = ap length empty in
      record {
        senders = subst (AllByRecursion (Sender parents left n)) (sym empty) tt;
        apart = λ j k before below same. absurd (omega arith);
        slots = λ v. ⊎_elim
            (λ (some : 0 < get_or left v 0). absurd (omega (arith, get_or-le-sum_by (λ x. x) left v 0 (place_within left v some))))
            (λ (no : get_or left v 0 ≤ 0). let unsent = ap (λ ts. sent_by ts v) empty in omega arith) (cases_lt 0 (get_or left v 0));
        order = λ j k below _ _. absurd (omega arith);
        whole = omega arith;
      }

  module _ (left : List ℕ) (f : Filling) (rest : List (List Transmission))
      (step : Filled conflict parents left n f) (later : Planned f.left rest) where
    more-senders : AllByRecursion (Sender parents left n) (f.sent ++ flat rest)
    more-senders =
        All-append (Sender parents left n) f.sent (flat rest)
        (All-weaker (Joining parents left n) (Sender parents left n)
        (λ t h. (h.0.0, ready_slots parents left n t.from h.0.1, h.1)) f.sent step.senders)
        (All-weaker (Sender parents f.left n) (Sender parents left n)
        (λ t h. (h.0, omega (arith, step.slots t.from, h.1), h.2)) (flat rest) later.senders)

    more-apart : (j k : ℕ) → j < k → k < length (f.sent ++ flat rest)
        → step_of (sizes (f.sent ∷ rest)) j ≡ step_of (sizes (f.sent ∷ rest)) k
        → conflict (transmission_at (f.sent ++ flat rest) j) (transmission_at (f.sent ++ flat rest) k) ≡ false
    more-apart j k before below same =
        let long = length-append f.sent (flat rest) in
        ⊎_elim
        (λ (new : k < length f.sent).
        let at_j = at_first f.sent (flat rest) j (omega arith) in
        let at-k = at_first f.sent (flat rest) k new in
        rw (at_j, at-k) (step.apart j k before new))
        (λ (old : length f.sent ≤ k).
        let step-k = step_later (length f.sent) (sizes rest) k old in
        let at-k = at_later f.sent (flat rest) k old in
        ⊎_elim
        (λ (first : j < length f.sent). let step-j = step_first (length f.sent) (sizes rest) j first in absurd (omega arith))
        (λ (past : length f.sent ≤ j).
        let step-j = step_later (length f.sent) (sizes rest) j past in
        let at_j = at_later f.sent (flat rest) j past in
        rw (at_j, at-k) (later.apart (j - length f.sent) (k - length f.sent) (omega arith) (omega arith) (omega arith)))
        (cases_lt j (length f.sent)))
        (cases_lt k (length f.sent))

    more-order : (j k : ℕ) → j < length (f.sent ++ flat rest) → k < length (f.sent ++ flat rest)
        → (transmission_at (f.sent ++ flat rest) j).to ≡ (transmission_at (f.sent ++ flat rest) k).from
        → step_of (sizes (f.sent ∷ rest)) j < step_of (sizes (f.sent ∷ rest)) k
    more-order j k in-j in-k same =
        let long = length-append f.sent (flat rest) in
        ⊎_elim
        (λ (new : k < length f.sent).
        let at-k = at_first f.sent (flat rest) k new in
        let child = All-get_or (Sender parents left n) (f.sent ++ flat rest) j (record { from = 0; to = 0 }) in-j more-senders in
        let sender = All-get_or (Joining parents left n) f.sent k (record { from = 0; to = 0 }) new step.senders in
        absurd
        (ready_alone parents left n (transmission_at f.sent k).from (transmission_at (f.sent ++ flat rest) j).from
        sender.0.1 child.0 (sym child.2 ∙ same ∙ ap (λ t. t.from) at-k) child.1))
        (λ (old : length f.sent ≤ k).
        let step-k = step_later (length f.sent) (sizes rest) k old in
        let at-k = at_later f.sent (flat rest) k old in
        ⊎_elim
        (λ (first : j < length f.sent). let step-j = step_first (length f.sent) (sizes rest) j first in omega arith)
        (λ (past : length f.sent ≤ j).
        let step-j = step_later (length f.sent) (sizes rest) j past in
        let at_j = at_later f.sent (flat rest) j past in
        let less =
        later.order (j - length f.sent) (k - length f.sent) (omega arith) (omega arith)
        (sym (ap (λ t. t.to) at_j) ∙ same ∙ ap (λ t. t.from) at-k) in
        omega arith)
        (cases_lt j (length f.sent)))
        (cases_lt k (length f.sent))

    planned-more : Planned left (f.sent ∷ rest)
    planned-more = record {
      senders = more-senders;
      apart = more-apart;
      slots = λ v.
          let split = sum_by-append (λ t. cond (eqb t.from v) 1 0) f.sent (flat rest) in
          omega (arith, step.slots v, later.slots v);
      order = more-order;
      whole = let long = length-append f.sent (flat rest) in omega (arith, step.whole, later.whole);
    }

-- ---- the steps that the planner makes

module _ (conflict : Transmission → Transmission → Bool) (n : ℕ) (routes : Routes) where
  steps_none : (left : List ℕ) → steps_from conflict n routes zero left ≡ []
  unfolding steps_from
  steps_none left = refl

  steps_end : (most : ℕ) (left : List ℕ) → sum left ≡ 0 → steps_from conflict n routes (suc most) left ≡ []
  unfolding steps_from
  steps_end most left none = rw (eq-eqb (sum left) 0 none) refl

  steps_more : (most : ℕ) (left : List ℕ) → 0 < sum left
      → steps_from conflict n routes (suc most) left
      ≡ (step_from conflict n routes left).sent ∷ steps_from conflict n routes most (step_from conflict n routes left).left
  unfolding steps_from
  steps_more most left some = let ne : sum left ≡ 0 → ⊥ = omega arith in rw (ne_eqb (sum left) 0 ne) refl

  pub steps_few : (most : ℕ) (left : List ℕ) → length (steps_from conflict n routes most left) ≤ most
  steps_few zero left = rw steps_none (omega arith)
  steps_few (suc most) left =
      ⊎_elim
      (λ (some : 0 < sum left). let rest = steps_few most (step_from conflict n routes left).left in rw steps_more (omega arith))
      (λ (no : sum left ≤ 0). rw (steps_end most left (omega arith)) (omega arith)) (cases_lt 0 (sum left))

  pub steps_some : (most : ℕ) (left : List ℕ) → 0 < most → 0 < sum left
      → 1 ≤ length (steps_from conflict n routes most left)
  steps_some zero left h some = absurd (omega arith)
  steps_some (suc most) left h some = rw steps_more (omega arith)

  module _ (shared : Shared conflict) (depth : ℕ → ℕ) where
    pub steps_planned : (most : ℕ) (left : List ℕ) → Rooted left n depth routes.parents → sum left ≤ most
        → Planned conflict routes.parents n left (steps_from conflict n routes most left)
    steps_planned zero left rooted h = rw steps_none (planned_none conflict routes.parents n left [] refl (omega arith))
    steps_planned (suc most) left rooted h =
        ⊎_elim
        (λ (some : 0 < sum left).
        let step = step_filled conflict n routes left shared in
        let used = step_some conflict n routes left depth rooted some in
        let rest =
        steps_planned most (step_from conflict n routes left).left
        (λ c has. rooted c (omega (arith, step.slots c))) (omega (arith, step.whole)) in
        rw steps_more (planned-more conflict routes.parents n left (step_from conflict n routes left) _ step rest))
        (λ (no : sum left ≤ 0).
        rw (steps_end most left (omega arith)) (planned_none conflict routes.parents n left [] refl (omega arith)))
        (cases_lt 0 (sum left))
