-- One step of the planner: what its transmissions are, and what they leave.
use Rattle.std.proofs.Common.{◌≡◌, ℕ, zero, suc, ◌+◌, ◌-◌, ◌<◌, ◌≤◌, Bool, true, false, cond, not, eqb, List, [], ◌∷◌, ◌++◌, length, get_or, set, sum, sym, refl, ◌∙◌, ⊎_elim, arith}
use Rattle.interference.specs.declared.transmission.Transmission.{Transmission}
use Rattle.interference.specs.Transmissions.{share}
use Rattle.planning.specs.Always.{Shared}
use Rattle.plan.specs.Approval.{sent_by}
use Rattle.plan.specs.Drafts.{transmission_at}
use Rattle.planner.specs.declared.candidate.Candidate.{Candidate}
use Rattle.planner.specs.Planner.{Filling, is_free, is_ready, join, join_all, to_parent}
use Rattle.std.proofs.ByRecursion.{All-push}
use Rattle.std.proofs.lemmas.List.{get_or_append_left, get_or_past, get_or_push, get_or-set_other, get_or-set_same, length_push}
use Rattle.std.proofs.lemmas.List.Sums.{sum_by-cons, sum_by_push, sum_by-set}
use Rattle.std.proofs.lemmas.Bool.{and_parts, cases_Bool, cases_eq, cases_lt, cond-false, cond-true, eq-eqb, ne_eqb, not-true}
use Rattle.std.proofs.lemmas.Bool.Decides.{nat_tests}
use Rattle.std.specs.List.{AllByRecursion}

-- a place that holds something lies within the list
pub place_within : (xs : List ℕ) (v : ℕ) → 0 < get_or xs v 0 → v < length xs
place_within xs v h =
    ⊎_elim (λ (within : v < length xs). within) (λ (past : length xs ≤ v). let e = get_or_past xs v 0 past in absurd (omega arith))
    (cases_lt v (length xs))

share_sender : (a b : Transmission) → a.from ≡ b.from → share a b ≡ true
share_sender a b e = grind (arith, nat_tests)

sent_push_same : (ts : List Transmission) (t : Transmission) (v : ℕ) → v ≡ t.from → sent_by (ts ++ t ∷ []) v ≡ sent_by ts v + 1
sent_push_same ts t v e =
    let one = cond-true {A = ℕ} (eqb t.from v) 1 0 (eq-eqb t.from v (sym e)) in
    omega (arith, sum_by_push (λ s. cond (eqb s.from v) 1 0) ts t)

sent_push_other : (ts : List Transmission) (t : Transmission) (v : ℕ) → (v ≡ t.from → ⊥) → sent_by (ts ++ t ∷ []) v ≡ sent_by ts v
sent_push_other ts t v ne =
    let none = cond-false {A = ℕ} (eqb t.from v) 1 0 (ne_eqb t.from v (λ e. ne (sym e))) in
    omega (arith, sum_by_push (λ s. cond (eqb s.from v) 1 0) ts t)

module _ (parents start : List ℕ) (n : ℕ) where
  -- a node that may transmit in a step that begins with these slots
  abbrev pub Ready : ℕ → Type 0
  Ready v = (v < n) × (is_ready parents start n v ≡ true)

  -- a transmission of the step
  abbrev pub Joining : Transmission → Type 0
  Joining t = Ready t.from × (t.to ≡ get_or parents t.from 0)

  pub ready_slots : (v : ℕ) → is_ready parents start n v ≡ true → 0 < get_or start v 0
  ready_slots v ready = grind (arith, nat_tests)

module _ (conflict : Transmission → Transmission → Bool) where
  -- what is free of a step conflicts with none of it
  free_at : (ts : List Transmission) (t : Transmission) (j : ℕ) → j < length ts → is_free conflict ts t ≡ true
      → conflict (transmission_at ts j) t ≡ false
  free_at [] t j h free = absurd (omega arith)
  free_at (s ∷ ts) t zero h free = not-true (conflict s t) (and_parts (not (conflict s t)) (is_free conflict ts t) free).0
  free_at (s ∷ ts) t (suc j) h free =
      free_at ts t j (omega arith) (and_parts (not (conflict s t)) (is_free conflict ts t) free).1

  -- no two transmissions of a step conflict
  abbrev pub Apart : List Transmission → Type 0
  Apart ts = (j k : ℕ) → j < k → k < length ts → conflict (transmission_at ts j) (transmission_at ts k) ≡ false

  apart_push : (ts : List Transmission) (t : Transmission) → Apart ts → is_free conflict ts t ≡ true → Apart (ts ++ t ∷ [])
  apart_push ts t was free j k before below =
      let long = length_push ts t in
      let at_j = get_or_append_left ts (t ∷ []) (record { from = 0; to = 0 }) j (omega arith) in
      ⊎_elim
      (λ (old : k < length ts).
      let at-k = get_or_append_left ts (t ∷ []) (record { from = 0; to = 0 }) k old in
      rw (at_j, at-k) (was j k before old))
      (λ (new : length ts ≤ k).
      let at-k = get_or_push ts t (record { from = 0; to = 0 }) k (omega arith) in
      rw (at_j, at-k) (free_at ts t j (omega arith) free))
      (cases_lt k (length ts))

  -- what is kept while a step is filled
  pub record Filled (parents start : List ℕ) (n : ℕ) (f : Filling) : Type 0 where
    pub senders : AllByRecursion (Joining parents start n) f.sent
    pub slots : (v : ℕ) → get_or f.left v 0 + sent_by f.sent v ≡ get_or start v 0
    pub whole : length f.sent + sum f.left ≡ sum start
    pub apart : Apart f.sent

  pub nothing_joined : (parents start : List ℕ) (n : ℕ) → Filled parents start n (record { sent = []; left = start })
  nothing_joined parents start n = record {
    senders = tt;
    slots = λ v. omega arith;
    whole = omega arith;
    apart = λ j k before below. absurd (omega arith);
  }

  module _ (shared : Shared conflict) where
    -- and its sender has none there
    free-unsent : (ts : List Transmission) (t : Transmission) → is_free conflict ts t ≡ true → sent_by ts t.from ≡ 0
    free-unsent [] t free = refl
    free-unsent (s ∷ ts) t free =
        let parts = and_parts (not (conflict s t)) (is_free conflict ts t) free in
        let rest = free-unsent ts t parts.1 in
        let miss = not-true (conflict s t) parts.0 in
        let ne : s.from ≡ t.from → ⊥ = λ e.
        let b : true ≡ false = sym (shared s t (share_sender s t e)) ∙ miss in let z : ◌≡◌ {A = ℕ} 0 1 = cc in omega arith in
        let none = cond-false {A = ℕ} (eqb s.from t.from) 1 0 (ne_eqb s.from t.from ne) in
        omega (arith, sum_by-cons (λ u. cond (eqb u.from t.from) 1 0) s ts)

    module _ (parents start : List ℕ) (n : ℕ) where
      joins : (v : ℕ) (f : Filling) → Ready parents start n v → Filled parents start n f
          → is_free conflict f.sent (to_parent parents v) ≡ true
          → Filled parents start n (record { sent = f.sent ++ to_parent parents v ∷ []; left = set f.left v (get_or f.left v 0 - 1) })
      joins v f ready was free =
          let unsent : sent_by f.sent v ≡ 0 = free-unsent f.sent (to_parent parents v) free in
          let some : 0 < get_or f.left v 0 = omega (arith, was.slots v, ready_slots parents start n v ready.1) in
          let within : v < length f.left = place_within f.left v some in
          record {
            senders =
                All-push (Joining parents start n) f.sent (to_parent parents v) was.senders (ready, refl);
            slots = λ u. ⊎_elim
                (λ (e : u ≡ v).
                let at = get_or-set_same f.left v (get_or f.left v 0 - 1) 0 within in
                let more = sent_push_same f.sent (to_parent parents v) v refl in
                rw e (omega (arith, was.slots v)))
                (λ (ne : u ≡ v → ⊥).
                let at = get_or-set_other f.left v u (get_or f.left v 0 - 1) 0 ne in
                let same = sent_push_other f.sent (to_parent parents v) u ne in
                omega (arith, was.slots u))
                (cases_eq u v);
            whole =
                let long = length_push f.sent (to_parent parents v) in
                let less = sum_by-set (λ x. x) f.left v (get_or f.left v 0 - 1) 0 within in
                omega (arith, was.whole);
            apart = apart_push f.sent (to_parent parents v) was.apart free;
          }

      joins-or-not : (c : Candidate) (f : Filling) → Ready parents start n c.node → Filled parents start n f
          → Filled parents start n (join conflict parents c f)
      joins-or-not c f ready was = ⊎_elim
          (λ (free : is_free conflict f.sent (to_parent parents c.node) ≡ true). rw free (joins c.node f ready was free))
          (λ (not : is_free conflict f.sent (to_parent parents c.node) ≡ false). rw not was)
          (cases_Bool (is_free conflict f.sent (to_parent parents c.node)))

      pub all_joined : (cs : List Candidate) (f : Filling) → AllByRecursion (λ c. Ready parents start n c.node) cs
          → Filled parents start n f → Filled parents start n (join_all conflict parents cs f)
      all_joined [] f each was = was
      all_joined (c ∷ cs) f each was = all_joined cs (join conflict parents c f) each.1 (joins-or-not c f each.0 was)

  -- a step only grows
  sent_grows : (parents : List ℕ) (c : Candidate) (f : Filling) → length f.sent ≤ length (join conflict parents c f).sent
  sent_grows parents c f = ⊎_elim
      (λ (free : is_free conflict f.sent (to_parent parents c.node) ≡ true).
      rw free (let long = length_push f.sent (to_parent parents c.node) in omega arith))
      (λ (not : is_free conflict f.sent (to_parent parents c.node) ≡ false). rw not (omega arith))
      (cases_Bool (is_free conflict f.sent (to_parent parents c.node)))

  all_grow : (parents : List ℕ) (cs : List Candidate) (f : Filling) → length f.sent ≤ length (join_all conflict parents cs f).sent
  all_grow parents [] f = omega arith
  all_grow parents (c ∷ cs) f =
      let here = sent_grows parents c f in let rest = all_grow parents cs (join conflict parents c f) in omega arith

  -- the first candidate joins
  pub first_joins : (parents start : List ℕ) (cs : List Candidate) → 0 < length cs
      → 1 ≤ length (join_all conflict parents cs (record { sent = []; left = start })).sent
  first_joins parents start [] h = absurd (omega arith)
  first_joins parents start (c ∷ cs) h = all_grow parents cs (join conflict parents c (record { sent = []; left = start }))
