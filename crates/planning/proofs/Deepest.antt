-- While slots are left, a deepest node that has some is ready.
use Rattle.std.proofs.Common.{◌≡◌, ℕ, zero, suc, ◌+◌, ◌<◌, ◌≤◌, true, false, not, ◌&&◌, eqb, ltb, List, [], ◌∷◌, get_or, sum, ap, ⊎_elim, arith}
use Rattle.planning.proofs.Misses.{none_below}
use Rattle.planner.specs.Planner.{is_awaiting, is_ready}
use Rattle.std.proofs.lemmas.List.Sums.{sum_by-cons}
use Rattle.std.proofs.lemmas.Bool.{and_from, and_parts, cases_Bool, cases_lt, eqb-true, lt-ltb, ltb-true, not_from_false}

-- a sum that is not 0 has a place that is not
some_place : (xs : List ℕ) → 0 < sum xs → (v : ℕ) × (0 < get_or xs v 0)
some_place [] h = absurd (omega arith)
some_place (x ∷ xs) h =
    ⊎_elim (λ (here : 0 < x). (0, here))
    (λ (none : x ≤ 0).
    let whole : sum (x ∷ xs) ≡ x + sum xs = sum_by-cons (λ y. y) x xs in
    let rest = some_place xs (omega arith) in (suc rest.0, rest.1)) (cases_lt 0 x)

module _ (left : List ℕ) (n : ℕ) (depth : ℕ → ℕ) where
  -- a node with slots left, such that no such node below m is deeper
  record Top (m : ℕ) : Type 0 where
    node : ℕ
    within : node < n
    busy : 0 < get_or left node 0
    deepest : (u : ℕ) → u < m → 0 < get_or left u 0 → depth u ≤ depth node

  top : (m : ℕ) → m ≤ n → (v : ℕ) → v < n → 0 < get_or left v 0 → Top m
  top zero few v h busy = record { node = v; within = h; busy = busy; deepest = λ u below _. absurd (omega arith) }
  top (suc m) few v h busy = better (top m (omega arith) v h busy)
    where
      kept : (t : Top m) → (0 < get_or left m 0 → depth m ≤ depth t.node) → Top (suc m)
      kept t here = record {
        node = t.node;
        within = t.within;
        busy = t.busy;
        deepest = λ u below some. ⊎_elim (λ (less : u < m). t.deepest u less some)
            (λ (more : m ≤ u). let e : u ≡ m = omega arith in rw e (here (rw e at some))) (cases_lt u m);
      }

      taken : (t : Top m) → 0 < get_or left m 0 → depth t.node < depth m → Top (suc m)
      taken t some over = record {
        node = m;
        within = omega arith;
        busy = some;
        deepest = λ u below has. ⊎_elim (λ (less : u < m). let b = t.deepest u less has in omega arith)
            (λ (more : m ≤ u). let e : u ≡ m = omega arith in rw e (omega arith)) (cases_lt u m);
      }

      better : Top m → Top (suc m)
      better t =
          ⊎_elim
          (λ (some : 0 < get_or left m 0).
          ⊎_elim (λ (over : depth t.node < depth m). taken t some over)
          (λ (under : depth m ≤ depth t.node). kept t (λ _. under)) (cases_lt (depth t.node) (depth m)))
          (λ (none : get_or left m 0 ≤ 0). kept t (λ some. absurd (omega arith))) (cases_lt 0 (get_or left m 0))

  module _ (parents : List ℕ) where
    -- each node with slots left is one of the n nodes, and one hop further than its parent
    abbrev pub Rooted : Type 0
    Rooted = (c : ℕ) → 0 < get_or left c 0 → (c < n) × (depth c ≡ suc (depth (get_or parents c 0)))

    -- the deepest of all has no child with slots left
    top_ready : Rooted → (t : Top n) → is_ready parents left n t.node ≡ true
    top_ready rooted t =
        and_from (ltb 0 (get_or left t.node 0)) (not (is_awaiting parents left n t.node)) (lt-ltb 0 _ t.busy)
        (not_from_false (is_awaiting parents left n t.node)
        (none_below (λ c. eqb (get_or parents c 0) t.node && ltb 0 (get_or left c 0)) n
        (λ c below.
        ⊎_elim
        (λ (waits : (eqb (get_or parents c 0) t.node && ltb 0 (get_or left c 0)) ≡ true).
        let parts = and_parts (eqb (get_or parents c 0) t.node) (ltb 0 (get_or left c 0)) waits in
        let parent = eqb-true (get_or parents c 0) t.node parts.0 in
        let some = ltb-true 0 (get_or left c 0) parts.1 in
        let hop = (rooted c some).1 in
        let same = ap depth parent in
        let over = t.deepest c below some in
        absurd (omega arith))
        (λ (free : (eqb (get_or parents c 0) t.node && ltb 0 (get_or left c 0)) ≡ false). free)
        (cases_Bool (eqb (get_or parents c 0) t.node && ltb 0 (get_or left c 0))))))

    pub some_ready : Rooted → 0 < sum left → (v : ℕ) × (v < n) × (is_ready parents left n v ≡ true)
    some_ready rooted h =
        let one = some_place left h in
        let best = top n (omega arith) one.0 (rooted one.0 one.1).0 one.1 in
        (best.node, best.within, top_ready rooted best)
