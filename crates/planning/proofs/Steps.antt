-- One step of the planner: its candidates, and that it is not empty while slots are left.
use Rattle.std.proofs.Common.{◌≡◌, ℕ, ◌<◌, ◌≤◌, Bool, true, cond, List, [], ◌∷◌, length, get_or, sum, filter, ap, ◌∙◌, arith}
use Rattle.interference.specs.declared.transmission.Transmission.{Transmission}
use Rattle.planning.specs.Always.{Shared}
use Rattle.planning.proofs.Joins.{Filled, Ready, all_joined, first_joins, nothing_joined}
use Rattle.planner.specs.declared.candidate.Candidate.{Candidate}
use Rattle.planner.specs.Planner.{candidate_of, candidates, deeper, is_ready, step_from}
use Rattle.planning.proofs.Deepest.{Rooted, some_ready}
use Rattle.queue.specs.Ranked.{ranked}
use Rattle.queue.proofs.Ranked.{length-ranked, shuffled_ranked}
use Rattle.routing.specs.declared.routes.Routes.{Routes}
use Rattle.std.proofs.lemmas.List.FromFn.{get_or-range_with_len, length-range_with_len}
use Rattle.std.proofs.ByRecursion.{All-from_get_or, all_kept_by, All-map, kept_by_passes, all_shuffled}
use Rattle.std.proofs.lemmas.List.{length-map}
use Rattle.std.proofs.lemmas.List.Sums.{get_or-le-sum_by, length-filter}
use Rattle.std.proofs.lemmas.Bool.{cond-true}
use Rattle.std.specs.List.{range_with_len, AllByRecursion}

-- ---- the candidates of a step

all_both : {X : Type 0} (P Q : X → Type 0) (xs : List X) → AllByRecursion P xs → AllByRecursion Q xs → AllByRecursion (λ x. P x × Q x) xs
all_both P Q [] p q = tt
all_both P Q (x ∷ xs) p q = ((p.0, q.0), all_both P Q xs p.1 q.1)

all_counting : (n : ℕ) → AllByRecursion (λ v. v < n) (range_with_len 0 n)
all_counting n =
    All-from_get_or (λ v. v < n) (range_with_len 0 n) 0
    (λ i h. let long = length-range_with_len 0 n in let at = get_or-range_with_len 0 n i 0 (omega arith) in omega arith)

some_kept : (p : ℕ → Bool) (n v : ℕ) → v < n → p v ≡ true → 0 < length (filter p (range_with_len 0 n))
some_kept p n v h passes =
    let long = length-range_with_len 0 n in
    let at : get_or (range_with_len 0 n) v 0 ≡ v = get_or-range_with_len 0 n v 0 h ∙ omega arith in
    let one = cond-true {A = ℕ} (p (get_or (range_with_len 0 n) v 0)) 1 0 (ap p at ∙ passes) in
    omega (arith, get_or-le-sum_by (λ x. cond (p x) 1 0) (range_with_len 0 n) v 0 (omega arith), length-filter p (range_with_len 0 n))

module _ (routes : Routes) (left : List ℕ) (n : ℕ) where
  pub candidates_ready : AllByRecursion (λ (c : Candidate). Ready routes.parents left n c.node) (candidates routes left n)
  candidates_ready =
      let ready : ℕ → Bool = is_ready routes.parents left n in
      All-map (λ (c : Candidate). Ready routes.parents left n c.node) (candidate_of routes.depths)
      (filter ready (range_with_len 0 n))
      (all_both (λ v. v < n) (λ v. ready v ≡ true) (filter ready (range_with_len 0 n))
      (all_kept_by ready (λ v. v < n) (range_with_len 0 n) (all_counting n))
      (kept_by_passes ready (range_with_len 0 n)))

  pub some_candidate : (v : ℕ) → v < n → is_ready routes.parents left n v ≡ true → 0 < length (candidates routes left n)
  some_candidate v h ready =
      let long = length-map (filter (is_ready routes.parents left n) (range_with_len 0 n)) (candidate_of routes.depths) in
      let some = some_kept (is_ready routes.parents left n) n v h ready in
      omega arith

-- ---- one step

module _ (conflict : Transmission → Transmission → Bool) (n : ℕ) (routes : Routes) (left : List ℕ) where
  pub step_filled : (shared : Shared conflict) → Filled conflict routes.parents left n (step_from conflict n routes left)
  step_filled shared =
      all_joined conflict shared routes.parents left n (ranked deeper (candidates routes left n))
      (record { sent = []; left = left })
      (all_shuffled (λ (c : Candidate). Ready routes.parents left n c.node) _ _
      (shuffled_ranked deeper (candidates routes left n)) (candidates_ready routes left n))
      (nothing_joined conflict routes.parents left n)

  pub step_some : (depth : ℕ → ℕ) → Rooted left n depth routes.parents → 0 < sum left
      → 1 ≤ length (step_from conflict n routes left).sent
  step_some depth rooted h =
      let one = some_ready left n depth routes.parents rooted h in
      let some = some_candidate routes left n one.0 one.1 one.2 in
      first_joins conflict routes.parents left (ranked deeper (candidates routes left n))
      (omega (arith, length-ranked deeper (candidates routes left n)))
