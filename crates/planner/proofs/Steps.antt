-- One step while it is filled.
use Rattle.std.proofs.Common.{◌≡◌, ℕ, ◌+◌, ◌-◌, ◌<◌, ◌≤◌, Bool, true, false, not, ◌&&◌, ltb, List, [], ◌∷◌, ◌++◌, length, get_or, take, drop, set, sum, filter, sym, refl, ap, ◌∙◌, ⊎_elim, arith}
use Rattle.interference.specs.declared.transmission.Transmission.{Transmission}
use Rattle.interference.specs.Transmissions.{share}
use Rattle.planner.specs.declared.candidate.Candidate.{Candidate}
use Rattle.planner.specs.Filled.{StepFilled}
use Rattle.planner.specs.Planner.{Filling, candidate_of, deeper, is_free, is_ready, join, join_all, step_from, to_parent, candidates, is_awaiting}
use Rattle.queue.specs.Ranked.{ranked}
use Rattle.queue.proofs.Ranked.{shuffled_ranked}
use Rattle.routing.specs.declared.routes.Routes.{Routes}
use Rattle.std.proofs.lemmas.List.FromFn.{get_or-range_with_len, length-range_with_len}
use Rattle.std.proofs.ByRecursion.{All-from_get_or, All-map, All-weaker, all_shuffled}
use Rattle.std.proofs.lemmas.List.{drop-drop, drop-set-lt, get_or-set_other, length-set, length-take-le, take-append-drop, take_more_set}
use Rattle.std.proofs.lemmas.List.Sums.{get_or-le-sum_by, sum_by-set}
use Rattle.std.proofs.lemmas.Bool.{and_from, and_parts, cases_Bool, eq-eqb, ltb-true, not-true}
use Rattle.std.specs.List.{list_all, range_with_len, AllByRecursion}

-- a step that the transmission is free of, as the code asks it
free_of : (conflict : Transmission → Transmission → Bool) (t : Transmission) (ts : List Transmission)
    → list_all (λ s. not (conflict s t)) ts ≡ is_free conflict ts t
free_of conflict t [] = refl
free_of conflict t (s ∷ ts) = ap (λ b. not (conflict s t) && b) (free_of conflict t ts)

-- ---- the candidates that still wait

module _ (conflict : Transmission → Transmission → Bool) (parents : List ℕ) where
  -- the candidate's node has slots left, if its transmission is free
  pub record Able (f : Filling) (c : Candidate) : Type 0 where
    pub within : c.node < length f.left
    pub slots : is_free conflict f.sent (to_parent parents c.node) ≡ true → 0 < get_or f.left c.node 0

  -- the step so far
  abbrev pub so_far : ℕ → List Transmission → List ℕ → Filling
  so_far size out left = record { sent = take size out; left = left }

  -- what waits completes the step. The two lists were `first` and `start`
  pub record Joining (goal : Filling) (first : List Transmission) (start : List ℕ) (queue : List Candidate) (size : ℕ) (out : List Transmission) (left : List ℕ) : Type 0 where
    pub able : AllByRecursion (Able (so_far size out left)) queue
    pub leads : join_all conflict parents queue (so_far size out left) ≡ goal
    pub long : length out ≡ length first
    pub room : size ≤ length first
    pub rest : drop size out ≡ drop size first
    pub count : length left ≡ length start
    pub kept : size + sum left ≡ sum start

  join_free : (c : Candidate) (f : Filling) → is_free conflict f.sent (to_parent parents c.node) ≡ true
      → join conflict parents c f
      ≡ record { sent = f.sent ++ to_parent parents c.node ∷ []; left = set f.left c.node (get_or f.left c.node 0 - 1) }
  join_free c f free = rw free refl

  join_held : (c : Candidate) (f : Filling) → is_free conflict f.sent (to_parent parents c.node) ≡ false → join conflict parents c f ≡ f
  join_held c f held = rw held refl

  free_push : (ts : List Transmission) (s t : Transmission) → is_free conflict (ts ++ s ∷ []) t ≡ true
      → (is_free conflict ts t ≡ true) × (conflict s t ≡ false)
  free_push [] s t free = (refl, not-true _ (and_parts _ _ free).0)
  free_push (u ∷ ts) s t free =
      let parts = and_parts (not (conflict u t)) (is_free conflict (ts ++ s ∷ []) t) free in
      let rest = free_push ts s t parts.1 in
      (and_from _ _ parts.0 rest.0, rest.1)

  module _ (shared : (a b : Transmission) → share a b ≡ true → conflict a b ≡ true) where
    -- a transmission that is free of another has another node
    free-apart : (ts : List Transmission) (a b : ℕ) → is_free conflict (ts ++ to_parent parents a ∷ []) (to_parent parents b) ≡ true → b ≡ a → ⊥
    free-apart ts a b free e =
        let same : share (to_parent parents a) (to_parent parents b) ≡ true = rw (eq-eqb a b (sym e)) refl in
        let z : true ≡ false = sym (shared (to_parent parents a) (to_parent parents b) same) ∙ (free_push ts (to_parent parents a) (to_parent parents b) free).1 in
        let y : ◌≡◌ {A = ℕ} 0 1 = cc in omega arith

    able-more : (ts : List Transmission) (left : List ℕ) (a : ℕ) (c : Candidate) → Able (record { sent = ts; left = left }) c
        → Able (record { sent = ts ++ to_parent parents a ∷ []; left = set left a (get_or left a 0 - 1) }) c
    able-more ts left a c was = record {
      within = simp length-set was.within;
      slots = λ free.
          let other = free-apart ts a c.node free in
          rw (get_or-set_other left a c.node (get_or left a 0 - 1) 0 other) (was.slots (free_push ts (to_parent parents a) (to_parent parents c.node) free).0);
    }

  able_start : (depths left : List ℕ) (n v : ℕ) → v < length left → is_ready parents left n v ≡ true → Able (record { sent = []; left = left }) (candidate_of depths v)
  able_start depths left n v h ready = record {
    within = h;
    slots = λ free. ltb-true 0 (get_or left v 0) (and_parts (ltb 0 (get_or left v 0)) (not (is_awaiting parents left n v)) ready).0;
  }

-- ---- a turn and the end

module _ {conflict : Transmission → Transmission → Bool} {parents : List ℕ} {goal : Filling} {first : List Transmission} {start : List ℕ}
    {queue : List Candidate} {size : ℕ} {out : List Transmission} {left : List ℕ}
    (was : Joining conflict parents goal first start queue size out left) where
  -- c comes out of the queue
  module _ {after : List Candidate} (c : Candidate) (taken : queue ≡ c ∷ after) where
    others : AllByRecursion (Able conflict parents (so_far conflict parents size out left)) (c ∷ after)
    others = rw taken at was.able

    next : join_all conflict parents after (join conflict parents c (so_far conflict parents size out left)) ≡ goal
    next = sym (ap (λ cs. join_all conflict parents cs (so_far conflict parents size out left)) taken) ∙ was.leads

    pub join_within : c.node < length start
    join_within = omega (arith, others.0.within, was.count)

    -- the code asks of `&out[0..size]`
    abbrev joins : Bool
    joins = list_all (λ s. not (conflict s (to_parent parents c.node))) (take (size - 0) out)

    asked : (b : Bool) → b ≡ joins → is_free conflict (take size out) (to_parent parents c.node) ≡ b
    asked b e =
        let all : size ≡ size - 0 = omega arith in
        ap (λ k. is_free conflict (take k out) (to_parent parents c.node)) all ∙ sym (free_of conflict (to_parent parents c.node) (take (size - 0) out)) ∙ sym e

    pub join_none : false ≡ joins → Joining conflict parents goal first start after size out left
    join_none held = record {
      able = others.1;
      leads = sym (ap (join_all conflict parents after) (join_held conflict parents c (so_far conflict parents size out left) (asked false held))) ∙ next;
      long = was.long;
      room = was.room;
      rest = was.rest;
      count = was.count;
      kept = was.kept;
    }

    module _ (free : true ≡ joins) where
      pub join_slots : 0 < get_or left c.node 0
      join_slots = others.0.slots (asked true free)

      pub join_room : sum start ≤ length first → size < length out
      join_room fits = omega (arith, was.kept, was.long, join_slots, get_or-le-sum_by (λ x. x) left c.node 0 others.0.within)

      pub join_more : ((a b : Transmission) → share a b ≡ true → conflict a b ≡ true) → sum start ≤ length first
          → Joining conflict parents goal first start after (size + 1) (set out size (to_parent parents c.node)) (set left c.node (get_or left c.node 0 - 1))
      join_more shared fits =
          let t = to_parent parents c.node in
          let less : List ℕ = set left c.node (get_or left c.node 0 - 1) in
          let roomy : size < length out = join_room fits in
          let front : take (size + 1) (set out size t) ≡ take size out ++ t ∷ [] = take_more_set out size t roomy in
          record {
            able =
                rw front (All-weaker (Able conflict parents (so_far conflict parents size out left)) (Able conflict parents (record { sent = take size out ++ t ∷ []; left = less }))
                (able-more conflict parents shared (take size out) left c.node) _ others.1);
            leads = rw front (sym (ap (join_all conflict parents after) (join_free conflict parents c (so_far conflict parents size out left) (asked true free))) ∙ next);
            long = length-set out size t ∙ was.long;
            room = omega (arith, was.long);
            rest =
                drop-set-lt (size + 1) out size t (omega arith) ∙ sym (drop-drop 1 size out) ∙ ap (drop 1) was.rest ∙ drop-drop 1 size first;
            count = length-set left c.node _ ∙ was.count;
            kept = omega (arith, was.kept, sum_by-set (λ x. x) left c.node (get_or left c.node 0 - 1) 0 others.0.within, join_slots);
          }

  -- the queue is empty
  module _ (empty : queue ≡ []) where
    done : so_far conflict parents size out left ≡ goal
    done = sym (ap (λ cs. join_all conflict parents cs (so_far conflict parents size out left)) empty) ∙ was.leads

    sized : size ≡ length goal.sent
    sized = sym (ap (λ f. length f.sent) (sym done) ∙ length-take-le size out (omega (arith, was.room, was.long)))

    pub join_end : StepFilled goal first start out left size
    join_end = record {
      sized = sized;
      written =
          sym (take-append-drop size out) ∙ ap (λ rest. take size out ++ rest) was.rest
          ∙ ap (λ ts. ts ++ drop size first) (ap (λ f. f.sent) done) ∙ ap (λ k. goal.sent ++ drop k first) sized;
      counted = ap (λ f. f.left) done;
      used = was.kept;
    }

all_kept : {X : Type 0} (P : X → Type 0) (test : X → Bool) (xs : List X) → AllByRecursion (λ x. test x ≡ true → P x) xs → AllByRecursion P (filter test xs)
all_kept P test [] each = tt
all_kept P test (x ∷ xs) each =
    ⊎_elim
    (λ (yes' : test x ≡ true). rw yes' (each.0 yes', all_kept P test xs each.1))
    (λ (no' : test x ≡ false). rw no' (all_kept P test xs each.1))
    (cases_Bool (test x))

-- all candidates are able as a step begins
pub join_start : (conflict : Transmission → Transmission → Bool) (routes : Routes) (n : ℕ) (queue : List Candidate) (out : List Transmission) (left : List ℕ)
    → n ≤ 64 → length left ≡ 64 → queue ≡ ranked deeper (candidates routes left n)
    → Joining conflict routes.parents (step_from conflict n routes left) out left queue 0 out left
join_start conflict routes n queue out left most sized is = record {
  able =
      rw is (all_shuffled (Able conflict routes.parents (record { sent = []; left = left })) _ _ (shuffled_ranked deeper (candidates routes left n))
      (All-map (Able conflict routes.parents (record { sent = []; left = left })) (candidate_of routes.depths) _
      (all_kept _ (is_ready routes.parents left n) (range_with_len 0 n)
      (All-from_get_or _ (range_with_len 0 n) 0
      (λ i h.
      let below : i < n = omega (arith, length-range_with_len 0 n) in
      rw (get_or-range_with_len 0 n i 0 below) (able_start conflict routes.parents routes.depths left n (0 + i) (omega arith)))))));
  leads = ap (λ cs. join_all conflict routes.parents cs (record { sent = []; left = left })) is;
  long = refl;
  room = omega arith;
  rest = refl;
  count = refl;
  kept = omega arith;
}
