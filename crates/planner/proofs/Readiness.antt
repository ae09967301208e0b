-- The nodes that may transmit: the table of nodes with an unfinished child, and the candidates by number.
use Rattle.std.proofs.Common.{◌≡◌, ℕ, ◌+◌, ◌<◌, ◌≤◌, Bool, true, false, cond, not, ◌&&◌, ◌||◌, eqb, ltb, List, [], ◌∷◌, ◌++◌, map, length, get_or, set, replicate, Ok, Err, filter, Result, sym, refl, ap, ◌∙◌, ⊎_elim, add-one, arith, MatchResult}
use Rattle.planner.specs.declared.candidate.Candidate.{Candidate}
use Rattle.planner.specs.Planner.{candidate_of, deeper, is_awaiting, is_ready}
use Rattle.queue.specs.Order.{Order}
use Rattle.queue.specs.Ranked.{placed, ranked}
use Rattle.queue.proofs.Ranked.{length-placed, pushed}
use Rattle.routing.proofs.Searches.{any_start}
use Rattle.routing.specs.Search.{any_below}
use Rattle.std.proofs.lemmas.List.Elements.{filter-append}
use Rattle.std.proofs.lemmas.List.FromFn.{map-range_with_len_more}
use Rattle.std.proofs.lemmas.List.{append-nil, get_or-replicate, get_or-set_other, get_or-set_same, map-append, map-id}
use Rattle.std.proofs.lemmas.List.Sorted.{IsPermutation-refl}
use Rattle.std.proofs.lemmas.Bool.Decides.{nat_tests}
use Rattle.std.proofs.lemmas.Bool.{and_left, and_right, cases_eq, eq-eqb, le-ltb, lt-ltb, ne_eqb}
use Rattle.std.specs.List.{range_with_len}

pub deeper_order : Order deeper
deeper_order = record {
  asymmetric = λ x y h. grind (arith, nat_tests);
  chain = λ x y z h k. grind (arith, nat_tests);
  total = λ x y h k. grind (arith, nat_tests);
}

any_more : (test : ℕ → Bool) (n : ℕ) → any_below test (n + 1) ≡ (any_below test n || test n)
unfolding any_below
any_more test n = rw add-one refl

or_false : (b : Bool) → (b || false) ≡ b
or_false true = refl
or_false false = refl

or_true : (b : Bool) → (b || true) ≡ true
or_true true = refl
or_true false = refl

module _ (parents left : List ℕ) where
  -- what the table says of the children below i
  abbrev pub Marked : ℕ → List Bool → Type 0
  Marked i table = (v : ℕ) → v < 64 → get_or table v false ≡ is_awaiting parents left i v

  pub mark_start : Marked 0 (replicate 64 false)
  mark_start v h = get_or-replicate 64 v false false h ∙ sym (any_start _)

  pub mark_none : (i : ℕ) (table : List Bool) → get_or left i 0 ≤ 0 → Marked i table → Marked (i + 1) table
  mark_none i table none inv v h =
      let miss : (eqb (get_or parents i 0) v && ltb 0 (get_or left i 0)) ≡ false = and_right _ _ (le-ltb 0 (get_or left i 0) none) in
      inv v h ∙ sym (any_more _ i ∙ ap (λ b. is_awaiting parents left i v || b) miss ∙ or_false _)

  pub mark_some : (i : ℕ) (table : List Bool) → 0 < get_or left i 0 → length table ≡ 64 → Marked i table
      → Marked (i + 1) (set table (get_or parents i 0) true)
  mark_some i table some sized inv v h =
      let more = any_more (λ c. eqb (get_or parents c 0) v && ltb 0 (get_or left c 0)) i in
      let count : ltb 0 (get_or left i 0) ≡ true = lt-ltb 0 (get_or left i 0) some in
      ⊎_elim
      (λ (e : v ≡ get_or parents i 0).
      let hit : (eqb (get_or parents i 0) v && ltb 0 (get_or left i 0)) ≡ true = rw (eq-eqb (get_or parents i 0) v (sym e), count) refl in
      let inside : v < length table = omega arith in
      rw (← e) (get_or-set_same table v true false inside)
      ∙ sym (more ∙ ap (λ b. is_awaiting parents left i v || b) hit ∙ or_true _))
      (λ (ne : v ≡ get_or parents i 0 → ⊥).
      let miss : (eqb (get_or parents i 0) v && ltb 0 (get_or left i 0)) ≡ false = rw (ne_eqb (get_or parents i 0) v (λ u. ne (sym u))) refl in
      get_or-set_other table (get_or parents i 0) v true false ne ∙ inv v h
      ∙ sym (more ∙ ap (λ b. is_awaiting parents left i v || b) miss ∙ or_false _))
      (cases_eq v (get_or parents i 0))

  pub mark_upto : (i n : ℕ) (table : List Bool) → i ≡ n → Marked i table → Marked n table
  mark_upto i n table e inv = rw (← e) inv

  module _ (n : ℕ) (table : List Bool) (marked : Marked n table) (v : ℕ) (inside : v < 64) where
    pub ready : 0 < get_or left v 0 → get_or table v false ≡ false → is_ready parents left n v ≡ true
    ready some free = rw (lt-ltb 0 (get_or left v 0) some, sym (marked v inside) ∙ free) refl

    pub held_up : get_or table v false ≡ true → is_ready parents left n v ≡ false
    held_up held = and_right _ _ (ap not (sym (marked v inside) ∙ held))

  pub finished : (n v : ℕ) → get_or left v 0 ≤ 0 → is_ready parents left n v ≡ false
  finished n v none = and_left _ _ (le-ltb 0 (get_or left v 0) none)

-- ---- the queue of those below v that pass the test

counting_more : (n : ℕ) → range_with_len 0 (n + 1) ≡ range_with_len 0 n ++ n ∷ []
counting_more n =
    sym (map-id (range_with_len 0 (n + 1))) ∙ map-range_with_len_more (λ x. x) 0 n n (omega arith) ∙ ap (λ l. l ++ n ∷ []) (map-id (range_with_len 0 n))

module _ (test : ℕ → Bool) (depths : List ℕ) where
  abbrev pub passing : ℕ → List Candidate
  passing v = map (candidate_of depths) (filter test (range_with_len 0 v))

  passing_more : (v : ℕ) → passing (v + 1) ≡ passing v ++ map (candidate_of depths) (cond (test v) (v ∷ []) [])
  passing_more v =
      ap (λ l. map (candidate_of depths) (filter test l)) (counting_more v)
      ∙ ap (map (candidate_of depths)) (filter-append test (range_with_len 0 v) (v ∷ []))
      ∙ map-append (candidate_of depths) (filter test (range_with_len 0 v)) (cond (test v) (v ∷ []) [])

  -- the candidates below v wait, in rank order
  pub record Gathering (v : ℕ) (queue : List Candidate) : Type 0 where
    pub few : length queue ≤ v
    pub holds : queue ≡ ranked deeper (passing v)

  pub gather_start : Gathering 0 []
  gather_start = record { few = omega arith; holds = refl }

  pub gather_none : (v : ℕ) (queue : List Candidate) → test v ≡ false → Gathering v queue → Gathering (v + 1) queue
  gather_none v queue miss was =
      let same : passing (v + 1) ≡ passing v = passing_more v ∙ ap (λ b. passing v ++ map (candidate_of depths) (cond b (v ∷ []) [])) miss ∙ append-nil _ in
      record { few = omega (arith, was.few); holds = rw same was.holds }

  pub gather_more : (v : ℕ) (queue after : List Candidate) → test v ≡ true → Gathering v queue
      → after ≡ placed deeper (candidate_of depths v) queue → Gathering (v + 1) after
  gather_more v queue after hit was put =
      let x = candidate_of depths v in
      let more : passing (v + 1) ≡ passing v ++ x ∷ [] = passing_more v ∙ ap (λ b. passing v ++ map (candidate_of depths) (cond b (v ∷ []) [])) hit in
      record {
        few = omega (arith, was.few, ap length put, length-placed deeper x queue);
        holds = put ∙ ap (placed deeper x) was.holds ∙ sym (ap (ranked deeper) more ∙ pushed deeper deeper_order (passing v) (passing v ++ x ∷ []) x (IsPermutation-refl _));
      }

  pub gather-all : (v n : ℕ) (queue : List Candidate) → v ≡ n → Gathering v queue → queue ≡ ranked deeper (passing n)
  gather-all v n queue e was = rw (← e) was.holds

-- where there is room, the queue takes it
pub accepted : {T E : Type 0} (r : Result T E) (x : Candidate) (xs ys : List Candidate)
    → MatchResult r (λ _. (length xs < 64) × (ys ≡ placed deeper x xs)) (λ _. (length xs ≡ 64) × (ys ≡ xs)) → length xs < 64 → ys ≡ placed deeper x xs
accepted (Ok y) x xs ys h room = h.1
accepted (Err y) x xs ys h room = absurd (omega arith)
