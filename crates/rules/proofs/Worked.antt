-- The worked examples.
use Rattle.std.proofs.Common.{◌≡◌, ℕ, zero, suc, ◌+◌, ◌≤◌, Bool, true, false, not, ◌&&◌, eqb, ltb, leb, List, [], ◌∷◌, ◌++◌, map, length, Some, None, Ok, Option, Result, sym, refl, ap, ◌∙◌, zero-le, le_trans, le_of_eq}
use Rattle.std.proofs.lemmas.Bool.{eqb-true, leb-true, not-true, and_parts}
use Rattle.rules.specs.declared.call.Call.{Call}
use Rattle.rules.specs.declared.call.Call.TheVariants.{Book}
use Rattle.rules.specs.declared.refusal.Refusal.{Refusal}
use Rattle.rules.specs.declared.row.Row.{Row}
use Rattle.rules.specs.Rows.{booked_row, has_number, first_in_rank, better}
use Rattle.rules.specs.Waits.{demand, wait_of, ends_by, keeps, first_late}
use Rattle.rules.specs.Rules.{View, fair, naming, book_refusal, book_with, book, opened}
use Rattle.rules.specs.Runs.{Numbered, Moment, numbered, history, last_view}
use Rattle.rules.specs.Promise.{gather, starts_in, releases_in}
use Rattle.rules.specs.Examples.{first, second, third, three, booking, code, inversion, early, leaving, removed, following, numbers, Worked}
use Rattle.rules.proofs.Waiting.{demand_mono, wait_is}
use Rattle.rules.proofs.Steps.{after_book}

-- The climb to the longest wait, which computes

abbrev pub climb : ℕ → List Row → Row → ℕ → ℕ
climb d t q zero = 0
climb d t q (suc k) = demand d t q (climb d t q k)

climb_below : (d : ℕ) (t : List Row) (q : Row) (k x : ℕ) → demand d t q x ≡ x → climb d t q k ≤ x
climb_below d t q zero x e = zero-le
climb_below d t q (suc k) x e = le_trans (demand_mono d t q (climb d t q k) x (climb_below d t q k x e)) (le_of_eq e)

-- where it stands still, it is there
pub climb_wait : (d : ℕ) (t : List Row) (q : Row) (k : ℕ) → eqb (demand d t q (climb d t q k)) (climb d t q k) ≡ true → leb (climb d t q k) 60000 ≡ true →
    wait_of d t q ≡ Some (climb d t q k)
climb_wait d t q k e l =
    wait_is d t q (climb d t q k)
    (record { solves = eqb-true (demand d t q (climb d t q k)) (climb d t q k) e; least = λ x f. climb_below d t q k x f })
    (leb-true (climb d t q k) 60000 l)

pub climb_keeps : (L d : ℕ) (t : List Row) (q : Row) (k : ℕ) (b : Bool) → eqb (demand d t q (climb d t q k)) (climb d t q k) ≡ true →
    leb (climb d t q k) 60000 ≡ true → leb (climb d t q k + L) q.deadline ≡ b → keeps L d t q ≡ b
climb_keeps L d t q k b e l f = ap (λ o. ends_by o L q.deadline) (climb_wait d t q k e l) ∙ f

-- the first late row goes by which rows keep their deadline
abbrev Agree : (Row → Bool) → (Row → Bool) → List Row → Type 0
Agree p r [] = Unit {0}
Agree p r (h ∷ t) = (p h ≡ r h) × Agree p r t

better_same : (p r : Row → Bool) (h : Row) → p h ≡ r h → (o : Option Row) → better p h o ≡ better r h o
better_same p r h e None = rw e
better_same p r h e (Some y) = rw e

first_same : (p r : Row → Bool) (t : List Row) → Agree p r t → first_in_rank p t ≡ first_in_rank r t
first_same p r [] k = refl
first_same p r (h ∷ t) k = ap (better p h) (first_same p r t k.1) ∙ better_same p r h k.0 (first_in_rank r t)

-- the row is late or not, by the climb
is_late : (L d : ℕ) (t : List Row) (q : Row) (k : ℕ) (b : Bool) → eqb (demand d t q (climb d t q k)) (climb d t q k) ≡ true →
    leb (climb d t q k) 60000 ≡ true → not (leb (climb d t q k + L) q.deadline) ≡ b → not (keeps L d t q) ≡ b
is_late L d t q k b e l f = ap not (climb_keeps L d t q k (leb (climb d t q k + L) q.deadline) e l refl) ∙ f

abbrev none : Row → Bool
none q = false

-- Bookings that are accepted

record Accepts (v : View) (p per dl : ℕ) : Type 0 where
  fairly : fair per dl ≡ true
  number : ltb 1000000 v.next ≡ false
  room : leb 32 (length v.rows) ≡ false
  timely : first_late v.length v.distance (v.rows ++ (booked_row v.next p per dl ∷ [])) ≡ None

book_step : (v : View) (p per dl : ℕ) → Accepts v p per dl → book p per dl v ≡ (Ok v.next, after_book v p per dl)
book_step v p per dl k =
    let e : book_refusal (booked_row v.next p per dl) v ≡ None = rw (k.fairly, k.number, k.room, k.timely) in
    ap (λ o. book_with o (booked_row v.next p per dl) v) e

last_book : (v : View) (p per dl : ℕ) (cs : List Call) → Accepts v p per dl → last_view v (Book p per dl ∷ cs) ≡ last_view (after_book v p per dl) cs
last_book v p per dl cs k = ap (λ (z : Result ℕ Refusal × View). last_view (numbered z).1 cs) (book_step v p per dl k)

run_book : {X : Type 0} (f : Moment → List X) (v : View) (p per dl : ℕ) (cs : List Call) → Accepts v p per dl →
    f (record { before = v; call = Book p per dl; answer = Numbered v.next; after = after_book v p per dl }) ≡ [] →
    gather f (history v (Book p per dl ∷ cs)) ≡ gather f (history (after_book v p per dl) cs)
run_book f v p per dl cs k e =
    ap (λ (z : Result ℕ Refusal × View). f (record { before = v; call = Book p per dl; answer = (numbered z).0; after = (numbered z).1 }) ++ gather f (history (numbered z).1 cs))
    (book_step v p per dl k) ∙ rw e

-- a table in which no row is late, and one in which the row of number n is the first
all_kept : (L d : ℕ) (t : List Row) → Agree (λ q. not (keeps L d t q)) none t → first_late L d t ≡ None
all_kept L d t k = first_same (λ q. not (keeps L d t q)) none t k ∙ nobody t
  where
    nobody : (rows : List Row) → first_in_rank none rows ≡ None
    nobody [] = refl
    nobody (h ∷ rows) = ap (better none h) (nobody rows)

-- which rows are late, computed: six steps of the climb are enough here
abbrev steady : ℕ → List Row → Row → Bool
steady d t q = eqb (demand d t q (climb d t q 6)) (climb d t q 6) && leb (climb d t q 6) 60000

abbrev same : Bool → Bool → Bool
same true c = c
same false c = not c

abbrev check : ℕ → ℕ → List Row → (Row → Bool) → List Row → Bool
check L d t r [] = true
check L d t r (h ∷ rows) = steady d t h && (same (not (leb (climb d t h 6 + L) h.deadline)) (r h) && check L d t r rows)

same_true : (b c : Bool) → same b c ≡ true → b ≡ c
same_true true c e = sym e
same_true false c e = sym (not-true c e)

checked : (L d : ℕ) (t : List Row) (r : Row → Bool) (rows : List Row) → check L d t r rows ≡ true → Agree (λ q. not (keeps L d t q)) r rows
checked L d t r [] e = tt
checked L d t r (h ∷ rows) e =
    let parts = and_parts (steady d t h) _ e in
    let b = and_parts (same (not (leb (climb d t h 6 + L) h.deadline)) (r h)) (check L d t r rows) parts.1 in
    let c = and_parts (eqb (demand d t h (climb d t h 6)) (climb d t h 6)) (leb (climb d t h 6) 60000) parts.0 in
    (is_late L d t h 6 (r h) c.0 c.1 (same_true _ (r h) b.0), checked L d t r rows b.1)

no_late : (L d : ℕ) (t : List Row) → check L d t none t ≡ true → first_late L d t ≡ None
no_late L d t e = all_kept L d t (checked L d t none t e)

some_late : (L d : ℕ) (t : List Row) (n : ℕ) → check L d t (has_number n) t ≡ true → first_late L d t ≡ first_in_rank (has_number n) t
some_late L d t n e = first_same (λ q. not (keeps L d t q)) (has_number n) t (checked L d t (has_number n) t e)

-- a booking that is accepted, where all of this computes
accepts : (v : View) (p per dl : ℕ) → fair per dl ≡ true → ltb 1000000 v.next ≡ false → leb 32 (length v.rows) ≡ false →
    check v.length v.distance (v.rows ++ (booked_row v.next p per dl ∷ [])) none (v.rows ++ (booked_row v.next p per dl ∷ [])) ≡ true →
    Accepts v p per dl
accepts v p per dl a b c d =
    record { fairly = a; number = b; room = c; timely = no_late v.length v.distance (v.rows ++ (booked_row v.next p per dl ∷ [])) d }

-- the three queries

abbrev one : View
one = after_book (opened 15 8 0) 1 60 40

abbrev two : View
two = after_book one 2 60 40

booked_one : Accepts (opened 15 8 0) 1 60 40
booked_one = accepts (opened 15 8 0) 1 60 40 refl refl refl refl

booked_two : Accepts one 2 60 40
booked_two = accepts one 2 60 40 refl refl refl refl

booked_three : Accepts two 3 100 40
booked_three = accepts two 3 100 40 refl refl refl refl

to_two : (cs : List Call) → last_view (opened 15 8 0) (booking ++ cs) ≡ last_view two cs
to_two cs = last_book (opened 15 8 0) 1 60 40 (Book 2 60 40 ∷ cs) booked_one ∙ last_book one 2 60 40 cs booked_two

-- runs: bookings first
module _ {X : Type 0} (f : Moment → List X) where
  run_inversion : (cs : List Call) →
      ((p per dl n : ℕ) (v w : View) → f (record { before = v; call = Book p per dl; answer = Numbered n; after = w }) ≡ []) →
      gather f (history (opened 15 8 0) (Book 3 100 100 ∷ Book 2 100 100 ∷ Book 1 100 100 ∷ cs)) ≡
      gather f (history (after_book (after_book (after_book (opened 15 8 0) 3 100 100) 2 100 100) 1 100 100) cs)
  run_inversion cs silent =
      run_book f (opened 15 8 0) 3 100 100 (Book 2 100 100 ∷ Book 1 100 100 ∷ cs) (accepts (opened 15 8 0) 3 100 100 refl refl refl refl) (silent _ _ _ _ _ _) ∙
      run_book f (after_book (opened 15 8 0) 3 100 100) 2 100 100 (Book 1 100 100 ∷ cs) (accepts _ 2 100 100 refl refl refl refl) (silent _ _ _ _ _ _) ∙
      run_book f (after_book (after_book (opened 15 8 0) 3 100 100) 2 100 100) 1 100 100 cs (accepts _ 1 100 100 refl refl refl refl) (silent _ _ _ _ _ _)

  run_early : (cs : List Call) →
      ((p per dl n : ℕ) (v w : View) → f (record { before = v; call = Book p per dl; answer = Numbered n; after = w }) ≡ []) →
      gather f (history (opened 15 8 0) (Book 1 60 60 ∷ cs)) ≡ gather f (history (after_book (opened 15 8 0) 1 60 60) cs)
  run_early cs silent = run_book f (opened 15 8 0) 1 60 60 cs (accepts (opened 15 8 0) 1 60 60 refl refl refl refl) (silent _ _ _ _ _ _)

  run_leaving : (cs : List Call) →
      ((p per dl n : ℕ) (v w : View) → f (record { before = v; call = Book p per dl; answer = Numbered n; after = w }) ≡ []) →
      gather f (history (opened 15 8 0) (Book 1 100 100 ∷ Book 2 100 100 ∷ cs)) ≡
      gather f (history (after_book (after_book (opened 15 8 0) 1 100 100) 2 100 100) cs)
  run_leaving cs silent =
      run_book f (opened 15 8 0) 1 100 100 (Book 2 100 100 ∷ cs) (accepts (opened 15 8 0) 1 100 100 refl refl refl refl) (silent _ _ _ _ _ _) ∙
      run_book f (after_book (opened 15 8 0) 1 100 100) 2 100 100 cs (accepts _ 2 100 100 refl refl refl refl) (silent _ _ _ _ _ _)

last_leaving : (cs : List Call) → last_view (opened 15 8 0) (Book 1 100 100 ∷ Book 2 100 100 ∷ cs) ≡ last_view (after_book (after_book (opened 15 8 0) 1 100 100) 2 100 100) cs
last_leaving cs =
    last_book (opened 15 8 0) 1 100 100 (Book 2 100 100 ∷ cs) (accepts (opened 15 8 0) 1 100 100 refl refl refl refl) ∙
    last_book (after_book (opened 15 8 0) 1 100 100) 2 100 100 cs (accepts _ 2 100 100 refl refl refl refl)

abbrev tail_of : List Call → List Call
tail_of [] = []
tail_of (c ∷ cs) = cs

-- what a booking answers, by the first late row
abbrev answers : View → ℕ → ℕ → ℕ → Option Row → Result ℕ Refusal
answers v p per dl o = (book_with (naming o) (booked_row v.next p per dl) v).0

pub worked : Worked
worked =
    record {
      wait_first = climb_wait 8 three first 6 refl refl;
      wait_second = climb_wait 8 three second 6 refl refl;
      wait_third = climb_wait 8 three (third 40) 6 refl refl;
      accepts = ap (λ (v : View). (book 3 100 38 v).0) (to_two []) ∙ ap (answers two 3 100 38) (no_late 15 8 (first ∷ second ∷ third 38 ∷ []) refl);
      refuses = ap (λ (v : View). (book 3 100 37 v).0) (to_two []) ∙ ap (answers two 3 100 37) (some_late 15 8 (first ∷ second ∷ third 37 ∷ []) 3 refl);
      urgent_wait = climb_wait 8 (three ++ (booked_row 4 0 25 25 ∷ [])) (third 40) 6 refl refl;
      urgent =
          ap (λ (v : View). (book 0 25 25 v).0) (to_two (Book 3 100 40 ∷ []) ∙ last_book two 3 100 40 [] booked_three) ∙
          ap (answers (after_book two 3 100 40) 0 25 25) (some_late 15 8 (three ++ (booked_row 4 0 25 25 ∷ [])) 3 refl);
      low = ap (map (λ (v : View). v.slot)) (run_inversion (starts_in 1) (tail_of (tail_of (tail_of inversion))) (λ p per dl n v w. refl));
      middle = ap (map (λ (v : View). v.slot)) (run_inversion (starts_in 2) (tail_of (tail_of (tail_of inversion))) (λ p per dl n v w. refl));
      high = ap (map (λ (v : View). v.slot)) (run_inversion (starts_in 3) (tail_of (tail_of (tail_of inversion))) (λ p per dl n v w. refl));
      early_refused = run_early (λ m. code m.answer) (tail_of early) (λ p per dl n v w. refl);
      early_accepted = run_early (releases_in 1) (tail_of early) (λ p per dl n v w. refl);
      leaves = ap (map (λ (v : View). v.slot)) (run_leaving (starts_in 1) (tail_of (tail_of following)) (λ p per dl n v w. refl));
      stays = ap (λ (v : View). numbers v.rows) (last_leaving (tail_of (tail_of leaving)));
      goes = ap (λ (v : View). numbers v.rows) (last_leaving (tail_of (tail_of removed)));
      follows = ap (map (λ (v : View). v.slot)) (run_leaving (starts_in 2) (tail_of (tail_of following)) (λ p per dl n v w. refl));
      wait_one = climb_wait 1 (booked_row 1 1 2 2 ∷ booked_row 2 2 9 9 ∷ []) (booked_row 2 2 9 9) 6 refl refl;
    }
