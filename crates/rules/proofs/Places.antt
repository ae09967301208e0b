-- The rules by places: what code that finds a row by its place, or a first row by any way, needs to know.
use Rattle.std.proofs.Common.{◌≡◌, ℕ, zero, suc, ◌+◌, ◌-◌, ◌*◌, ◌<◌, Bool, true, false, cond, not, eqb, List, [], ◌∷◌, ◌++◌, map, length, get_or, set, Some, None, filter, Option, sym, refl, ap, ◌∙◌, inl, inr, arith}
use mathlib.Core.Path.{fun_ext}
use Rattle.std.proofs.lemmas.Bool.{eq-eqb, ne_eqb}
use Rattle.std.proofs.lemmas.Bool.Decides.{nat_tests}
use Rattle.std.specs.List.{remove}
use Rattle.routing.specs.Search.{first_below}
use Rattle.rules.specs.declared.refusal.Refusal.TheVariants.{Deadline}
use Rattle.rules.specs.declared.row.Row.{Row}
use Rattle.rules.specs.Lists.{◌∈◌}
use Rattle.rules.specs.Rows.{before, has_number, row_of, waits, first_in_rank, confirm_row, release_row, start_row, close_row, other_than}
use Rattle.rules.specs.Waits.{against, rounds, load, wait_of, ends_by, keeps, first_late}
use Rattle.rules.specs.Rules.{View, naming, may_start, start_with, start_any}
use Rattle.rules.proofs.Ranks.{First, Leads, first_leads}
use Rattle.rules.proofs.Sums.{from_map, from_keep, from_end}

-- no two rows have one number
abbrev pub Distinct : List Row → Type 0
Distinct [] = Unit {0}
Distinct (h ∷ t) = ((k : Row) → k ∈ t → h.number ≡ k.number → ⊥) × Distinct t

at_place : (t : List Row) (i : ℕ) (d : Row) → i < length t → get_or t i d ∈ t
at_place [] i d l = absurd (omega arith)
at_place (x ∷ t) zero d l = inl refl
at_place (x ∷ t) (suc i) d l = inr (at_place t i d (omega arith))

-- from places to the list
pub distinct_from : (t : List Row) (d : Row) →
    ((i j : ℕ) → i < j → j < length t → (get_or t i d).number ≡ (get_or t j d).number → ⊥) → Distinct t
distinct_from [] d k = tt
distinct_from (h ∷ t) d k = (
  λ x m e. let o = place_of t x m in k 0 (suc o.0) (omega arith) (let l = o.1 in omega arith) (e ∙ ap (λ (z : Row). z.number) (sym o.2)),
  distinct_from t d (λ i j l m e. k (suc i) (suc j) (omega arith) (omega arith) e),
)
  where
    place_of : (r : List Row) (x : Row) → x ∈ r → (i : ℕ) × (i < length r) × (get_or r i d ≡ x)
    place_of [] x m = elim m [ ]
    place_of (y ∷ r) x (inl e) = (0, omega arith, sym e)
    place_of (y ∷ r) x (inr m) = let o = place_of r x m in (suc o.0, let l = o.1 in omega arith, o.2)

-- the calls keep that
pub distinct_map : (u : Row → Row) (t : List Row) → ((h : Row) → (u h).number ≡ h.number) → Distinct t → Distinct (map u t)
distinct_map u [] k old = tt
distinct_map u (h ∷ t) k old = (
  λ x m e. let o = from_map u t x m in old.0 o.0 o.1 (sym (k h) ∙ e ∙ ap (λ (z : Row). z.number) o.2 ∙ k o.0),
  distinct_map u t k old.1,
)

pub distinct_keep : (p : Row → Bool) (t : List Row) → Distinct t → Distinct (filter p t)
distinct_keep p [] old = tt
distinct_keep p (h ∷ t) old = go (distinct_keep p t old.1) (p h)
  where
    go : Distinct (filter p t) → (b : Bool) → Distinct (cond b (h ∷ filter p t) (filter p t))
    go rest true = (λ x m e. old.0 x (from_keep p t x m) e, rest)
    go rest false = rest

pub distinct_end : (t : List Row) (x : Row) → ((k : Row) → k ∈ t → k.number < x.number) → Distinct t → Distinct (t ++ (x ∷ []))
distinct_end [] x k old = (λ y m e. elim m [ ], tt)
distinct_end (h ∷ t) x k old = (
  λ y m e. elim (from_end t x y m) [
    | inl i ↦ old.0 y i e
    | inr p ↦ let l = k h (inl refl) in let f : y.number ≡ x.number = ap (λ (z : Row). z.number) p in absurd (omega arith)
  ],
  distinct_end t x (λ y m. k y (inr m)) old.1,
)

-- The row of a number, by its place

pub row_is_at : (n : ℕ) (t : List Row) (i : ℕ) (d : Row) → i < length t → (get_or t i d).number ≡ n → Distinct t → row_of n t ≡ Some (get_or t i d)
row_is_at n [] i d l e k = absurd (omega arith)
row_is_at n (h ∷ t) zero d l e k = rw (eq-eqb h.number n e)
row_is_at n (h ∷ t) (suc i) d l e k =
    rw (ne_eqb h.number n (λ p. k.0 (get_or t i d) (at_place t i d (omega arith)) (p ∙ sym e))) (row_is_at n t i d (omega arith) e k.1)

pub row_missing : (n : ℕ) (t : List Row) (d : Row) → ((i : ℕ) → i < length t → (get_or t i d).number ≡ n → ⊥) → row_of n t ≡ None
row_missing n [] d k = refl
row_missing n (h ∷ t) d k =
    rw (ne_eqb h.number n (λ p. k 0 (omega arith) p)) (row_missing n t d (λ i l e. k (suc i) (omega arith) e))

-- a change of the rows of number n is a change at one place
module _ (n : ℕ) (u : Row → Row) (others : (h : Row) → has_number n h ≡ false → u h ≡ h) where
  map_other : (t : List Row) → ((k : Row) → k ∈ t → k.number ≡ n → ⊥) → map u t ≡ t
  map_other [] k = refl
  map_other (h ∷ t) k =
      ap (λ (z : Row). z ∷ map u t) (others h (ne_eqb h.number n (k h (inl refl)))) ∙ ap {B = List Row} (λ r. h ∷ r) (map_other t (λ x m. k x (inr m)))

  pub map_at : (t : List Row) (i : ℕ) (d : Row) → i < length t → (get_or t i d).number ≡ n → Distinct t → map u t ≡ set t i (u (get_or t i d))
  map_at [] i d l e k = absurd (omega arith)
  map_at (h ∷ t) zero d l e k = ap {B = List Row} (λ r. u h ∷ r) (map_other t (λ x m p. k.0 x m (e ∙ sym p)))
  map_at (h ∷ t) (suc i) d l e k =
      ap (λ (z : Row). z ∷ map u t) (others h (ne_eqb h.number n (λ p. k.0 (get_or t i d) (at_place t i d (omega arith)) (p ∙ sym e)))) ∙
      ap {B = List Row} (λ r. h ∷ r) (map_at t i d (omega arith) e k.1)

-- of such changes
pub confirm_other : (n : ℕ) (h : Row) → has_number n h ≡ false → confirm_row n h ≡ h
confirm_other n h e = rw e

pub release_other : (s n : ℕ) (h : Row) → has_number n h ≡ false → release_row s n h ≡ h
release_other s n h e = rw e

pub start_other : (n : ℕ) (h : Row) → has_number n h ≡ false → start_row n h ≡ h
start_other n h e = rw e

pub close_other : (n : ℕ) (h : Row) → has_number n h ≡ false → close_row n h ≡ h
close_other n h e = rw e

-- the row of number n goes, at one place
keep_other : (n : ℕ) (t : List Row) → ((k : Row) → k ∈ t → k.number ≡ n → ⊥) → filter (other_than n) t ≡ t
keep_other n [] k = refl
keep_other n (h ∷ t) k =
    rw (ne_eqb h.number n (k h (inl refl))) (ap {B = List Row} (λ r. h ∷ r) (keep_other n t (λ x m. k x (inr m))))

pub withdraw_at : (n : ℕ) (t : List Row) (i : ℕ) (d : Row) → i < length t → (get_or t i d).number ≡ n → Distinct t → filter (other_than n) t ≡ remove t i
withdraw_at n [] i d l e k = absurd (omega arith)
withdraw_at n (h ∷ t) zero d l e k = rw (eq-eqb h.number n e) (keep_other n t (λ x m p. k.0 x m (e ∙ sym p)))
withdraw_at n (h ∷ t) (suc i) d l e k =
    rw (ne_eqb h.number n (λ p. k.0 (get_or t i d) (at_place t i d (omega arith)) (p ∙ sym e)))
    (ap {B = List Row} (λ r. h ∷ r) (withdraw_at n t i d (omega arith) e k.1))

-- The first in rank, found in any way

one_number : (test : Row → Bool) (t : List Row) (x y : Row) → First test t x → First test t y → x.number ≡ y.number
one_number test t x y a b =
    let p = a.leads y b.inside b.passes in
    let q = b.leads x a.inside a.passes in
    grind (arith, nat_tests)

-- a slot goes by any answer that ranks first among the waiting rows
pub starts_as : (v : View) (o : Option Row) → Leads waits v.rows o → start_any v ≡ start_with o (may_start v.distance v.last v.slot) v
starts_as v o k = go (first_in_rank waits v.rows) o (may_start v.distance v.last v.slot) (first_leads waits v.rows) k
  where
    go : (x o : Option Row) (b : Bool) → Leads waits v.rows x → Leads waits v.rows o → start_with x b v ≡ start_with o b v
    go None None b j k = refl
    go None (Some y) b j k = absurd (j y k.inside k.passes)
    go (Some x) None b j k = absurd (k x j.inside j.passes)
    go (Some x) (Some y) false j k = refl
    go (Some x) (Some y) true j k =
        ap (λ (n : ℕ). record {
          length = v.length;
          distance = v.distance;
          slot = v.slot;
          last = Some v.slot;
          running = v.running ++ (record { number = n; start = v.slot } ∷ []);
          next = v.next;
          rows = map (start_row n) v.rows;
        }) (one_number waits v.rows x y j k)

-- a refusal names any answer that ranks first among the late rows
pub names_as : (L d : ℕ) (t : List Row) (o : Option Row) → Leads (λ q. not (keeps L d t q)) t o → naming (first_late L d t) ≡ naming o
names_as L d t o k = go (first_late L d t) o (first_leads (λ q. not (keeps L d t q)) t) k
  where
    go : (x o : Option Row) → Leads (λ q. not (keeps L d t q)) t x → Leads (λ q. not (keeps L d t q)) t o → naming x ≡ naming o
    go None None j k = refl
    go None (Some y) j k = absurd (j y k.inside k.passes)
    go (Some x) None j k = absurd (k x j.inside j.passes)
    go (Some x) (Some y) j k = ap (λ (n : ℕ). Some (Deadline n)) (one_number (λ q. not (keeps L d t q)) t x y j k)

-- A new row does not change the wait of a row that it does not rank before

load_end : (t : List Row) (x q : Row) (w : ℕ) → before x q ≡ false → load (t ++ (x ∷ [])) q w ≡ load t q w
load_end [] x q w e = rw e
load_end (h ∷ t) x q w e = ap (λ z. against q (rounds w) h + z) (load_end t x q w e)

pub wait_unaffected : (d : ℕ) (t : List Row) (x q : Row) → before x q ≡ false → wait_of d (t ++ (x ∷ [])) q ≡ wait_of d t q
wait_unaffected d t x q e =
    ap (λ (f : ℕ → Bool). first_below f 60001) (fun_ext (λ w. ap (λ z. eqb (d - 1 + d * z) w) (load_end t x q w e)))

pub keeps_unaffected : (L d : ℕ) (t : List Row) (x q : Row) → before x q ≡ false → keeps L d (t ++ (x ∷ [])) q ≡ keeps L d t q
keeps_unaffected L d t x q e = ap (λ o. ends_by o L q.deadline) (wait_unaffected d t x q e)
