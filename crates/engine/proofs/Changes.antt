-- The rows of a table after a call: a start, row by row, and the row of a number written at its place.
use Rattle.std.proofs.Common.{◌≡◌, ℕ, ◌+◌, ◌<◌, ◌≤◌, Bool, true, false, not, List, ◌++◌, map, length, take, drop, set, position, Some, None, Ok, Err, Option, Result, sym, refl, ap, ◌∙◌, subst, arith}
use Rattle.arrayvec.proofs.ArrayVecLemmas.{items-with_items}
use Rattle.engine.specs.Rising.{Rising}
use Rattle.engine.specs.Rows.{ok_unless, unless_refused}
use Rattle.engine.proofs.Places.{Stands, map_at, row_at, stands}
use Rattle.rules.specs.declared.phase.Phase.{Phase}
use Rattle.rules.specs.declared.refusal.Refusal.{Refusal}
use Rattle.rules.specs.declared.refusal.Refusal.TheVariants.{NotBooked}
use Rattle.rules.specs.declared.row.Row.{Row}
use Rattle.rules.specs.Phases.{is_booked, started}
use Rattle.rules.specs.Rows.{at_phase, close_row, confirm_row, has_number, release_row, row_of, start_row}
use Rattle.rules.specs.Rules.{unless_booked, when}
use Rattle.std.proofs.lemmas.List.Edits.{map_over_more}
use Rattle.std.proofs.lemmas.List.{append-nil, drop_all, get_or_default, length-map, length-set, take_all}
use Rattle.std.proofs.lemmas.Bool.{eq-eqb, eqb-true, ne_eqb}
use Rattle.std.specs.List.{refill}
use Rattle.std.specs.Option.{ok_or}
use Rattle.std.specs.Result.{IsOk, MatchResult}

-- ---- a start, row by row

started_row : (n : ℕ) (h : Row) (p : Phase) → h.number ≡ n → p ≡ started h.phase → at_phase h p ≡ start_row n h
started_row n h p same e = rw (eq-eqb h.number n same, e) refl

module _ (n : ℕ) (old rows : List Row) (i : ℕ) (below : i < length old) (long : length rows ≡ length old)
    (was : rows ≡ map (start_row n) (take i old) ++ drop i old) where
  starts_more : (x : Row) → x ≡ start_row n (row_at rows i) → set rows i x ≡ map (start_row n) (take (i + 1) old) ++ drop (i + 1) old
  starts_more x e =
      ap (set rows i) e ∙ map_over_more (start_row n) old rows i (row_at rows i) below was (get_or_default rows i _ (row_at rows i) (omega arith))

  pub starts_here : (p : Phase) → (row_at rows i).number ≡ n → p ≡ started (row_at rows i).phase
      → set rows i (at_phase (row_at rows i) p) ≡ map (start_row n) (take (i + 1) old) ++ drop (i + 1) old
  starts_here p same e = starts_more (at_phase (row_at rows i) p) (started_row n (row_at rows i) p same e)

  pub starts_past : ((row_at rows i).number ≡ n → ⊥) → set rows i (row_at rows i) ≡ map (start_row n) (take (i + 1) old) ++ drop (i + 1) old
  starts_past other = starts_more (row_at rows i) (rw (ne_eqb (row_at rows i).number n other) refl)

pub starts_all : (n : ℕ) (old rows : List Row) (i : ℕ) → length old ≤ i → rows ≡ map (start_row n) (take i old) ++ drop i old
    → rows ≡ map (start_row n) old
starts_all n old rows i past was =
    was ∙ ap (λ l. map (start_row n) (take i old) ++ l) (drop_all i old past) ∙ append-nil (map (start_row n) (take i old))
    ∙ ap (map (start_row n)) (take_all i old past)

-- ---- the row of a number, changed at its place by a call that may be refused

-- rows written through the slice that was lent of them
pub rows_back : (rows after : List Row) → length after ≡ length rows → refill (length rows) rows after ≡ after
rows_back rows after long = items-with_items (record { items = rows }) after long

pub mapped_back : (u : Row → Row) (rows lent after : List Row) → lent ≡ rows → after ≡ map u lent → refill (length rows) rows after ≡ map u rows
mapped_back u rows lent after same each =
    let all = each ∙ ap (map u) same in
    rows_back rows after (ap length all ∙ length-map rows u) ∙ all

module _ (refusal : Option Row → Option Refusal) (u : ℕ → Row → Row) (others : (n : ℕ) (h : Row) → has_number n h ≡ false → u n h ≡ h)
    (n : ℕ) (rows : List Row) where
  abbrev answer : Result (Unit {0}) Refusal × List Row
  answer = unless_refused (refusal (row_of n rows)) rows (map (u n) rows)

  pub lost : (o : Option ℕ) → o ≡ position (has_number n) rows → (f r : Refusal) → Err f ≡ ok_or {T = ℕ} o r → refusal None ≡ Some r → (Err f, rows) ≡ answer
  lost None none f r e fits = let same : f ≡ r = cc in rw (stands n rows None none, fits, same) refl
  lost (Some i) none f r e fits = cc

  module _ (i : ℕ) (o : Option ℕ) (place : o ≡ position (has_number n) rows) (is : o ≡ Some i) (lent : List Row) (same : lent ≡ rows) where
    there : Stands n rows (Some i)
    there = stands n rows (Some i) (sym is ∙ place)

    pub row_here : row_of n rows ≡ Some (row_at rows i)
    row_here = there.2

    by_row : (a : Result Row Refusal) → a ≡ ok_unless (refusal (Some (row_at lent i))) (u (row_at lent i).number (row_at lent i))
        → a ≡ ok_unless (refusal (row_of n rows)) (u n (row_at rows i))
    by_row a e =
        let number : (row_at rows i).number ≡ n = eqb-true (row_at rows i).number n there.1 in
        subst (λ l. a ≡ ok_unless (refusal (Some (row_at l i))) (u (row_at l i).number (row_at l i))) same e
        ∙ ap (λ k. ok_unless (refusal (Some (row_at rows i))) (u k (row_at rows i))) number
        ∙ ap (λ q. ok_unless (refusal q) (u n (row_at rows i))) (sym row_here)

    pub denied : (f : Refusal) → Err f ≡ ok_unless (refusal (Some (row_at lent i))) (u (row_at lent i).number (row_at lent i)) → (Err f, rows) ≡ answer
    denied f e = go (refusal (row_of n rows)) (by_row (Err f) e)
      where
        go : (q : Option Refusal) → Err f ≡ ok_unless q (u n (row_at rows i)) → ◌≡◌ {A = Result (Unit {0}) Refusal × List Row} (Err f, rows) (unless_refused q rows (map (u n) rows))
        go None e = cc
        go (Some g) e = let same : f ≡ g = cc in rw same refl

    module _ (x : Row) (e : Ok x ≡ ok_unless (refusal (Some (row_at lent i))) (u (row_at lent i).number (row_at lent i)))
        (again : List Row) (back : again ≡ rows) (up : Rising rows) where
      parts : (q : Option Refusal) → Ok x ≡ ok_unless q (u n (row_at rows i)) → (q ≡ None) × (x ≡ u n (row_at rows i))
      parts None e = (refl, cc)
      parts (Some f) e = cc

      fine : refusal (row_of n rows) ≡ None
      fine = (parts _ (by_row (Ok x) e)).0

      pub allowed : refusal (Some (row_at rows i)) ≡ None
      allowed = ap refusal (sym row_here) ∙ fine

      pub made : x ≡ u n (row_at rows i)
      made = (parts _ (by_row (Ok x) e)).1

      pub written : refill (length rows) rows (set again i x) ≡ map (u n) rows
      written =
          ap (λ l. refill (length rows) rows (set l i x)) back ∙ rows_back rows (set rows i x) (length-set rows i x)
          ∙ ap (set rows i) made ∙ sym (map_at n (u n) (others n) rows i up there.0 there.1)

      pub done : (Ok tt, refill (length rows) rows (set again i x)) ≡ answer
      done = rw (fine, written) refl

-- a row that may be withdrawn
pub withdrawn_row : (o : Option Row) → unless_booked o ≡ None → (q : Row) × (o ≡ Some q) × (is_booked q.phase ≡ true)
withdrawn_row None e = cc
withdrawn_row (Some q) e = (q, refl, go (is_booked q.phase) e)
  where
    go : (b : Bool) → when (not b) NotBooked ≡ None → b ≡ true
    go true e = refl
    go false e = cc

-- what went into a queue with room
pub put_in : {E P Q : Type 0} (r : Result (Unit {0}) E) → MatchResult r (λ _. P) (λ _. Q) → (Q → ⊥) → IsOk r × P
put_in (Ok u) m full = (refl, m)
put_in (Err e) m full = absurd (full m)

pub confirm_others : (n : ℕ) (h : Row) → has_number n h ≡ false → confirm_row n h ≡ h
confirm_others n h e = rw e refl

pub release_others : (slot n : ℕ) (h : Row) → has_number n h ≡ false → release_row slot n h ≡ h
release_others slot n h e = rw e refl

pub close_others : (n : ℕ) (h : Row) → has_number n h ≡ false → close_row n h ≡ h
close_others n h e = rw e refl
