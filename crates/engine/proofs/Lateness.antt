-- Who feels a new row, and the late row that ranks first, row by row from the end.
use Rattle.std.proofs.Common.{◌≡◌, ℕ, ◌+◌, ◌-◌, ◌*◌, Bool, true, false, not, eqb, List, [], ◌∷◌, ◌++◌, Some, None, Option, fold, reverse, ◌&&◌, sym, refl, ap, ◌∙◌, arith}
use Rattle.engine.specs.Tables.{Kept, feels, queries_of}
use Rattle.engine.proofs.Loads.{load_extra}
use Rattle.routing.proofs.Searches.{first_same}
use Rattle.rules.specs.declared.row.Row.{Row}
use Rattle.rules.specs.Rows.{before, better, first_in_rank}
use Rattle.rules.specs.Waits.{demand, ends_by, first_late, keeps, load, wait_of}
use Rattle.std.proofs.ByRecursion.{All-weaker}
use Rattle.std.proofs.lemmas.List.{append-nil, reverse-append}
use Rattle.std.proofs.lemmas.List.Sums.{fold-append}
use Rattle.std.proofs.lemmas.Bool.Decides.{nat_tests}
use Rattle.std.specs.List.{AllByRecursion}
use Rattle.std.specs.Option.{option_to_list}

rank_once : (h x : Row) → before h x ≡ true → before x h ≡ false
rank_once h x e = grind (arith, nat_tests)

-- a row that ranks before x has the same load with x as without
load_unfelt : (rows : List Row) (x h : Row) (w : ℕ) → before h x ≡ true → load (rows ++ x ∷ []) h w ≡ load rows h w
load_unfelt rows x h w e =
    let none : load (x ∷ []) h w ≡ 0 = rw (rank_once h x e) refl in load_extra rows (Some x) h w ∙ omega arith

wait_unfelt : (d : ℕ) (rows : List Row) (x h : Row) → before h x ≡ true → wait_of d (rows ++ x ∷ []) h ≡ wait_of d rows h
wait_unfelt d rows x h e =
    first_same (λ w. eqb (demand d (rows ++ x ∷ []) h w) w) (λ w. eqb (demand d rows h w) w) 60001
    (λ w below. ap (λ l. eqb (d - 1 + d * l) w) (load_unfelt rows x h w e))

pub unfelt : (L d : ℕ) (rows : List Row) (x h : Row) → before h x ≡ true → Kept L d rows h → false ≡ not (keeps L d (rows ++ x ∷ []) h)
unfelt L d rows x h e kept =
    let same = ap (λ o. ends_by o L h.deadline) (wait_unfelt d rows x h e) in sym (ap not (same ∙ kept))

-- whether a row of the table is late need not be asked where it does not feel the new one
pub late_same : (L d : ℕ) (rows : List Row) (extra : Option Row) (h : Row) → Kept L d rows h
    → (feels extra h && not (keeps L d (queries_of rows extra) h)) ≡ not (keeps L d (queries_of rows extra) h)
late_same L d rows None h kept = rw (append-nil rows, kept) refl
late_same L d rows (Some x) h kept = go (before h x) refl
  where
    go : (b : Bool) → before h x ≡ b → (not b && not (keeps L d (rows ++ x ∷ []) h)) ≡ not (keeps L d (rows ++ x ∷ []) h)
    go true e = unfelt L d rows x h e kept
    go false e = refl

late_all : (L d : ℕ) (rows : List Row) (extra : Option Row) (ys : List Row) → AllByRecursion (Kept L d rows) ys
    → AllByRecursion (λ h. (feels extra h && not (keeps L d (queries_of rows extra) h)) ≡ not (keeps L d (queries_of rows extra) h)) ys
late_all L d rows extra ys kept = All-weaker (Kept L d rows) _ (late_same L d rows extra) ys kept

-- ---- the row that ranks first, from the end

better_by : (test : Row → Bool) (late : Bool) (h : Row) (o : Option Row) → late ≡ test h → better (λ _. late) h o ≡ better test h o
better_by test late h None e = rw e refl
better_by test late h (Some y) e = rw e refl

abbrev pub better_from : (Row → Bool) → Option Row → Row → Option Row
better_from late found h = better (λ _. late h) h found

first_fold : (test late : Row → Bool) (rows ys : List Row) → AllByRecursion (λ h. late h ≡ test h) rows
    → fold (better_from late) (first_in_rank test ys) (reverse rows) ≡ first_in_rank test (rows ++ ys)
first_fold test late [] ys same = refl
first_fold test late (h ∷ rows) ys same =
    ap (fold (better_from late) (first_in_rank test ys)) (reverse-append (h ∷ []) rows)
    ∙ fold-append (better_from late) (first_in_rank test ys) (reverse rows) (h ∷ [])
    ∙ ap (better (λ _. late h) h) (first_fold test late rows ys same.1)
    ∙ better_by test (late h) h (first_in_rank test (rows ++ ys)) same.0

pub first_found : (L d : ℕ) (rows : List Row) (extra : Option Row) → AllByRecursion (Kept L d rows) rows
    → fold (better_from (λ q. feels extra q && not (keeps L d (queries_of rows extra) q)))
    (first_in_rank (λ q. not (keeps L d (queries_of rows extra) q)) (option_to_list extra)) (reverse rows)
    ≡ first_late L d (queries_of rows extra)
first_found L d rows extra kept =
    first_fold (λ q. not (keeps L d (queries_of rows extra) q)) _ rows (option_to_list extra) (late_all L d rows extra rows kept)
