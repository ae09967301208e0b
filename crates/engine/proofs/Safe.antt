-- What the invariant of a reachable view says of its rows and rounds, as code needs it: by place, and out of a
-- truncation where it holds in one way only.
use Rattle.std.proofs.Common.{◌≡◌, ℕ, zero, suc, ◌<◌, ◌≤◌, List, [], ◌∷◌, length, refl, sym, subst, inl, inr, arith}
use native.Mathlib.Bridge.{le_prop}
use mathlib.Core.Bool.{Bool-set}
use mathlib.Core.Logic.{∥∥₁_elim, ∥∥₁_map}
use Rattle.engine.specs.Tables.{Fair, Kept}
use Rattle.engine.proofs.Places.{blank, row_at}
use Rattle.rules.specs.declared.call.Call.{Call}
use Rattle.rules.specs.declared.row.Row.{Row}
use Rattle.rules.specs.Lists.{◌∈◌}
use Rattle.rules.specs.Rules.{View, lines_now, most_lines, start_any}
use Rattle.rules.specs.Runs.{step}
use Rattle.rules.proofs.Invariant.{Inv}
use Rattle.rules.proofs.Lawful.{lines_few}
use Rattle.rules.proofs.States.{all_keep, keeps_inv}
use Rattle.std.proofs.ByRecursion.{All-from_get_or}
use Rattle.std.specs.List.{AllByRecursion}

-- the facts of the queries of a table
abbrev pub Reckoned : ℕ → ℕ → List Row → Type 0
Reckoned L d rows = record {
  spread : 1 ≤ d;
  few : length rows ≤ 32;
  fair : AllByRecursion Fair rows;
  kept : AllByRecursion (Kept L d rows) rows;
  fair_extra : Unit {0};
}

-- a row at a place stands in the table
at_place : (rows : List Row) (i : ℕ) → i < length rows → row_at rows i ∈ rows
at_place [] i h = absurd (omega arith)
at_place (r ∷ rows) zero h = inl refl
at_place (r ∷ rows) (suc i) h = inr (at_place rows i (omega arith))

module _ (v : View) (good : ∥ Inv v ∥₁) where
  pub stays_good : (c : Call) → ∥ Inv (step c v).1 ∥₁
  stays_good c = ∥∥₁_map good (λ k. keeps_inv v k c)

  fair_rows : AllByRecursion Fair v.rows
  fair_rows =
      All-from_get_or Fair v.rows blank
      (λ i h. ∥∥₁_elim good le_prop (λ k. (k.table.sound (row_at v.rows i) (at_place v.rows i h)).turns))

  kept_rows : AllByRecursion (Kept v.length v.distance v.rows) v.rows
  kept_rows =
      All-from_get_or (Kept v.length v.distance v.rows) v.rows blank
      (λ i h. ∥∥₁_elim good (Bool-set _ _) (λ k. all_keep v k (row_at v.rows i) (at_place v.rows i h)))

  pub below_rows : AllByRecursion (λ h. h.number < v.next) v.rows
  below_rows =
      All-from_get_or (λ h. h.number < v.next) v.rows blank
      (λ i h. ∥∥₁_elim good le_prop (λ k. k.table.below (row_at v.rows i) (at_place v.rows i h)))

  -- what a reckoning over the rows asks of them
  pub reckoned : (rows : List Row) → rows ≡ v.rows → 1 ≤ v.distance → length rows ≤ 32 → Reckoned v.length v.distance rows
  reckoned rows e spread few = record {
    spread = spread;
    few = few;
    fair = subst (AllByRecursion Fair) (sym e) fair_rows;
    kept = subst (λ r. AllByRecursion (Kept v.length v.distance r) r) (sym e) kept_rows;
    fair_extra = tt;
  }

  pub few_lines : length (lines_now (start_any v)) ≤ most_lines v
  few_lines = ∥∥₁_elim good le_prop (λ k. lines_few v k.long k.spread k.rounds)
