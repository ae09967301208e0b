-- The place of the row of a number, and a change of that row alone.
use Rattle.std.proofs.Common.{◌≡◌, ℕ, zero, suc, ◌<◌, Bool, true, false, cond, ltb, List, [], ◌∷◌, map, length, get_or, position, set, Some, None, Option, sym, refl, ap, ◌∙◌, subst, arith}
use Rattle.engine.specs.Rising.{Rising}
use Rattle.engine.proofs.Numbers.{past_number}
use Rattle.rules.specs.declared.phase.Phase.TheVariants.{Booked}
use Rattle.rules.specs.declared.row.Row.{Row}
use Rattle.rules.specs.Rows.{has_number, row_of}
use Rattle.std.proofs.ByRecursion.{All-get_or, All-weaker}
use Rattle.std.proofs.lemmas.Bool.{eqb-true, ltb-false, ltb-true, ne_eqb}
use Rattle.std.proofs.lemmas.List.Sums.{fails_before_first, passes_at_first}
use Rattle.std.specs.List.{AllByRecursion, find, position_or_len}

-- what stands past the end of a table
abbrev pub blank : Row
blank = record { number = 0; priority = 0; period = 0; deadline = 0; earliest = 0; phase = Booked }

abbrev pub row_at : List Row → ℕ → Row
row_at rows i = get_or rows i blank

-- the row of the number stands at the place, and there is none where there is no place
abbrev pub Stands : ℕ → List Row → Option ℕ → Type 0
Stands n rows None = row_of n rows ≡ None
Stands n rows (Some i) = (i < length rows) × (has_number n (row_at rows i) ≡ true) × (row_of n rows ≡ Some (row_at rows i))

pub row_found : (n : ℕ) (rows : List Row) → find (has_number n) rows ≡ row_of n rows
row_found n [] = refl
row_found n (h ∷ rows) = ap (cond (has_number n h) (Some h)) (row_found n rows)

row_is_at : (n : ℕ) (rows : List Row) (i : ℕ) → i < length rows → has_number n (row_at rows i) ≡ true
    → ((j : ℕ) → j < i → has_number n (row_at rows j) ≡ false) → row_of n rows ≡ Some (row_at rows i)
row_is_at n [] i h here before = absurd (omega arith)
row_is_at n (r ∷ rows) zero h here before = rw here refl
row_is_at n (r ∷ rows) (suc i) h here before =
    rw (before 0 (omega arith)) (row_is_at n rows i (omega arith) here (λ j less. before (suc j) (omega arith)))

row_missing : (n : ℕ) (rows : List Row) → ((j : ℕ) → j < length rows → has_number n (row_at rows j) ≡ false) → row_of n rows ≡ None
row_missing n [] none = refl
row_missing n (r ∷ rows) none = rw (none 0 (omega arith)) (row_missing n rows (λ j less. none (suc j) (omega arith)))

-- a search by place finds the row of the number
pub stands : (n : ℕ) (rows : List Row) (o : Option ℕ) → o ≡ position (has_number n) rows → Stands n rows o
stands n rows o e = subst (Stands n rows) (sym e) (go (ltb k (length rows)) refl)
  where
    k : ℕ
    k = position_or_len (has_number n) rows

    go : (b : Bool) → ltb k (length rows) ≡ b → Stands n rows (cond b (Some k) None)
    go true t =
        let below = ltb-true k (length rows) t in
        let here = passes_at_first (has_number n) rows blank below in
        (below, here, row_is_at n rows k below here (λ j less. fails_before_first (has_number n) rows j blank less))
    go false t =
        let past = ltb-false k (length rows) t in
        row_missing n rows (λ j less. fails_before_first (has_number n) rows j blank (omega arith))

-- ---- a change of the row of a number alone

map_same : (u : Row → Row) (rows : List Row) → AllByRecursion (λ h. u h ≡ h) rows → map u rows ≡ rows
map_same u [] same = refl
map_same u (h ∷ rows) same = ap (λ q. q ∷ map u rows) same.0 ∙ ap (λ l. h ∷ l) (map_same u rows same.1)

module _ (n : ℕ) (u : Row → Row) (others : (h : Row) → has_number n h ≡ false → u h ≡ h) where
  pub map_at : (rows : List Row) (i : ℕ) → Rising rows → i < length rows → has_number n (row_at rows i) ≡ true
      → map u rows ≡ set rows i (u (row_at rows i))
  map_at [] i up l here = absurd (omega arith)
  map_at (h ∷ rows) zero up l here =
      ap (λ l. u h ∷ l)
      (map_same u rows (All-weaker (λ q. has_number n q ≡ false) (λ q. u q ≡ q) others rows (past_number n h rows here up.0)))
  map_at (h ∷ rows) (suc i) up l here =
      let above : h.number < (row_at rows i).number = All-get_or (λ z. h.number < z.number) rows i _ (omega arith) up.0 in
      let same = eqb-true (row_at rows i).number n here in
      ap (λ q. q ∷ map u rows) (others h (ne_eqb h.number n (λ e. omega arith)))
      ∙ ap (λ l. h ∷ l) (map_at rows i up.1 (omega arith) here)
