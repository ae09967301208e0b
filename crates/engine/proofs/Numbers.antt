-- Rows in the order of their numbers: at most one row has a number.
use Rattle.std.proofs.Common.{◌≡◌, ℕ, ◌<◌, Bool, true, false, cond, List, [], ◌∷◌, ◌++◌, map, Some, filter, sym, refl, ap, ◌∙◌, subst, inl, inr, arith}
use Rattle.engine.specs.Rising.{Rising}
use Rattle.rules.specs.declared.row.Row.{Row}
use Rattle.rules.specs.Lists.{◌∈◌}
use Rattle.rules.specs.Rows.{has_number, row_of}
use Rattle.rules.proofs.RowsOf.{Unique, some_row}
use Rattle.std.proofs.ByRecursion.{all_kept_by, All-map, All-push, All-weaker}
use Rattle.std.proofs.lemmas.Bool.{cond_both, eqb-true, ne_eqb}
use Rattle.std.specs.List.{AllByRecursion}

pub rising_map : (u : Row → Row) → ((h : Row) → (u h).number ≡ h.number) → (rows : List Row) → Rising rows → Rising (map u rows)
rising_map u same [] up = tt
rising_map u same (h ∷ rows) up = (
  All-map (λ q. (u h).number < q.number) u rows
      (All-weaker (λ q. h.number < q.number) (λ q. (u h).number < (u q).number) (λ q l. omega (arith, same h, same q)) rows up.0),
  rising_map u same rows up.1,
)

pub rising_kept : (p : Row → Bool) (rows : List Row) → Rising rows → Rising (filter p rows)
rising_kept p [] up = tt
rising_kept p (h ∷ rows) up =
    let rest = rising_kept p rows up.1 in
    cond_both (p h) (h ∷ filter p rows) (filter p rows) Rising (λ _. (all_kept_by p (λ q. h.number < q.number) rows up.0, rest)) (λ _. rest)

pub rising_push : (rows : List Row) (x : Row) → AllByRecursion (λ q. q.number < x.number) rows → Rising rows → Rising (rows ++ x ∷ [])
rising_push [] x below up = (tt, tt)
rising_push (h ∷ rows) x below up = (
  All-push (λ q. h.number < q.number) rows x up.0 below.0,
  rising_push rows x below.1 up.1,
)

all_in : (P : Row → Type 0) (rows : List Row) (h : Row) → AllByRecursion P rows → h ∈ rows → P h
all_in P [] h all m = elim m [ ]
all_in P (x ∷ rows) h all (inl e) = subst P (sym e) all.0
all_in P (x ∷ rows) h all (inr m) = all_in P rows h all.1 m

pub rising_unique : (rows : List Row) → Rising rows → Unique rows
rising_unique [] up h k m i e = elim m [ ]
rising_unique (x ∷ rows) up h k (inl p) (inl q) e = p ∙ sym q
rising_unique (x ∷ rows) up h k (inl p) (inr i) e =
    let l = all_in (λ q. x.number < q.number) rows k up.0 i in
    let same : h.number ≡ x.number = ap (λ (z : Row). z.number) p in
    absurd (omega arith)
rising_unique (x ∷ rows) up h k (inr m) (inl q) e =
    let l = all_in (λ q. x.number < q.number) rows h up.0 m in
    let same : k.number ≡ x.number = ap (λ (z : Row). z.number) q in
    absurd (omega arith)
rising_unique (x ∷ rows) up h k (inr m) (inr i) e = rising_unique rows up.1 h k m i e

-- rows after one of the number n do not have it
pub past_number : (n : ℕ) (h : Row) (rows : List Row) → has_number n h ≡ true → AllByRecursion (λ q. h.number < q.number) rows
    → AllByRecursion (λ q. has_number n q ≡ false) rows
past_number n h rows k above =
    let same = eqb-true h.number n k in
    All-weaker (λ q. h.number < q.number) (λ q. has_number n q ≡ false) (λ q l. ne_eqb q.number n (λ e. omega arith)) rows above

-- what holds of the row of n, and of every row with another number, holds of each
pub each_row : (P : Row → Type 0) (n : ℕ) (rows : List Row) (q : Row) → Rising rows → row_of n rows ≡ Some q → P q
    → ((h : Row) → has_number n h ≡ false → P h) → AllByRecursion P rows
each_row P n [] q up e here others = tt
each_row P n (h ∷ rows) q up e here others = go (λ f. each_row P n rows q up.1 f here others) (has_number n h) refl e
  where
    go : (row_of n rows ≡ Some q → AllByRecursion P rows) → (b : Bool) → has_number n h ≡ b → cond b (Some h) (row_of n rows) ≡ Some q → P h × AllByRecursion P rows
    go rest true k f = (
      subst P (sym (some_row h q f)) here,
      All-weaker (λ q. has_number n q ≡ false) P others rows (past_number n h rows k up.0),
    )
    go rest false k f = (others h k, rest f)
