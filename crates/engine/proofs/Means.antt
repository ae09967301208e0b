-- The answers of the rules mean what they should, in every state that an engine reaches.
use Rattle.std.proofs.Common.{◌≡◌, ℕ, ◌+◌, ◌≤◌, Bool, true, false, not, ◌&&◌, ltb, leb, ◌⊎◌, [], ◌∷◌, ◌++◌, length, Some, None, Option, Result, sym, refl, ap, ◌∙◌, subst, inl, inr, arith}
use native.Mathlib.Bridge.{le_prop}
use mathlib.Core.Bool.{Bool-set, false≢true}
use mathlib.Core.Logic.{∥∥₁_elim}
use Rattle.engine.specs.Meanings.{Judged, JudgedIn, Waited}
use Rattle.routing.specs.Search.{or_else}
use Rattle.rules.specs.declared.refusal.Refusal.{Refusal}
use Rattle.rules.specs.declared.refusal.Refusal.TheVariants.{Terms, Numbers, TableFull}
use Rattle.rules.specs.declared.row.Row.{Row}
use Rattle.rules.specs.Laws.{NamesFirst}
use Rattle.rules.specs.Lists.{◌∈◌}
use Rattle.rules.specs.Rows.{booked_row, row_of}
use Rattle.rules.specs.Rules.{View, book, book_with, fair, naming, or_not_in_table, trial, wait, wait_in, when}
use Rattle.rules.specs.Waits.{first_late, ends_by, keeps, wait_of}
use Rattle.rules.proofs.Invariant.{Inv}
use Rattle.rules.proofs.Lawful.{admission, trial_same, wait_least}
use Rattle.rules.proofs.States.{all_keep}
use Rattle.rules.proofs.Steps.{row_of_is}
use Rattle.rules.proofs.Sums.{from_end}
use Rattle.std.proofs.lemmas.Bool.{and_parts, leb-true}

module _ (v : View) (good : ∥ Inv v ∥₁) where
  kept : (n : ℕ) (q : Row) → row_of n v.rows ≡ Some q → keeps v.length v.distance v.rows q ≡ true
  kept n q e = ∥∥₁_elim good (Bool-set _ _) (λ k. all_keep v k q (row_of_is n v.rows q e).0)

  pub waited : (n : ℕ) → Waited n v (wait n v)
  waited n = go (row_of n v.rows) refl
    where
      row : (q : Row) → row_of n v.rows ≡ Some q → (o : Option ℕ) → wait_of v.distance v.rows q ≡ o → ends_by o v.length q.deadline ≡ true
          → Waited n v (or_not_in_table o)
      row q e None w ends = absurd (false≢true ends)
      row q e (Some w) is ends = (q, e, wait_least v.distance v.rows q w is, leb-true (w + v.length) q.deadline ends)

      go : (o : Option Row) → row_of n v.rows ≡ o → Waited n v (wait_in o v)
      go None e = (e, refl)
      go (Some q) e = row q e (wait_of v.distance v.rows q) refl (kept n q e)

  module _ (priority period deadline : ℕ) where
    abbrev x : Row
    x = booked_row v.next priority period deadline

    short : fair period deadline ≡ true → (q : Row) → q ∈ (v.rows ++ x ∷ []) → q.deadline ≤ 60000
    short e q m = go (from_end v.rows x q m)
      where
        parts : (1 ≤ deadline) × (deadline ≤ period) × (period ≤ 60000)
        parts =
            let fits = and_parts (leb 1 deadline) (leb deadline period && leb period 60000) e in
            let b = and_parts (leb deadline period) (leb period 60000) fits.1 in
            (leb-true 1 deadline fits.0, leb-true deadline period b.0, leb-true period 60000 b.1)

        go : (q ∈ v.rows) ⊎ (q ≡ x) → q.deadline ≤ 60000
        go (inl old) = ∥∥₁_elim good le_prop (λ k. let s = k.table.sound q old in let a = s.short in let b = s.small in omega arith)
        go (inr new) = let p = parts in let same = ap (λ (r : Row). r.deadline) new in omega arith

    judged : Judged v.length v.distance (v.rows ++ x ∷ []) (book priority period deadline v).0
    judged = go (fair period deadline) refl (ltb 1000000 v.next) (leb 32 (length v.rows))
      where
        named : (o : Option Row) → NamesFirst v.length v.distance (v.rows ++ x ∷ []) o
            → Judged v.length v.distance (v.rows ++ x ∷ []) (book_with (naming o) x v).0
        named None k = k
        named (Some y) k = (y, k, refl)

        go : (a : Bool) → fair period deadline ≡ a → (b c : Bool)
            → Judged v.length v.distance (v.rows ++ x ∷ [])
            (book_with
            (or_else (when (not a) Terms)
            (or_else (when b Numbers) (or_else (when c TableFull) (naming (first_late v.length v.distance (v.rows ++ x ∷ []))))))
            x v).0
        go false e b c = tt
        go true e true c = tt
        go true e false true = tt
        go true e false false = named _ (admission v.length v.distance (v.rows ++ x ∷ []) (short e))

    pub book_judged : (r : Result ℕ Refusal) (w : View) → (r, w) ≡ book priority period deadline v → JudgedIn v priority period deadline r
    book_judged r w e = subst (JudgedIn v priority period deadline) (sym (ap (λ p. p.0) e)) judged

    pub trial_judged : (r : Result ℕ Refusal) (w : View) → (r, w) ≡ trial priority period deadline v → JudgedIn v priority period deadline r
    trial_judged r w e = subst (JudgedIn v priority period deadline) (sym (ap (λ p. p.0) e ∙ (trial_same priority period deadline v).0)) judged
