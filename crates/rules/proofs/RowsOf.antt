-- The row of a number, over the changes of the table.
use Rattle.std.proofs.Common.{◌≡◌, ℕ, Bool, true, false, cond, eqb, ◌⊎◌, List, [], ◌∷◌, ◌++◌, map, Some, None, filter, Option, sym, refl, ap, ◌∙◌, subst, inl, inr, arith}
use mathlib.Core.Bool.{false≢true}
use Rattle.std.proofs.lemmas.Bool.{both_ways, eqb-false, cases_Bool}
use Rattle.rules.specs.declared.phase.Phase.{Phase}
use Rattle.rules.specs.declared.phase.Phase.TheVariants.{Booked, Ready, Waiting, Leaving, LeavingWaiting}
use Rattle.rules.specs.declared.row.Row.{Row}
use Rattle.rules.specs.Lists.{◌∈◌}
use Rattle.rules.specs.Phases.{is_waiting, since}
use Rattle.rules.specs.Rows.{row_of, has_number}
use Rattle.rules.proofs.Sums.{from_keep}
use Rattle.rules.proofs.Steps.{row_of_is}

pub some_row : (x y : Row) → ◌≡◌ {A = Option Row} (Some x) (Some y) → x ≡ y
some_row x y e = cc

pub none_some : (x : Row) → ◌≡◌ {A = Option Row} None (Some x) → ⊥
none_some x e = let z : ◌≡◌ {A = ℕ} 0 1 = cc in omega arith

-- where there is no row of the number, no row has it
pub row_none : (n : ℕ) (t : List Row) → row_of n t ≡ None → (h : Row) → h ∈ t → h.number ≡ n → ⊥
row_none n [] e h m k = m
row_none n (x ∷ t) e h m k = go (λ f. row_none n t f h) (has_number n x) refl e m
  where
    go : (row_of n t ≡ None → h ∈ t → h.number ≡ n → ⊥) → (b : Bool) → has_number n x ≡ b → cond b (Some x) (row_of n t) ≡ None → (h ≡ x) ⊎ (h ∈ t) → ⊥
    go old true b f i = none_some x (sym f)
    go old false b f (inl p) = eqb-false x.number n b (ap (λ (z : Row). z.number) (sym p) ∙ k)
    go old false b f (inr i) = old f i k

abbrev pub Unique : List Row → Type 0
Unique t = (h k : Row) → h ∈ t → k ∈ t → h.number ≡ k.number → h ≡ k

-- a row that stands in the table is the row of its number
pub row_found : (n : ℕ) (t : List Row) → Unique t → (h : Row) → h ∈ t → h.number ≡ n → row_of n t ≡ Some h
row_found n t unique h m e = go (row_of n t) refl
  where
    go : (o : Option Row) → row_of n t ≡ o → o ≡ Some h
    go None f = absurd (row_none n t f h m e)
    go (Some q) f = let o = row_of_is n t q f in ap Some (unique q h o.0 m (o.1 ∙ sym e))

abbrev pub changed : (Row → Row) → Option Row → Option Row
changed u None = None
changed u (Some q) = Some (u q)

pub row_map : (n : ℕ) (u : Row → Row) (t : List Row) → ((h : Row) → (u h).number ≡ h.number) → row_of n (map u t) ≡ changed u (row_of n t)
row_map n u [] k = refl
row_map n u (h ∷ t) k =
    subst (λ (a : Bool). cond a (Some (u h)) (row_of n (map u t)) ≡ changed u (cond (has_number n h) (Some h) (row_of n t)))
    (ap (λ z. eqb z n) (sym (k h))) (go (has_number n h) (row_map n u t k))
  where
    go : (b : Bool) → row_of n (map u t) ≡ changed u (row_of n t) → cond b (Some (u h)) (row_of n (map u t)) ≡ changed u (cond b (Some h) (row_of n t))
    go true e = refl
    go false e = e

pub row_end : (n : ℕ) (t : List Row) (x : Row) → has_number n x ≡ false → row_of n (t ++ (x ∷ [])) ≡ row_of n t
row_end n [] x e = rw e
row_end n (h ∷ t) x e = go (has_number n h) (row_end n t x e)
  where
    go : (b : Bool) → row_of n (t ++ (x ∷ [])) ≡ row_of n t → cond b (Some h) (row_of n (t ++ (x ∷ []))) ≡ cond b (Some h) (row_of n t)
    go true k = refl
    go false k = k

in_keep : (p : Row → Bool) (t : List Row) (q : Row) → q ∈ t → p q ≡ true → q ∈ filter p t
in_keep p [] q m e = elim m [ ]
in_keep p (x ∷ t) q m e = go (λ i. in_keep p t q i e) (p x) refl m
  where
    go : (q ∈ t → q ∈ filter p t) → (b : Bool) → p x ≡ b → (q ≡ x) ⊎ (q ∈ t) → q ∈ cond b (x ∷ filter p t) (filter p t)
    go old true k (inl i) = inl i
    go old true k (inr i) = inr (old i)
    go old false k (inl i) = absurd (both_ways (p x) k (ap p (sym i) ∙ e))
    go old false k (inr i) = old i

-- The round that waits

abbrev pub waiting_since : Phase → List ℕ
waiting_since Booked = []
waiting_since Ready = []
waiting_since (Waiting r) = r ∷ []
waiting_since Leaving = []
waiting_since (LeavingWaiting r) = r ∷ []

abbrev pub pend : Option Row → List ℕ
pend None = []
pend (Some q) = waiting_since q.phase

pub waiting_none : (p : Phase) → is_waiting p ≡ false → waiting_since p ≡ []
waiting_none Booked e = refl
waiting_none Ready e = refl
waiting_none (Waiting r) e = absurd (false≢true (sym e))
waiting_none Leaving e = refl
waiting_none (LeavingWaiting r) e = absurd (false≢true (sym e))

pub waiting_one : (p : Phase) → is_waiting p ≡ true → waiting_since p ≡ since p ∷ []
waiting_one Booked e = absurd (false≢true e)
waiting_one Ready e = absurd (false≢true e)
waiting_one (Waiting r) e = refl
waiting_one Leaving e = absurd (false≢true e)
waiting_one (LeavingWaiting r) e = refl

-- what stands there waits
pub waiting_in : (p : Phase) (r : ℕ) → r ∈ waiting_since p → (is_waiting p ≡ true) × (r ≡ since p)
waiting_in Booked r m = elim m [ ]
waiting_in Ready r m = elim m [ ]
waiting_in (Waiting s) r (inl e) = (refl, e)
waiting_in (Waiting s) r (inr m) = elim m [ ]
waiting_in Leaving r m = elim m [ ]
waiting_in (LeavingWaiting s) r (inl e) = (refl, e)
waiting_in (LeavingWaiting s) r (inr m) = elim m [ ]

-- the row of n is the same as far as its history goes
pub record Alike (new old : Row) : Type 0 where
  pub period : new.period ≡ old.period
  pub deadline : new.deadline ≡ old.deadline
  pub earliest : new.earliest ≡ old.earliest

pub record RowKept (n : ℕ) (t t' : List Row) : Type 0 where
  pub same_pend : pend (row_of n t') ≡ pend (row_of n t)
  pub back : (q' : Row) → row_of n t' ≡ Some q' → (q : Row) × (row_of n t ≡ Some q) × Alike q' q

pub kept_same : (n : ℕ) (t : List Row) → RowKept n t t
kept_same n t = record { same_pend = refl; back = λ q e. (q, e, record { period = refl; deadline = refl; earliest = refl }) }

pub kept_none : (n : ℕ) (t t' : List Row) → RowKept n t t' → row_of n t ≡ None → row_of n t' ≡ None
kept_none n t t' k e = go (row_of n t') refl
  where
    go : (o : Option Row) → row_of n t' ≡ o → o ≡ None
    go None f = refl
    go (Some q) f = let b = k.back q f in absurd (none_some b.0 (sym e ∙ b.1))

-- a change of rows that leaves the terms, and of the row of n the release and what waits
pub kept_map : (n : ℕ) (u : Row → Row) (t : List Row) → ((h : Row) → (u h).number ≡ h.number) →
    ((q : Row) → row_of n t ≡ Some q → Alike (u q) q × (waiting_since (u q).phase ≡ waiting_since q.phase)) → RowKept n t (map u t)
kept_map n u t k alike = go (row_of n t) refl
  where
    go : (o : Option Row) → row_of n t ≡ o → RowKept n t (map u t)
    go None e =
        record {
          same_pend = rw (row_map n u t k, e);
          back = λ q f. absurd (none_some q (ap (changed u) (sym e) ∙ sym (row_map n u t k) ∙ f));
        }
    go (Some q) e =
        record {
          same_pend = rw (row_map n u t k, e) (alike q e).1;
          back = λ q' f.
              let same : u q ≡ q' = some_row (u q) q' (ap (changed u) (sym e) ∙ sym (row_map n u t k) ∙ f) in
              (q, e, subst (λ (z : Row). Alike z q) same (alike q e).0);
        }

-- rows go, of which none has a round that waits
pub kept_keep : (n : ℕ) (p : Row → Bool) (t : List Row) → Unique t →
    ((q : Row) → row_of n t ≡ Some q → p q ≡ false → waiting_since q.phase ≡ []) → RowKept n t (filter p t)
kept_keep n p t unique quiet = go (row_of n (filter p t)) refl (row_of n t) refl
  where
    found : (q : Row) → row_of n (filter p t) ≡ Some q → row_of n t ≡ Some q
    found q e =
        let o = row_of_is n (filter p t) q e in
        row_found n t unique q (from_keep p t q o.0) o.1

    go : (o : Option Row) → row_of n (filter p t) ≡ o → (o' : Option Row) → row_of n t ≡ o' → RowKept n t (filter p t)
    go (Some q) e o' e' =
        record {
          same_pend = ap pend (e ∙ sym (found q e));
          back = λ q' f. (q', found q' f, record { period = refl; deadline = refl; earliest = refl });
        }
    go None e None e' = record { same_pend = ap pend (e ∙ sym e'); back = λ q' f. absurd (none_some q' (sym e ∙ f)) }
    go None e (Some q) e' =
        record {
          same_pend = ap pend e ∙ sym (ap pend e' ∙ gone (cases_Bool (p q)));
          back = λ q' f. absurd (none_some q' (sym e ∙ f));
        }
      where
        gone : (p q ≡ true) ⊎ (p q ≡ false) → waiting_since q.phase ≡ []
        gone (inl b) = let o = row_of_is n t q e' in absurd (row_none n (filter p t) e q (in_keep p t q o.0 b) o.1)
        gone (inr b) = quiet q e' b
