-- The order of rows by rank, and the row that ranks first among those that pass a test.
use Rattle.std.proofs.Common.{◌≡◌, Bool, true, false, cond, ◌&&◌, ◌⊎◌, List, [], ◌∷◌, Some, None, Option, sym, refl, subst, inl, inr, arith}
use Rattle.std.proofs.lemmas.Bool.Decides.{nat_tests}
use Rattle.std.proofs.lemmas.Bool.{both_ways, and_parts}
use Rattle.rules.specs.declared.row.Row.{Row}
use Rattle.rules.specs.Lists.{◌∈◌}
use Rattle.rules.specs.Rows.{before, has_number, waits, better, first_in_rank}

-- h ranks before q or level with it
abbrev pub upto : Row → Row → Type 0
upto h q = before q h ≡ false

pub upto_self : (q : Row) → upto q q
upto_self q = grind (arith, nat_tests)

pub before_upto : (h y q : Row) → before h y ≡ true → upto y q → before h q ≡ true
before_upto h y q a b = grind (arith, nat_tests)

pub upto_trans : (h y q : Row) → upto h y → upto y q → upto h q
upto_trans h y q a b = grind (arith, nat_tests)

pub before_is_upto : (h q : Row) → before h q ≡ true → upto h q
before_is_upto h q a = grind (arith, nat_tests)

-- of two rows with other numbers one ranks before the other
pub before_other : (y q : Row) → upto y q → has_number y.number q ≡ false → before y q ≡ true
before_other y q a b = grind (arith, nat_tests)

-- The row that ranks first, by what it is

-- y passes the test, stands in the table, and ranks first among the rows that pass
pub record First (test : Row → Bool) (t : List Row) (y : Row) : Type 0 where
  pub inside : y ∈ t
  pub passes : test y ≡ true
  pub leads : (h : Row) → h ∈ t → test h ≡ true → upto y h

-- the row that ranks first, or that none passes
abbrev pub Leads : (Row → Bool) → List Row → Option Row → Type 0
Leads test t None = (h : Row) → h ∈ t → test h ≡ true → ⊥
Leads test t (Some y) = First test t y

module _ (test : Row → Bool) where
  pub leads_more : (x : Row) (t : List Row) (o : Option Row) → Leads test t o → Leads test (x ∷ t) (better test x o)
  leads_more x t None k = go (test x) refl
    where
      go : (b : Bool) → test x ≡ b → Leads test (x ∷ t) (cond b (Some x) None)
      go true e =
          record {
            inside = inl refl;
            passes = e;
            leads = λ h m w. elim m [ inl p ↦ subst (λ z. upto x z) (sym p) (upto_self x) | inr n ↦ absurd (k h n w) ];
          }
      go false e =
          λ h m w. elim m [ inl p ↦ both_ways (test x) e (subst (λ z. test z ≡ true) p w) | inr n ↦ k h n w ]
  leads_more x t (Some y) k = go (test x && before x y) refl
    where
      go : (b : Bool) → (test x && before x y) ≡ b → Leads test (x ∷ t) (cond b (Some x) (Some y))
      go true e =
          let both = and_parts (test x) (before x y) e in
          record {
            inside = inl refl;
            passes = both.0;
            leads = λ h m w. elim m [
              | inl p ↦ subst (λ z. upto x z) (sym p) (upto_self x)
              | inr n ↦ upto_trans x y h (before_is_upto x y both.1) (k.leads h n w)
            ];
          }
      go false e =
          record {
            inside = inr k.inside;
            passes = k.passes;
            leads = λ h m w. elim m [ inl p ↦ subst (λ z. upto y z) (sym p) (here (subst (λ z. test z ≡ true) p w)) | inr n ↦ k.leads h n w ];
          }
        where
          here : test x ≡ true → upto y x
          here w = grind arith

  pub first_leads : (t : List Row) → Leads test t (first_in_rank test t)
  first_leads [] = λ h m w. m
  first_leads (x ∷ t) = leads_more x t (first_in_rank test t) (first_leads t)

-- The row that ranks last among those that wait and rank up to q

pub record Last (t : List Row) (q y : Row) : Type 0 where
  pub inside : y ∈ t
  pub waits_now : waits y ≡ true
  pub up : upto y q
  pub latest : (h : Row) → h ∈ t → waits h ≡ true → upto h q → upto h y

abbrev pub NoneUpto : List Row → Row → Type 0
NoneUpto t q = (h : Row) → h ∈ t → waits h ≡ true → upto h q → ⊥

abbrev LastOf : List Row → Row → Type 0
LastOf t q = NoneUpto t q ⊎ ((y : Row) × Last t q y)

-- a row that does not count changes nothing
last_skip : (x : Row) (t : List Row) (q : Row) → (waits x ≡ true → upto x q → ⊥) → LastOf t q → LastOf (x ∷ t) q
last_skip x t q out (inl none_old) =
    inl (λ h m w u. elim m [ inl p ↦ out (subst (λ z. waits z ≡ true) p w) (subst (λ z. upto z q) p u) | inr n ↦ none_old h n w u ])
last_skip x t q out (inr (y, k)) =
    inr (
      y,
      record {
        inside = inr k.inside;
        waits_now = k.waits_now;
        up = k.up;
        latest = λ h m w u. elim m [ inl p ↦ absurd (out (subst (λ z. waits z ≡ true) p w) (subst (λ z. upto z q) p u)) | inr n ↦ k.latest h n w u ];
      },
    )

last_take : (x : Row) (t : List Row) (q : Row) → waits x ≡ true → upto x q → LastOf t q → LastOf (x ∷ t) q
last_take x t q ew eu (inl none_old) =
    inr (
      x,
      record {
        inside = inl refl;
        waits_now = ew;
        up = eu;
        latest = λ h m w u. elim m [ inl p ↦ subst (λ z. upto z x) (sym p) (upto_self x) | inr n ↦ absurd (none_old h n w u) ];
      },
    )
last_take x t q ew eu (inr (y, k)) = go (before y x) refl
  where
    go : (b : Bool) → before y x ≡ b → LastOf (x ∷ t) q
    go true e =
        inr (
          x,
          record {
            inside = inl refl;
            waits_now = ew;
            up = eu;
            latest = λ h m w u. elim m [
              | inl p ↦ subst (λ z. upto z x) (sym p) (upto_self x)
              | inr n ↦ upto_trans h y x (k.latest h n w u) (before_is_upto y x e)
            ];
          },
        )
    go false e =
        inr (
          y,
          record {
            inside = inr k.inside;
            waits_now = k.waits_now;
            up = k.up;
            latest = λ h m w u. elim m [ inl p ↦ subst (λ z. upto z y) (sym p) e | inr n ↦ k.latest h n w u ];
          },
        )

last_more : (x : Row) (t : List Row) (q : Row) → LastOf t q → LastOf (x ∷ t) q
last_more x t q old = go (waits x) refl (before q x) refl
  where
    go : (w : Bool) → waits x ≡ w → (b : Bool) → before q x ≡ b → LastOf (x ∷ t) q
    go true ew false eb = last_take x t q ew eb old
    go true ew true eb = last_skip x t q (λ w u. both_ways (before q x) u eb) old
    go false ew b eb = last_skip x t q (λ w u. both_ways (waits x) ew w) old

pub last_upto : (t : List Row) (q : Row) → NoneUpto t q ⊎ ((y : Row) × Last t q y)
last_upto [] q = inl (λ h m w u. m)
last_upto (x ∷ t) q = last_more x t q (last_upto t q)
