-- The longest wait: it exists where the demand meets any number at all, and it is what the search finds.
use Rattle.std.proofs.Common.{◌≡◌, ℕ, zero, suc, ◌+◌, ◌/◌, ◌<◌, ◌≤◌, Bool, true, false, cond, not, eqb, leb, ◌⊎◌, List, Some, None, Option, sym, refl, ap, ◌∙◌, subst, inl, inr, zero-le, le_trans, le_of_eq, le_antisymm, mul-le-mul_left, arith}
use native.Mathlib.Nat.{div-zero}
use mathlib.Core.Bool.{false≢true}
use Rattle.std.proofs.lemmas.Bool.{both_ways, leb-true, le-leb, eqb-true, eq-eqb, eqb-false, cases_Bool}
use Rattle.routing.specs.Search.{first_below, or_else}
use Rattle.routing.proofs.Searches.{first_none}
use Rattle.rules.specs.declared.row.Row.{Row}
use Rattle.rules.specs.Lists.{◌∈◌}
use Rattle.rules.specs.Rows.{before}
use Rattle.rules.specs.Waits.{against, rounds, load, demand, IsWait, wait_of, ends_by, keeps, first_late}
use Rattle.rules.proofs.Sums.{total_mono}
use Rattle.rules.proofs.Counts.{div_mono}
use Rattle.rules.proofs.Ranks.{Leads, first_leads}

-- a part counts against q at most what another counts against y
pub against_mono : (q y h x : Row) (f g : Row → ℕ) →
    (before h q ≡ true → before x y ≡ true) → f h ≤ g x → against q f h ≤ against y g x
against_mono q y h x f g k l = go (before h q) (before x y) k
  where
    go : (a b : Bool) → (a ≡ true → b ≡ true) → cond a (f h) 0 ≤ cond b (g x) 0
    go true true k = l
    go true false k = absurd (false≢true (k refl))
    go false b k = zero-le

-- The least number that passes a test

record Least (p : ℕ → Bool) (w : ℕ) : Type 0 where
  passes : p w ≡ true
  least : (x : ℕ) → p x ≡ true → w ≤ x

search_below : (p : ℕ → Bool) (n : ℕ) → ((w : ℕ) × Least p w) ⊎ ((x : ℕ) → p x ≡ true → n ≤ x)
search_below p zero = inr (λ x e. zero-le)
search_below p (suc n) = go (search_below p n) (p n) refl
  where
    go : ((w : ℕ) × Least p w) ⊎ ((x : ℕ) → p x ≡ true → n ≤ x) → (b : Bool) → p n ≡ b →
        ((w : ℕ) × Least p w) ⊎ ((x : ℕ) → p x ≡ true → suc n ≤ x)
    go (inl found) b e = inl found
    go (inr above) true e = inl (n, record { passes = e; least = above })
    go (inr above) false e = inr (λ x h. next x h (above x h))
      where
        next : (x : ℕ) → p x ≡ true → n ≤ x → suc n ≤ x
        next x h l = let other : x ≡ n → ⊥ = λ q. both_ways (p n) e (subst (λ z. p z ≡ true) q h) in omega arith

least_of : (p : ℕ → Bool) (v : ℕ) → p v ≡ true → (w : ℕ) × Least p w
least_of p v e = go (search_below p (suc v))
  where
    go : ((w : ℕ) × Least p w) ⊎ ((x : ℕ) → p x ≡ true → suc v ≤ x) → (w : ℕ) × Least p w
    go (inl found) = found
    go (inr above) = let l = above v e in absurd (omega arith)

-- Demand

div_up : (p a b : ℕ) → a ≤ b → a / p ≤ b / p
div_up zero a b l = simp div-zero zero-le
div_up (suc p) a b l = div_mono a b (suc p) (omega arith) l

pub demand_mono : (d : ℕ) (t : List Row) (q : Row) (a b : ℕ) → a ≤ b → demand d t q a ≤ demand d t q b
demand_mono d t q a b l =
    let m = total_mono (against q (rounds a)) (against q (rounds b)) t
    (λ h _. against_mono q q h h (rounds a) (rounds b) (λ e. e) (let k = div_up h.period a b l in omega arith)) in
    let k = mul-le-mul_left d m in
    omega arith

-- where some number meets the demand, there is a longest wait, and it is at most that number
pub wait_exists : (d : ℕ) (t : List Row) (q : Row) (v : ℕ) → demand d t q v ≤ v → (w : ℕ) × IsWait d t q w × (w ≤ v)
wait_exists d t q v p =
    let found = least_of (λ w. leb (demand d t q w) w) v (le-leb (demand d t q v) v p) in
    let w = found.0 in
    let down = leb-true (demand d t q w) w found.1.passes in
    let again = demand_mono d t q (demand d t q w) w down in
    let up = found.1.least (demand d t q w) (le-leb (demand d t q (demand d t q w)) (demand d t q w) again) in (
      w,
      record { solves = le_antisymm down up; least = λ x e. found.1.least x (le-leb (demand d t q x) x (le_of_eq e)) },
      found.1.least v (le-leb (demand d t q v) v p),
    )

-- the longest wait is below every number that meets the demand
pub wait_below : (d : ℕ) (t : List Row) (q : Row) (w v : ℕ) → IsWait d t q w → demand d t q v ≤ v → w ≤ v
wait_below d t q w v k p = let o = wait_exists d t q v p in le_trans (k.least o.0 o.1.solves) o.2

pub wait_unique : (d : ℕ) (t : List Row) (q : Row) (w v : ℕ) → IsWait d t q w → IsWait d t q v → w ≡ v
wait_unique d t q w v k j = le_antisymm (k.least v j.solves) (j.least w k.solves)

-- the climb from 0 to the longest wait: a turn, and its two ends
module _ (d : ℕ) (t : List Row) (q : Row) (w n : ℕ) (next : n ≡ demand d t q w) (below : (x : ℕ) → demand d t q x ≤ x → w ≤ x) where
  pub climbs : w ≤ n → n ≤ demand d t q n
  climbs l = le_trans (le_of_eq next) (demand_mono d t q w n l)

  pub stays_below : (x : ℕ) → demand d t q x ≤ x → n ≤ x
  stays_below x p = le_trans (le_of_eq next) (le_trans (demand_mono d t q w x (below x p)) p)

  pub arrives : n ≡ w → IsWait d t q w
  arrives e = record { solves = sym next ∙ e; least = λ x p. below x (le_of_eq p) }

-- What the search finds

-- the first number below n that passes
pub record FirstFound (test : ℕ → Bool) (n k : ℕ) : Type 0 where
  pub below : k < n
  pub passes : test k ≡ true
  pub first : (x : ℕ) → test x ≡ true → k ≤ x

some_same : (a b : ℕ) → ◌≡◌ {A = Option ℕ} (Some a) (Some b) → a ≡ b
some_same a b e = cc

not_some : (a : ℕ) → ◌≡◌ {A = Option ℕ} None (Some a) → ⊥
not_some a e = let z : ◌≡◌ {A = ℕ} 0 1 = cc in omega arith

pub first_found : (test : ℕ → Bool) (n k : ℕ) → first_below test n ≡ Some k → FirstFound test n k
unfolding first_below
first_found test zero k e = absurd (not_some k e)
first_found test (suc n) k e = go (λ x f. first_found test n x f) (first_below test n) refl (test n) refl e
  where
    go : ((x : ℕ) → first_below test n ≡ Some x → FirstFound test n x) → (o : Option ℕ) → first_below test n ≡ o →
        (b : Bool) → test n ≡ b → or_else o (cond b (Some n) None) ≡ Some k → FirstFound test (suc n) k
    go old None eo false eb f = absurd (not_some k f)
    go old None eo true eb f =
        let e : n ≡ k = some_same n k f in
        record {
          below = omega arith;
          passes = ap test (sym e) ∙ eb;
          first = λ x p. after x p;
        }
      where
        after : (x : ℕ) → test x ≡ true → k ≤ x
        after x p =
            let e : n ≡ k = some_same n k f in
            let no : x < n → ⊥ = λ l. both_ways (test x) (first_none test n x eo l) p in
            omega arith
    go old (Some x) eo b eb f =
        let o = old k (eo ∙ f) in
        record { below = let l = o.below in omega arith; passes = o.passes; first = o.first }

-- what the search finds is the longest wait
pub wait_found : (d : ℕ) (t : List Row) (q : Row) (w : ℕ) → wait_of d t q ≡ Some w → IsWait d t q w
wait_found d t q w e =
    let o = first_found (λ x. eqb (demand d t q x) x) 60001 w e in
    record {
      solves = eqb-true (demand d t q w) w o.passes;
      least = λ x p. o.first x (eq-eqb (demand d t q x) x p);
    }

-- and where it finds nothing, none is up to 60,000
pub wait_missing : (d : ℕ) (t : List Row) (q : Row) → wait_of d t q ≡ None → (w : ℕ) → IsWait d t q w → 60000 < w
wait_missing d t q e w k = go (cases_Bool (eqb (demand d t q w) w))
  where
    go : (eqb (demand d t q w) w ≡ true) ⊎ (eqb (demand d t q w) w ≡ false) → 60000 < w
    go (inr off) = absurd (eqb-false (demand d t q w) w off k.solves)
    go (inl on) =
        let out : w < 60001 → ⊥ = λ l. both_ways (eqb (demand d t q w) w) (first_none (λ x. eqb (demand d t q x) x) 60001 w e l) on in
        omega arith

-- a longest wait up to 60,000 is found
pub wait_is : (d : ℕ) (t : List Row) (q : Row) (w : ℕ) → IsWait d t q w → w ≤ 60000 → wait_of d t q ≡ Some w
wait_is d t q w k l = go (wait_of d t q) refl
  where
    go : (o : Option ℕ) → wait_of d t q ≡ o → o ≡ Some w
    go None e = let m = wait_missing d t q e w k in absurd (omega arith)
    go (Some x) e = ap Some (wait_unique d t q x w (wait_found d t q x e) k)

-- Keeping a deadline

-- some number meets the demand, and leaves time for a round
pub record Keeps (L d : ℕ) (t : List Row) (q : Row) : Type 0 where
  pub bound : ℕ
  pub meets : demand d t q bound ≤ bound
  pub ends : bound + L ≤ q.deadline

pub keeps_true : (L d : ℕ) (t : List Row) (q : Row) → keeps L d t q ≡ true → Keeps L d t q
keeps_true L d t q e = go (wait_of d t q) refl e
  where
    go : (o : Option ℕ) → wait_of d t q ≡ o → ends_by o L q.deadline ≡ true → Keeps L d t q
    go None f k = absurd (false≢true k)
    go (Some w) f k =
        record { bound = w; meets = le_of_eq (wait_found d t q w f).solves; ends = leb-true (w + L) q.deadline k }

pub keeps_from : (L d : ℕ) (t : List Row) (q : Row) → q.deadline ≤ 60000 → Keeps L d t q → keeps L d t q ≡ true
keeps_from L d t q small k =
    let o = wait_exists d t q k.bound k.meets in
    let e = k.ends in
    let m = o.2 in
    let f = wait_is d t q o.0 o.1 (omega arith) in
    rw f (le-leb (o.0 + L) q.deadline (omega arith))

-- exactly where there is a longest wait W with W + L ≤ D
pub keeps_wait : (L d : ℕ) (t : List Row) (q : Row) → keeps L d t q ≡ true → (w : ℕ) × IsWait d t q w × (w + L ≤ q.deadline)
keeps_wait L d t q e =
    let k = keeps_true L d t q e in
    let o = wait_exists d t q k.bound k.meets in
    let l = k.ends in
    let m = o.2 in
    (o.0, o.1, omega arith)

pub wait_keeps : (L d : ℕ) (t : List Row) (q : Row) (w : ℕ) → q.deadline ≤ 60000 → IsWait d t q w → w + L ≤ q.deadline → keeps L d t q ≡ true
wait_keeps L d t q w small k l = keeps_from L d t q small (record { bound = w; meets = le_of_eq k.solves; ends = l })

-- where the table names no row, every row keeps its deadline
pub none_late : (L d : ℕ) (t : List Row) → first_late L d t ≡ None → (q : Row) → q ∈ t → Keeps L d t q
none_late L d t e q m =
    let k : Leads (λ x. not (keeps L d t x)) t None = subst (Leads (λ x. not (keeps L d t x)) t) e (first_leads (λ x. not (keeps L d t x)) t) in
    keeps_true L d t q (go (keeps L d t q) (k q m))
  where
    go : (b : Bool) → (not b ≡ true → ⊥) → b ≡ true
    go true f = refl
    go false f = absurd (f refl)

-- less demand keeps the deadline
pub keeps_less : (L d : ℕ) (t t' : List Row) (q q' : Row) → ((w : ℕ) → load t' q' w ≤ load t q w) → q'.deadline ≡ q.deadline → Keeps L d t q → Keeps L d t' q'
keeps_less L d t t' q q' less same k =
    record {
      bound = k.bound;
      meets = let l = mul-le-mul_left d (less k.bound) in let m = k.meets in omega arith;
      ends = let e = k.ends in omega arith;
    }
