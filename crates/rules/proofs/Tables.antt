-- The calls on the table keep it: Confirm, Close, Book and Withdraw.
use Rattle.std.proofs.Common.{◌≡◌, ℕ, ◌+◌, ◌-◌, ◌/◌, ◌≤◌, Bool, true, false, cond, ◌⊎◌, List, [], ◌∷◌, ◌++◌, map, None, filter, sym, refl, ap, ◌∙◌, subst, inl, inr, zero-le, mul-le-mul_left, arith}
use mathlib.Core.Bool.{false≢true}
use Rattle.rules.specs.declared.row.Row.{Row}
use Rattle.rules.specs.declared.phase.Phase.{Phase}
use Rattle.rules.specs.declared.phase.Phase.TheVariants.{Booked, Ready, Waiting, Leaving, LeavingWaiting}
use Rattle.rules.specs.Lists.{◌∈◌, total}
use Rattle.rules.specs.Phases.{is_booked, is_waiting, since, closed}
use Rattle.rules.specs.Rows.{before, waits, at_phase}
use Rattle.rules.specs.Waits.{against, rounds, first_late}
use Rattle.rules.proofs.Sums.{from_map, from_end, from_keep, total_end, total-keep, total_kept}
use Rattle.rules.proofs.Ranks.{upto}
use Rattle.rules.proofs.Waiting.{keeps_less, none_late}
use Rattle.rules.proofs.Invariant.{begun, claims, Sound, Held, Table, held_grow, idle_none, Plain, map_unique, map_below, map_admitted}

-- a change of phase that leaves what waits, and makes no confirmed row unconfirmed
pub record Quiet (new old : Phase) : Type 0 where
  pub same_wait : is_waiting new ≡ is_waiting old
  pub same_since : since new ≡ since old
  pub stays : is_booked new ≡ true → is_booked old ≡ true

-- at the rows that a test picks only
pub some_quiet : (b : Bool) (new old : Phase) → (b ≡ true → Quiet new old) → Quiet (cond b new old) old
some_quiet true new old k = k refl
some_quiet false new old k = record { same_wait = refl; same_since = refl; stays = λ e. e }

pub confirm_quiet : (p : Phase) → is_booked p ≡ true → Quiet Ready p
confirm_quiet Booked e = record { same_wait = refl; same_since = refl; stays = λ f. refl }
confirm_quiet Ready e = absurd (false≢true e)
confirm_quiet (Waiting r) e = absurd (false≢true e)
confirm_quiet Leaving e = absurd (false≢true e)
confirm_quiet (LeavingWaiting r) e = absurd (false≢true e)

pub close_quiet : (p : Phase) → Quiet (closed p) p
close_quiet Booked = record { same_wait = refl; same_since = refl; stays = λ e. e }
close_quiet Ready = record { same_wait = refl; same_since = refl; stays = λ e. e }
close_quiet (Waiting r) = record { same_wait = refl; same_since = refl; stays = λ e. e }
close_quiet Leaving = record { same_wait = refl; same_since = refl; stays = λ e. e }
close_quiet (LeavingWaiting r) = record { same_wait = refl; same_since = refl; stays = λ e. e }

-- the row after such a change
abbrev pub moved : (Row → Phase) → Row → Row
moved f h = at_phase h (f h)

moved_plain : (f : Row → Phase) → Plain (moved f)
moved_plain f = record { number = λ h. refl; period = λ h. refl; deadline = λ h. refl; rank = λ h q. refl }

module _ (f : Row → Phase) (t : List Row) (quiet : (h : Row) → h ∈ t → Quiet (f h) h.phase) where
  moved_sound : (s : ℕ) (h : Row) → h ∈ t → Sound s h → Sound s (moved f h)
  moved_sound s h m k =
      record {
        turns = k.turns;
        small = k.small;
        short = k.short;
        idle = λ e. k.idle ((quiet h m).stays e);
        reach = k.reach;
        waited = λ w. rw (quiet h m).same_since (k.waited (sym (quiet h m).same_wait ∙ w));
      }

  moved_claims : (v : ℕ) (h : Row) → h ∈ t → claims v h ≤ claims v (moved f h)
  moved_claims v h m = go (is_booked h.phase) (is_booked (f h)) (quiet h m).stays
    where
      go : (a b : Bool) → (b ≡ true → a ≡ true) → cond a 0 (rounds v h) ≤ cond b 0 (rounds v h)
      go true b k = zero-le
      go false true k = absurd (false≢true (k refl))
      go false false k = omega arith

  moved_holds : (d s n : ℕ) (q : Row) → q ∈ t → Held d s n t q → Held d s n (map (moved f) t) (moved f q)
  moved_holds d s n q i old =
      held_grow d s n t (moved f) q (moved f q) old (λ h b. b)
      (λ h m w up.
      let o = from_map (moved f) t h m in
      let w' : waits o.0 ≡ true = sym (quiet o.0 o.1).same_wait ∙ subst (λ z. waits z ≡ true) o.2 w in
      let r = old.early o.0 o.1 w' (subst (λ z. upto z q) o.2 up) in
      subst (λ z. old.from ≤ since z.phase) (sym o.2) (rw (quiet o.0 o.1).same_since r))
      (λ h m. rw (quiet h m).same_wait (omega arith))
      moved_claims

  pub table_moved : (L d s n next : ℕ) → Table L d s n next t → Table L d s n next (map (moved f) t)
  table_moved L d s n next k =
      record {
        sound = λ h m.
            let o = from_map (moved f) t h m in
            subst (Sound s) (sym o.2) (moved_sound s o.0 o.1 (k.sound o.0 o.1));
        held = λ q m w.
            let o = from_map (moved f) t q m in
            let w' : waits o.0 ≡ true = sym (quiet o.0 o.1).same_wait ∙ subst (λ z. waits z ≡ true) o.2 w in
            subst (λ z. Held d s n (map (moved f) t) z) (sym o.2) (moved_holds d s n o.0 o.1 (k.held o.0 o.1 w'));
        unique = map_unique (moved f) (moved_plain f) t k.unique;
        below = map_below (moved f) (moved_plain f) t next k.below;
        admitted = map_admitted (moved f) (moved_plain f) t L d k.admitted;
      }

-- rows that come or go, and weigh nothing
held_table : (d s n : ℕ) (t t' : List Row) (q : Row) (old : Held d s n t q) →
    ((h : Row) → h ∈ t' → waits h ≡ true → h ∈ t) →
    total (against q (begun old.from)) t ≤ total (against q (begun old.from)) t' →
    ((v : ℕ) → total (against q (claims v)) t ≤ total (against q (claims v)) t') → Held d s n t' q
held_table d s n t t' q old inside grown claimed =
    record {
      from = old.from;
      early = λ h m w up. old.early h (inside h m w) w up;
      busy = old.busy;
      served = let l = mul-le-mul_left d grown in let k = old.served in omega arith;
      bound = λ v p. let l = mul-le-mul_left d (claimed v) in old.bound v (omega arith);
    }

-- a booked row comes: every row keeps its deadline with it
pub table_booked : (L d s n next : ℕ) (t : List Row) (x : Row) → Table L d s n next t → x.number ≡ next → waits x ≡ false → Sound s x →
    first_late L d (t ++ (x ∷ [])) ≡ None → Table L d s n (next + 1) (t ++ (x ∷ []))
table_booked L d s n next t x k named idle fine admits =
    record {
      sound = λ h m. elim (from_end t x h m) [ inl i ↦ k.sound h i | inr p ↦ subst (Sound s) (sym p) fine ];
      held = λ q m w.
          let i = inside q m w in
          let old = k.held q i w in
          held_table d s n t (t ++ (x ∷ [])) q old inside (total_end _ t x) (λ v. total_end _ t x);
      unique = λ h j m i e. alone h j (from_end t x h m) (from_end t x j i) e;
      below = λ h m. elim (from_end t x h m) [ inl i ↦ let l = k.below h i in omega arith | inr p ↦ let e : h.number ≡ x.number = ap (λ (z : Row). z.number) p in omega arith ];
      admitted = λ q m. none_late L d (t ++ (x ∷ [])) admits q m;
    }
  where
    inside : (h : Row) → h ∈ (t ++ (x ∷ [])) → waits h ≡ true → h ∈ t
    inside h m w =
        elim (from_end t x h m)
        [ inl i ↦ i | inr p ↦ absurd (false≢true (sym idle ∙ subst (λ z. waits z ≡ true) p w)) ]

    other : (h : Row) → h ∈ t → h.number ≡ x.number → ⊥
    other h m e = let l = k.below h m in omega arith

    alone : (h j : Row) → (h ∈ t) ⊎ (h ≡ x) → (j ∈ t) ⊎ (j ≡ x) → h.number ≡ j.number → h ≡ j
    alone h j (inl m) (inl i) e = k.unique h j m i e
    alone h j (inl m) (inr p) e = absurd (other h m (e ∙ ap (λ (z : Row). z.number) p))
    alone h j (inr p) (inl i) e = absurd (other j i (sym e ∙ ap (λ (z : Row). z.number) p))
    alone h j (inr p) (inr q) e = p ∙ sym q

-- booked rows go
against_none : (q h : Row) (f : Row → ℕ) → f h ≡ 0 → against q f h ≡ 0
against_none q h f z = go (before h q)
  where
    go : (b : Bool) → cond b (f h) 0 ≡ 0
    go true = z
    go false = refl

begun_none : (s b : ℕ) (h : Row) → Sound s h → is_booked h.phase ≡ true → begun b h ≡ 0
begun_none s b h k e = go (waits h)
  where
    go : (w : Bool) → cond w ((h.earliest - b) / h.period - 1) ((h.earliest - b) / h.period) ≡ 0
    go true = let z = idle_none s b h k e in omega arith
    go false = idle_none s b h k e

claims_none : (v : ℕ) (h : Row) → is_booked h.phase ≡ true → claims v h ≡ 0
claims_none v h e = rw e

pub table_withdrawn : (L d s n next : ℕ) (t : List Row) (p : Row → Bool) → Table L d s n next t →
    ((h : Row) → h ∈ t → p h ≡ false → is_booked h.phase ≡ true) → Table L d s n next (filter p t)
table_withdrawn L d s n next t p k booked =
    record {
      sound = λ h m. k.sound h (from_keep p t h m);
      held = λ q m w.
          let old = k.held q (from_keep p t q m) w in
          held_table d s n t (filter p t) q old (λ h i _. from_keep p t h i)
          (total-keep _ p t (λ h i g. against_none q h (begun old.from) (begun_none s old.from h (k.sound h i) (booked h i g))))
          (λ v. total-keep _ p t (λ h i g. against_none q h (claims v) (claims_none v h (booked h i g))));
      unique = λ h j m i e. k.unique h j (from_keep p t h m) (from_keep p t j i) e;
      below = λ h m. k.below h (from_keep p t h m);
      admitted = λ q m. keeps_less L d t (filter p t) q q (λ w. total_kept (against q (rounds w)) p t) refl (k.admitted q (from_keep p t q m));
    }
