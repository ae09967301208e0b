-- A slot keeps the table.
use Rattle.std.proofs.Common.{◌≡◌, ℕ, ◌+◌, ◌-◌, ◌*◌, ◌<◌, ◌≤◌, max, Bool, true, false, cond, List, map, Some, None, filter, Option, sym, refl, ◌∙◌, subst, zero-le, mul-le-mul_left, arith}
use mathlib.Core.Bool.{false≢true}
use Rattle.std.proofs.lemmas.Bool.{leb-true, leb-false, eq-eqb}
use Rattle.rules.specs.declared.row.Row.{Row}
use Rattle.rules.specs.declared.phase.Phase.{Phase}
use Rattle.rules.specs.declared.phase.Phase.TheVariants.{Booked, Ready, Waiting, Leaving, LeavingWaiting}
use Rattle.rules.specs.Lists.{◌∈◌, total}
use Rattle.rules.specs.Phases.{is_booked, is_waiting, since, started}
use Rattle.rules.specs.Rows.{before, waits, has_number, start_row}
use Rattle.rules.specs.Waits.{against, rounds}
use Rattle.rules.specs.Rules.{may_start}
use Rattle.rules.proofs.Sums.{total_mono_map, total_more, total-map, total_kept, from_map, from_keep}
use Rattle.rules.proofs.Counts.{div_waits}
use Rattle.rules.proofs.Ranks.{upto, First, Leads, before_other, before_is_upto}
use Rattle.rules.proofs.Waiting.{against_mono, keeps_less}
use Rattle.rules.proofs.Invariant.{free, begun, claims, Sound, Held, Table, sound_later, next_bound, Plain, map_unique, map_below, map_admitted}

-- Phases

-- a row that waits after a start of number n is another row, and waited before
pub starts_other : (b : Bool) (p : Phase) → is_waiting (cond b (started p) p) ≡ true →
    (b ≡ false) × (is_waiting p ≡ true) × (since (cond b (started p) p) ≡ since p)
starts_other false p e = (refl, e, refl)
starts_other true Booked e = absurd (false≢true e)
starts_other true Ready e = absurd (false≢true e)
starts_other true (Waiting r) e = absurd (false≢true e)
starts_other true Leaving e = absurd (false≢true e)
starts_other true (LeavingWaiting r) e = absurd (false≢true e)

starts_booked : (b : Bool) (p : Phase) → is_booked (cond b (started p) p) ≡ is_booked p
starts_booked false p = refl
starts_booked true Booked = refl
starts_booked true Ready = refl
starts_booked true (Waiting r) = refl
starts_booked true Leaving = refl
starts_booked true (LeavingWaiting r) = refl

-- a start takes nothing from what has begun
starts_begun : (b : Bool) (p : Phase) (m : ℕ) → cond (is_waiting p) (m - 1) m ≤ cond (is_waiting (cond b (started p) p)) (m - 1) m
starts_begun false p m = omega arith
starts_begun true Booked m = omega arith
starts_begun true Ready m = omega arith
starts_begun true (Waiting r) m = omega arith
starts_begun true Leaving m = omega arith
starts_begun true (LeavingWaiting r) m = omega arith

-- and adds one for the row that starts
starts_one : (p : Phase) (m : ℕ) → is_waiting p ≡ true → 1 ≤ m → cond (is_waiting p) (m - 1) m < cond (is_waiting (started p)) (m - 1) m
starts_one Booked m e l = absurd (false≢true e)
starts_one Ready m e l = absurd (false≢true e)
starts_one (Waiting r) m e l = omega arith
starts_one Leaving m e l = absurd (false≢true e)
starts_one (LeavingWaiting r) m e l = omega arith

starts_claims : (b : Bool) (p : Phase) (m : ℕ) → cond (is_booked p) 0 m ≤ cond (is_booked (cond b (started p) p)) 0 m
starts_claims b p m = rw (starts_booked b p) (omega arith)

start_sound : (s n : ℕ) (h : Row) → Sound s h → Sound s (start_row n h)
start_sound s n h k =
    record {
      turns = k.turns;
      small = k.small;
      short = k.short;
      idle = λ e. k.idle (sym (starts_booked (has_number n h) h.phase) ∙ e);
      reach = k.reach;
      waited = λ w. let o = starts_other (has_number n h) h.phase w in let p = k.waited o.1 in rw o.2 p;
    }

pub start_plain : (n : ℕ) → Plain (start_row n)
start_plain n = record { number = λ h. refl; period = λ h. refl; deadline = λ h. refl; rank = λ h q. refl }

-- The row y starts at s, and q goes on waiting
module _ (d s n : ℕ) (t : List Row) (y q : Row) (spread : 1 ≤ d) (open-now : n ≤ s) (lead : First waits t y)
    (sound : (h : Row) → h ∈ t → Sound s h) (other : has_number y.number q ≡ false) (inside : q ∈ t) (w : waits q ≡ true)
    (old : Held d s n t q) where
  y_first : before y q ≡ true
  y_first = before_other y q (lead.leads q inside w) other

  start_early : (h : Row) → h ∈ map (start_row y.number) t → waits h ≡ true → upto h q → old.from ≤ since h.phase
  start_early h m k up =
      let o = from_map (start_row y.number) t h m in
      let x = o.0 in
      let k' : waits (start_row y.number x) ≡ true = subst (λ z. waits z ≡ true) o.2 k in
      let up' : upto x q = subst (λ z. upto z q) o.2 up in
      let c = starts_other (has_number y.number x) x.phase k' in
      let r : old.from ≤ since x.phase = old.early x o.1 c.1 up' in
      subst (λ z. old.from ≤ since z.phase) (sym o.2) (rw c.2 r)

  -- the rounds that have begun grow by one
  start_one : against q (begun old.from) y < against q (begun old.from) (start_row y.number y)
  start_one =
      let first_one = before_is_upto y q y_first in
      let b = old.early y lead.inside lead.passes first_one in
      let p = sound y lead.inside in
      let l = div_waits y.earliest (since y.phase) old.from y.period p.turns (p.waited lead.passes).1 b in
      rw (y_first, eq-eqb y.number y.number refl) (starts_one y.phase _ lead.passes l)

  start_more : total (against q (begun old.from)) t < total (against q (begun old.from)) (map (start_row y.number) t)
  start_more =
      rw total-map
      (total_more _ _ t
      (λ h m. against_mono q q h (start_row y.number h) (begun old.from) (begun old.from) (λ e. e) (starts_begun (has_number y.number h) h.phase _))
      y lead.inside start_one)

  start_served : s + d ≤ old.from + (d - 1) + d * total (against q (begun old.from)) (map (start_row y.number) t)
  start_served =
      let l = mul-le-mul_left d start_more in
      let b = old.busy in
      let k = old.served in
      omega arith

  start_claims : (v : ℕ) → total (against q (claims v)) t ≤ total (against q (claims v)) (map (start_row y.number) t)
  start_claims v =
      total_mono_map _ _ (start_row y.number) t
      (λ h m. against_mono q q h (start_row y.number h) (claims v) (claims v) (λ e. e) (starts_claims (has_number y.number h) h.phase _))

  start_sounds : (h : Row) → h ∈ map (start_row y.number) t → Sound s h
  start_sounds h m =
      let o = from_map (start_row y.number) t h m in
      subst (Sound s) (sym o.2) (start_sound s y.number o.0 (sound o.0 o.1))

  start_bound : (v : ℕ) → d - 1 + d * total (against q (claims v)) (map (start_row y.number) t) ≤ v → s - old.from ≤ v
  start_bound v p = let l = mul-le-mul_left d (start_claims v) in old.bound v (omega arith)

  start_holds : Held d (s + 1) (s + d) (map (start_row y.number) t) (start_row y.number q)
  start_holds =
      let busy-now : s + 1 ≤ max (s + d) old.from = omega arith in
      record {
        from = old.from;
        early = start_early;
        busy = busy-now;
        served = start_served;
        bound = next_bound d s (s + d) old.from (map (start_row y.number) t) q busy-now start_served start_sounds start_bound;
      }

-- no start is allowed at s, and q goes on waiting
pause_holds : (d s n : ℕ) (t : List Row) (q : Row) → s < n → ((h : Row) → h ∈ t → Sound s h) → Held d s n t q → Held d (s + 1) n t q
pause_holds d s n t q shut sound old =
    let busy-now : s + 1 ≤ max n old.from = omega arith in
    record {
      from = old.from;
      early = old.early;
      busy = busy-now;
      served = old.served;
      bound = next_bound d s n old.from t q busy-now old.served sound old.bound;
    }

-- what `may_start` tells
pub may_free : (d : ℕ) (o : Option ℕ) (s : ℕ) → 1 ≤ d → may_start d o s ≡ true → free d o ≤ s
may_free d None s k e = zero-le
may_free d (Some t) s k e = let l = leb-true d (s - t) e in omega arith

pub may_not_free : (d : ℕ) (o : Option ℕ) (s : ℕ) → may_start d o s ≡ false → s < free d o
may_not_free d None s e = absurd (false≢true (sym e))
may_not_free d (Some t) s e = let l = leb-false d (s - t) e in omega arith

module _ (L d s n next : ℕ) (t : List Row) (k : Table L d s n next t) where
  -- nobody waits, and some rows go
  pub table_swept : (p : Row → Bool) → Leads waits t None → Table L d (s + 1) n next (filter p t)
  table_swept p l =
      record {
        sound = λ h m. sound_later s h (k.sound h (from_keep p t h m));
        held = λ q m w. absurd (l q (from_keep p t q m) w);
        unique = λ h j m i e. k.unique h j (from_keep p t h m) (from_keep p t j i) e;
        below = λ h m. k.below h (from_keep p t h m);
        admitted = λ q m. keeps_less L d t (filter p t) q q (λ w. total_kept (against q (rounds w)) p t) refl (k.admitted q (from_keep p t q m));
      }

  -- the waiting row that ranks first starts
  pub table_started : (y : Row) → 1 ≤ d → n ≤ s → First waits t y → Table L d (s + 1) (s + d) next (map (start_row y.number) t)
  table_started y spread open-now lead =
      record {
        sound = λ h m.
            let o = from_map (start_row y.number) t h m in
            subst (Sound (s + 1)) (sym o.2) (sound_later s _ (start_sound s y.number o.0 (k.sound o.0 o.1)));
        held = λ q m w.
            let o = from_map (start_row y.number) t q m in
            let w' : waits (start_row y.number o.0) ≡ true = subst (λ z. waits z ≡ true) o.2 w in
            let c = starts_other (has_number y.number o.0) o.0.phase w' in
            subst (λ z. Held d (s + 1) (s + d) (map (start_row y.number) t) z) (sym o.2)
            (start_holds d s n t y o.0 spread open-now lead k.sound c.0 o.1 c.1 (k.held o.0 o.1 c.1));
        unique = map_unique (start_row y.number) (start_plain y.number) t k.unique;
        below = map_below (start_row y.number) (start_plain y.number) t next k.below;
        admitted = map_admitted (start_row y.number) (start_plain y.number) t L d k.admitted;
      }

  -- no start is allowed
  pub table_paused : s < n → Table L d (s + 1) n next t
  table_paused shut =
      record {
        sound = λ h m. sound_later s h (k.sound h m);
        held = λ q m w. pause_holds d s n t q shut k.sound (k.held q m w);
        unique = k.unique;
        below = k.below;
        admitted = k.admitted;
      }
