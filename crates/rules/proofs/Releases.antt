-- A release keeps the table.
use Rattle.std.proofs.Common.{◌≡◌, ℕ, ◌+◌, ◌<◌, ◌≤◌, Bool, true, false, cond, ◌⊎◌, List, map, sym, refl, subst, inl, inr, zero-le, arith}
use mathlib.Core.Bool.{false≢true}
use Rattle.rules.specs.declared.row.Row.{Row}
use Rattle.rules.specs.declared.phase.Phase.TheVariants.{Waiting}
use Rattle.rules.specs.Lists.{◌∈◌}
use Rattle.rules.specs.Phases.{is_booked, since}
use Rattle.rules.specs.Rows.{waits, has_number, release_row}
use Rattle.rules.specs.Waits.{rounds}
use Rattle.rules.proofs.Sums.{from_map}
use Rattle.rules.proofs.Counts.{div_release}
use Rattle.rules.proofs.Ranks.{upto, upto_self, Last, NoneUpto, last_upto, before_upto}
use Rattle.rules.proofs.Invariant.{begun, claims, Sound, Held, Table, held_grow, Plain, map_unique, map_below, map_admitted}

-- a row, released in slot s if the test says so
abbrev released_if : Bool → ℕ → Row → Row
released_if b s h =
    record {
      number = h.number;
      priority = h.priority;
      period = h.period;
      deadline = h.deadline;
      earliest = cond b (s + h.period) h.earliest;
      phase = cond b (Waiting s) h.phase;
    }

release_sound : (b : Bool) (s : ℕ) (h : Row) → Sound s h → Sound s (released_if b s h)
release_sound false s h k =
    record { turns = k.turns; small = k.small; short = k.short; idle = k.idle; reach = k.reach; waited = k.waited }
release_sound true s h k =
    record {
      turns = k.turns;
      small = k.small;
      short = k.short;
      idle = λ e. absurd (false≢true e);
      reach = omega arith;
      waited = λ w. (omega arith, refl);
    }

-- what waits after a release waits since s, or waited before
release_since : (b : Bool) (s : ℕ) (h : Row) → waits (released_if b s h) ≡ true →
    (since (released_if b s h).phase ≡ s) ⊎ ((waits h ≡ true) × (since (released_if b s h).phase ≡ since h.phase))
release_since true s h w = inl refl
release_since false s h w = inr (w, refl)

-- a release since b takes nothing from what has begun
release_begun : (a : Bool) (s b : ℕ) (h : Row) → Sound s h → b ≤ s → (a ≡ true → (waits h ≡ false) × (h.earliest ≤ s)) →
    begun b h ≤ begun b (released_if a s h)
release_begun false s b h k l m = omega arith
release_begun true s b h k l m =
    rw (m refl).0 (div_release h.earliest s b h.period k.turns (m refl).1 l)

release_claims : (a : Bool) (s v : ℕ) (h : Row) → claims v h ≤ claims v (released_if a s h)
release_claims false s v h = omega arith
release_claims true s v h = go (is_booked h.phase)
  where
    go : (c : Bool) → cond c 0 (rounds v h) ≤ rounds v h
    go false = omega arith
    go true = zero-le

pub release_plain : (s n : ℕ) → Plain (release_row s n)
release_plain s n = record { number = λ h. refl; period = λ h. refl; deadline = λ h. refl; rank = λ h q. refl }

-- the row of number k is released at s: it does not wait, and its time has come
module _ (d s n k : ℕ) (t : List Row) (q : Row) (sound : (h : Row) → h ∈ t → Sound s h)
    (may : (h : Row) → h ∈ t → has_number k h ≡ true → (waits h ≡ false) × (h.earliest ≤ s)) where
  -- where no row up to q waited, q is held from s on
  release_fresh : n < s + d → NoneUpto t q → Held d s n (map (release_row s k) t) (release_row s k q)
  release_fresh recent alone =
      record { from = s; early = early; busy = omega arith; served = omega arith; bound = λ v p. omega arith }
    where
      early : (h : Row) → h ∈ map (release_row s k) t → waits h ≡ true → upto h q → s ≤ since h.phase
      early h m w up =
          let o = from_map (release_row s k) t h m in
          let x = o.0 in
          let w' : waits (release_row s k x) ≡ true = subst (λ z. waits z ≡ true) o.2 w in
          let up' : upto x q = subst (λ z. upto z q) o.2 up in
          subst (λ z. s ≤ since z.phase) (sym o.2)
          (elim (release_since (has_number k x) s x w') [ inl e ↦ omega arith | inr c ↦ absurd (alone x o.1 c.0 up') ])

  -- else it is held as the last row up to q that waited
  release_joins : (y : Row) → Last t q y → Held d s n t y → Held d s n (map (release_row s k) t) (release_row s k q)
  release_joins y last old =
      held_grow d s n t (release_row s k) y (release_row s k q) old (λ h e. before_upto h y q e last.up) early
      (λ h m. release_begun (has_number k h) s old.from h (sound h m) within (may h m))
      (λ v h m. release_claims (has_number k h) s v h)
    where
      within : old.from ≤ s
      within =
          let a = old.early y last.inside last.waits_now (upto_self y) in
          let b = ((sound y last.inside).waited last.waits_now).0 in
          omega arith

      early : (h : Row) → h ∈ map (release_row s k) t → waits h ≡ true → upto h q → old.from ≤ since h.phase
      early h m w up =
          let o = from_map (release_row s k) t h m in
          let x = o.0 in
          let w' : waits (release_row s k x) ≡ true = subst (λ z. waits z ≡ true) o.2 w in
          let up' : upto x q = subst (λ z. upto z q) o.2 up in
          let i = within in
          subst (λ z. old.from ≤ since z.phase) (sym o.2)
          (elim (release_since (has_number k x) s x w') [
            | inl e ↦ omega arith
            | inr c ↦ let r = old.early x o.1 c.0 (last.latest x o.1 c.0 up') in omega (arith, c.1)
          ])

pub table_released : (L d s n next : ℕ) (t : List Row) → Table L d s n next t → n < s + d → (k : ℕ) →
    ((h : Row) → h ∈ t → has_number k h ≡ true → (waits h ≡ false) × (h.earliest ≤ s)) →
    Table L d s n next (map (release_row s k) t)
table_released L d s n next t old recent k may =
    record {
      sound = λ h m.
          let o = from_map (release_row s k) t h m in
          subst (Sound s) (sym o.2) (release_sound (has_number k o.0) s o.0 (old.sound o.0 o.1));
      held = λ q m w.
          let o = from_map (release_row s k) t q m in
          subst (λ z. Held d s n (map (release_row s k) t) z) (sym o.2) (held-now o.0 (last_upto t o.0));
      unique = map_unique (release_row s k) (release_plain s k) t old.unique;
      below = map_below (release_row s k) (release_plain s k) t next old.below;
      admitted = map_admitted (release_row s k) (release_plain s k) t L d old.admitted;
    }
  where
    held-now : (q : Row) → NoneUpto t q ⊎ ((y : Row) × Last t q y) → Held d s n (map (release_row s k) t) (release_row s k q)
    held-now q (inl alone) = release_fresh d s n k t q old.sound may recent alone
    held-now q (inr (y, last)) = release_joins d s n k t q old.sound may y last (old.held y last.inside last.waits_now)
