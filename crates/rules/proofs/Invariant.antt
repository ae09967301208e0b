-- What every reachable engine keeps: of each row, of each row that waits, of the table and of the running rounds.
use Rattle.std.proofs.Common.{◌≡◌, ℕ, ◌+◌, ◌-◌, ◌*◌, ◌/◌, ◌<◌, ◌≤◌, max, Bool, true, false, cond, List, [], ◌∷◌, map, Some, None, Option, sym, refl, ap, ◌∙◌, subst, le_trans, mul-le-mul_left, div-le_self, arith}
use Rattle.rules.specs.declared.row.Row.{Row}
use Rattle.rules.specs.declared.round.Round.{Round}
use Rattle.rules.specs.Lists.{◌∈◌, total}
use Rattle.rules.specs.Phases.{is_booked, is_waiting, since}
use Rattle.rules.specs.Rows.{before, waits}
use Rattle.rules.specs.Waits.{against, rounds, load}
use Rattle.rules.specs.Rules.{View}
use Rattle.rules.proofs.Sums.{total_mono, total_mono_map, total-map, from_map}
use Rattle.rules.proofs.Counts.{div_mono, div_reach}
use Rattle.rules.proofs.Ranks.{upto}
use Rattle.rules.proofs.Waiting.{against_mono, Keeps, keeps_less}

-- the first slot at which a start is certainly allowed
abbrev pub free : ℕ → Option ℕ → ℕ
free d None = 0
free d (Some t) = t + d

-- how many rounds of h, released since b, have started
abbrev pub begun : ℕ → Row → ℕ
begun b h = cond (waits h) ((h.earliest - b) / h.period - 1) ((h.earliest - b) / h.period)

-- how many rounds of h can be released in w + 1 slots, if h is confirmed
abbrev pub claims : ℕ → Row → ℕ
claims w h = cond (is_booked h.phase) 0 (rounds w h)

pub record Sound (s : ℕ) (h : Row) : Type 0 where
  pub turns : 1 ≤ h.period
  pub small : h.period ≤ 60000
  pub short : h.deadline ≤ h.period
  pub idle : is_booked h.phase ≡ true → h.earliest ≡ 0
  pub reach : h.earliest ≤ s + h.period
  pub waited : waits h ≡ true → (since h.phase ≤ s) × (h.earliest ≡ since h.phase + h.period)

-- q has waited since `from` or later, and from there on every start went to a row that ranks before q
pub record Held (d s n : ℕ) (t : List Row) (q : Row) : Type 0 where
  pub from : ℕ
  pub early : (h : Row) → h ∈ t → waits h ≡ true → upto h q → from ≤ since h.phase
  pub busy : s ≤ max n from
  pub served : n ≤ from + (d - 1) + d * total (against q (begun from)) t
  pub bound : (v : ℕ) → d - 1 + d * total (against q (claims v)) t ≤ v → s - from ≤ v

-- a table in slot s, where n is the first slot at which a start is certainly allowed
pub record Table (L d s n next : ℕ) (t : List Row) : Type 0 where
  pub sound : (h : Row) → h ∈ t → Sound s h
  pub held : (q : Row) → q ∈ t → waits q ≡ true → Held d s n t q
  pub unique : (h k : Row) → h ∈ t → k ∈ t → h.number ≡ k.number → h ≡ k
  pub below : (h : Row) → h ∈ t → h.number < next
  pub admitted : (q : Row) → q ∈ t → Keeps L d t q

-- the rounds of the list are in order of start, d apart
abbrev pub Spaced : ℕ → List Round → Type 0
Spaced d [] = Unit {0}
Spaced d (r ∷ rs) = ((k : Round) → k ∈ rs → r.start + d ≤ k.start) × Spaced d rs

-- the running rounds in slot s
pub record Rounds (L d s n : ℕ) (rs : List Round) : Type 0 where
  pub past : (r : Round) → r ∈ rs → r.start < s
  pub live : (r : Round) → r ∈ rs → s < r.start + L
  pub ready : (r : Round) → r ∈ rs → r.start + d ≤ n
  pub spaced : Spaced d rs

pub record Inv (v : View) : Type 0 where
  pub long : 1 ≤ v.length
  pub spread : 1 ≤ v.distance
  pub recent : free v.distance v.last < v.slot + v.distance
  pub table : Table v.length v.distance v.slot (free v.distance v.last) v.next v.rows
  pub rounds : Rounds v.length v.distance v.slot (free v.distance v.last) v.running

pub sound_later : (s : ℕ) (h : Row) → Sound s h → Sound (s + 1) h
sound_later s h k =
    record {
      turns = k.turns;
      small = k.small;
      short = k.short;
      idle = k.idle;
      reach = let r = k.reach in omega arith;
      waited = λ w. let p = k.waited w in (omega arith, p.1);
    }

-- a row that is not confirmed has no rounds
pub idle_none : (s b : ℕ) (h : Row) → Sound s h → is_booked h.phase ≡ true → (h.earliest - b) / h.period ≡ 0
idle_none s b h k e =
    let z = k.idle e in
    let l = div-le_self (h.earliest - b) h.period in
    omega arith

pub begun-claims : (s b : ℕ) (h : Row) → Sound s h → begun b h ≤ claims (s - b) h
begun-claims s b h k = go (is_waiting h.phase) (is_booked h.phase) refl
  where
    fits : (h.earliest - b) / h.period ≤ rounds (s - b) h
    fits = div_reach h.earliest s b h.period k.turns k.reach

    go : (w a : Bool) → is_booked h.phase ≡ a →
        cond w ((h.earliest - b) / h.period - 1) ((h.earliest - b) / h.period) ≤ cond a 0 (rounds (s - b) h)
    go true false e = let f = fits in omega arith
    go false false e = fits
    go true true e = let z = idle_none s b h k e in omega arith
    go false true e = let z = idle_none s b h k e in omega arith

pub claims_mono : (a b : ℕ) (h : Row) → 1 ≤ h.period → a ≤ b → claims a h ≤ claims b h
claims_mono a b h k l = go (is_booked h.phase)
  where
    go : (c : Bool) → cond c 0 (rounds a h) ≤ cond c 0 (rounds b h)
    go false = let m = div_mono a b h.period k l in omega arith
    go true = omega arith

-- the bound at the next slot
pub next_bound : (d s n b : ℕ) (t : List Row) (q : Row) → s + 1 ≤ max n b → n ≤ b + (d - 1) + d * total (against q (begun b)) t →
    ((h : Row) → h ∈ t → Sound s h) → ((v : ℕ) → d - 1 + d * total (against q (claims v)) t ≤ v → s - b ≤ v) →
    (v : ℕ) → d - 1 + d * total (against q (claims v)) t ≤ v → s + 1 - b ≤ v
next_bound d s n b t q busy served sound old v p =
    let before-now = old v p in
    let more : total (against q (begun b)) t ≤ total (against q (claims v)) t =
    total_mono (against q (begun b)) (against q (claims v)) t (λ h m. against_mono q q h h (begun b) (claims v) (λ e. e)
    (le_trans (begun-claims s b h (sound h m)) (claims_mono (s - b) v h (sound h m).turns before-now))) in
    let times = mul-le-mul_left d more in
    omega arith

-- rows that change without losing rounds: what held y holds q, if y ranks up to q
pub held_grow : (d s n : ℕ) (t : List Row) (u : Row → Row) (y q : Row) (old : Held d s n t y) →
    ((h : Row) → before h y ≡ true → before (u h) q ≡ true) →
    ((h : Row) → h ∈ map u t → waits h ≡ true → upto h q → old.from ≤ since h.phase) →
    ((h : Row) → h ∈ t → begun old.from h ≤ begun old.from (u h)) →
    ((v : ℕ) (h : Row) → h ∈ t → claims v h ≤ claims v (u h)) → Held d s n (map u t) q
held_grow d s n t u y q old rank early grown claimed =
    record { from = old.from; early = early; busy = old.busy; served = served-now; bound = bound-now }
  where
    served-now : n ≤ old.from + (d - 1) + d * total (against q (begun old.from)) (map u t)
    served-now =
        let m = total_mono_map (against y (begun old.from)) (against q (begun old.from)) u t
        (λ h i. against_mono y q h (u h) (begun old.from) (begun old.from) (rank h) (grown h i)) in
        let l = mul-le-mul_left d m in
        let k = old.served in
        omega arith

    bound-now : (v : ℕ) → d - 1 + d * total (against q (claims v)) (map u t) ≤ v → s - old.from ≤ v
    bound-now v p =
        let m = total_mono_map (against y (claims v)) (against q (claims v)) u t
        (λ h i. against_mono y q h (u h) (claims v) (claims v) (rank h) (claimed v h i)) in
        let l = mul-le-mul_left d m in
        old.bound v (omega arith)

-- a change that leaves number, rank and terms of each row
pub record Plain (u : Row → Row) : Type 0 where
  pub number : (h : Row) → (u h).number ≡ h.number
  pub period : (h : Row) → (u h).period ≡ h.period
  pub deadline : (h : Row) → (u h).deadline ≡ h.deadline
  pub rank : (h q : Row) → before (u h) (u q) ≡ before h q

module _ (u : Row → Row) (plain : Plain u) (t : List Row) where
  pub map_unique : ((h k : Row) → h ∈ t → k ∈ t → h.number ≡ k.number → h ≡ k) →
      (h k : Row) → h ∈ map u t → k ∈ map u t → h.number ≡ k.number → h ≡ k
  map_unique old h k m n e =
      let origin = from_map u t h m in
      let b = from_map u t k n in
      let same : origin.0.number ≡ b.0.number = sym (plain.number origin.0) ∙ ap (λ (x : Row). x.number) (sym origin.2) ∙ e ∙ ap (λ (x : Row). x.number) b.2 ∙ plain.number b.0 in
      origin.2 ∙ ap u (old origin.0 b.0 origin.1 b.1 same) ∙ sym b.2

  pub map_below : (next : ℕ) → ((h : Row) → h ∈ t → h.number < next) → (h : Row) → h ∈ map u t → h.number < next
  map_below next old h m =
      let origin = from_map u t h m in
      let l = old origin.0 origin.1 in
      let e : h.number ≡ origin.0.number = ap (λ (x : Row). x.number) origin.2 ∙ plain.number origin.0 in
      omega arith

  map-load : (q : Row) (w : ℕ) → load (map u t) (u q) w ≤ load t q w
  map-load q w =
      rw (total-map (against (u q) (rounds w)) u t)
      (total_mono (λ h. against (u q) (rounds w) (u h)) (against q (rounds w)) t
      (λ h _. rw (plain.rank h q, plain.period h) (omega arith)))

  pub map_admitted : (L d : ℕ) → ((q : Row) → q ∈ t → Keeps L d t q) → (q : Row) → q ∈ map u t → Keeps L d (map u t) q
  map_admitted L d old q m =
      let origin = from_map u t q m in
      subst (Keeps L d (map u t)) (sym origin.2)
      (keeps_less L d t (map u t) origin.0 (u origin.0) (map-load origin.0) (plain.deadline origin.0) (old origin.0 origin.1))
