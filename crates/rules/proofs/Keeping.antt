-- The promise over every run, from what ties history and state.
use Rattle.std.proofs.Common.{◌≡◌, ℕ, zero, suc, ◌+◌, ◌-◌, ◌*◌, ◌/◌, ◌<◌, ◌≤◌, Bool, true, false, cond, ◌&&◌, ltb, leb, ◌⊎◌, List, [], ◌∷◌, ◌++◌, map, length, Some, None, Option, sym, refl, ap, ◌∙◌, subst, subst₂, inl, inr, append_assoc, append-nil, zero-le, le-div_iff_mul-le, arith}
use Rattle.std.proofs.lemmas.Bool.{and_parts, leb-true, ltb-true}
use Rattle.std.specs.List.{slice_get}
use Rattle.interference.specs.declared.transmission.Transmission.{Transmission}
use Rattle.rules.specs.declared.call.Call.{Call}
use Rattle.rules.specs.declared.phase.Phase.{Phase}
use Rattle.rules.specs.declared.phase.Phase.TheVariants.{Booked, Ready, Waiting, Leaving, LeavingWaiting}
use Rattle.rules.specs.declared.row.Row.{Row}
use Rattle.rules.specs.Lists.{◌∈◌, count}
use Rattle.rules.specs.Rows.{row_of}
use Rattle.rules.specs.Rules.{View, opened}
use Rattle.rules.specs.Runs.{Moment, moment, step, history, last_view, Booking}
use Rattle.rules.specs.Promise.{bookings_of, releases_of, starts_of, Within, InTime, Kept, Fit, Promised}
use Rattle.rules.proofs.Sums.{count_map}
use Rattle.rules.proofs.Steps.{row_of_is, by_ways}
use Rattle.rules.proofs.States.{opened_inv, waited}
use Rattle.rules.proofs.RowsOf.{waiting_since, pend, waiting_in}
use Rattle.rules.proofs.Stories.{Pair, Timely, SpacedBy, Story}
use Rattle.rules.proofs.Links.{Linked, link_step}

-- Places in the lists

some_of : {X : Type 0} (x y : X) → ◌≡◌ {A = Option X} (Some x) (Some y) → x ≡ y
some_of x y e = cc

none_of : {X : Type 0} (x : X) → ◌≡◌ {A = Option X} None (Some x) → ⊥
none_of x e = let z : ◌≡◌ {A = ℕ} 0 1 = cc in omega arith

nth_in : {X : Type 0} (xs : List X) (j : ℕ) (x : X) → slice_get xs j ≡ Some x → x ∈ xs
nth_in [] j x e = none_of x e
nth_in (y ∷ xs) zero x e = inl (sym (some_of y x e))
nth_in (y ∷ xs) (suc j) x e = inr (nth_in xs j x e)

abbrev releases : List Pair → List ℕ
releases ps = map (λ (p : Pair). p.release) ps

abbrev founds : List Pair → List View
founds ps = map (λ (p : Pair). p.found) ps

-- the j-th start and the j-th release are of one pair
pair_at : (ps : List Pair) (xs : List ℕ) (j : ℕ) (w : View) → slice_get (founds ps) j ≡ Some w →
    (p : Pair) × (p ∈ ps) × (p.found ≡ w) × (slice_get (releases ps ++ xs) j ≡ Some p.release)
pair_at [] xs j w e = absurd (none_of w e)
pair_at (p ∷ ps) xs zero w e = (p, inl refl, some_of p.found w e, refl)
pair_at (p ∷ ps) xs (suc j) w e = let o = pair_at ps xs j w e in (o.0, inr o.1, o.2, o.3)

-- a release after those of the pairs waits
pend_at : (ps : List Pair) (xs : List ℕ) (j r : ℕ) → slice_get (releases ps ++ xs) j ≡ Some r → length (founds ps) ≤ j → r ∈ xs
pend_at [] xs j r e l = nth_in xs j r e
pend_at (p ∷ ps) xs zero r e l = absurd (omega arith)
pend_at (p ∷ ps) xs (suc j) r e l = pend_at ps xs j r e (omega arith)

most_one : (ps : List Pair) (xs : List ℕ) → length xs ≤ 1 → length (releases ps ++ xs) ≤ length (founds ps) + 1
most_one [] xs l = omega arith
most_one (p ∷ ps) xs l = let o = most_one ps xs l in omega arith

-- Shares

abbrev inside : ℕ → ℕ → ℕ → Bool
inside a m t = leb a t && ltb t (a + m)

spaced_front : (P : ℕ) (xs ys : List ℕ) → SpacedBy P (xs ++ ys) → SpacedBy P xs
spaced_front P [] ys k = tt
spaced_front P (x ∷ xs) ys k = (λ r m. k.0 r (front xs r m), spaced_front P xs ys k.1)
  where
    front : (zs : List ℕ) (r : ℕ) → r ∈ zs → r ∈ (zs ++ ys)
    front [] r m = elim m [ ]
    front (z ∷ zs) r (inl e) = inl e
    front (z ∷ zs) r (inr m) = inr (front zs r m)

released_in : (ps : List Pair) (p : Pair) → p ∈ ps → p.release ∈ releases ps
released_in [] p m = elim m [ ]
released_in (x ∷ ps) p (inl e) = inl (ap (λ (z : Pair). z.release) e)
released_in (x ∷ ps) p (inr m) = inr (released_in ps p m)

-- k rounds that started among m slots from a on, no more than c after their releases, which lie P apart
share_count : (P c a m x : ℕ) (ps : List Pair) → SpacedBy P (releases ps) →
    ((p : Pair) → p ∈ ps → p.release ≤ p.found.slot) →
    ((p : Pair) → p ∈ ps → inside a m p.found.slot ≡ true → x ≤ p.release + c) →
    (count (λ (p : Pair). inside a m p.found.slot) ps ≡ 0) ⊎
    (x + count (λ (p : Pair). inside a m p.found.slot) ps * P < a + m + c + P)
share_count P c a m x [] spaced later low = inl refl
share_count P c a m x (p ∷ ps) spaced later low =
    go (inside a m p.found.slot) refl (share_count P c a m x ps spaced.1 (λ q i. later q (inr i)) (λ q i e. low q (inr i) e))
    (λ k. share_count P c a m (x + P) ps spaced.1 (λ q i. later q (inr i)) k)
  where
    rest : ℕ
    rest = count (λ (q : Pair). inside a m q.found.slot) ps

    go : (b : Bool) → inside a m p.found.slot ≡ b →
        (count (λ (q : Pair). inside a m q.found.slot) ps ≡ 0) ⊎ (x + count (λ (q : Pair). inside a m q.found.slot) ps * P < a + m + c + P) →
        (((q : Pair) → q ∈ ps → inside a m q.found.slot ≡ true → x + P ≤ q.release + c) →
        (count (λ (q : Pair). inside a m q.found.slot) ps ≡ 0) ⊎ (x + P + count (λ (q : Pair). inside a m q.found.slot) ps * P < a + m + c + P)) →
        (cond b 1 0 + count (λ (q : Pair). inside a m q.found.slot) ps ≡ 0) ⊎
        (x + (cond b 1 0 + count (λ (q : Pair). inside a m q.found.slot) ps) * P < a + m + c + P)
    go false e (inl z) more = inl (omega arith)
    go false e (inr l) more = inr (rw (same (count (λ (q : Pair). inside a m q.found.slot) ps)) l)
      where
        same : (z : ℕ) → 0 + z ≡ z
        same z = omega arith
    go true e old more =
        inr (after (more (λ q i f. let s = spaced.0 q.release (released_in ps q i) in let b = low p (inl refl) e in omega arith)))
      where
        after : (count (λ (q : Pair). inside a m q.found.slot) ps ≡ 0) ⊎ (x + P + count (λ (q : Pair). inside a m q.found.slot) ps * P < a + m + c + P) →
            x + (1 + count (λ (q : Pair). inside a m q.found.slot) ps) * P < a + m + c + P
        after (inl z) =
            let b = low p (inl refl) e in
            let l = later p (inl refl) in
            let t = ltb-true p.found.slot (a + m) (and_parts (leb a p.found.slot) (ltb p.found.slot (a + m)) e).1 in
            rw z (omega arith)
        after (inr l) = omega arith

-- so there are at most so many
share_most : (P c a m k : ℕ) → 1 ≤ P → 1 ≤ m → (k ≡ 0) ⊎ (a + k * P < a + m + c + P) → k ≤ 1 + (m - 1 + c) / P
share_most P c a m k turns some (inl z) = omega arith
share_most P c a m zero turns some (inr l) = zero-le
share_most P c a m (suc k) turns some (inr l) =
    let q : k ≤ (m - 1 + c) / P = (le-div_iff_mul-le turns).1 (omega arith) in
    omega arith

-- The promise, from the link

booking_of : (b d : Booking) (bs : List Booking) → bs ≡ b ∷ [] → bs ≡ d ∷ [] → b ≡ d
booking_of b d bs e f = cc

few_since : (p : Phase) → length (waiting_since p) ≤ 1
few_since Booked = omega arith
few_since Ready = omega arith
few_since (Waiting r) = omega arith
few_since Leaving = omega arith
few_since (LeavingWaiting r) = omega arith

few_waits : (o : Option Row) → length (pend o) ≤ 1
few_waits None = omega arith
few_waits (Some q) = few_since q.phase

module _ (first : ℕ) (part : ℕ → List Transmission) (conflict : Transmission → Transmission → Bool) (past : List Moment) (v : View)
    (k : Linked first part conflict past v) where
  abbrev Told : ℕ → Type 0
  Told n = Story v.length v.distance n (bookings_of n past) (releases_of n past) (starts_of n past) v.next v.rows

  follows : (n j : ℕ) (w : View) → Told n → slice_get (starts_of n past) j ≡ Some w →
      (r : ℕ) × (slice_get (releases_of n past) j ≡ Some r) × InTime v.length v.distance n past r w
  follows n j w (inl u) e = absurd (none_of w (ap (λ z. slice_get z j) (sym u.unstarted) ∙ e))
  follows n j w (inr (b, o)) e =
      let pair = pair_at o.pairs (pend (row_of n v.rows)) j w (ap (λ z. slice_get z j) (sym o.began) ∙ e) in (
        pair.0.release,
        ap (λ z. slice_get z j) o.released ∙ pair.3,
        subst (λ z. InTime v.length v.distance n past pair.0.release z) pair.2 (in-time pair.0 (o.timely pair.0 pair.1)),
      )
    where
      in-time : (p : Pair) → Timely v.length v.distance n b p → InTime v.length v.distance n past p.release p.found
      in-time p t = record { later = t.later; waited = t.waited; terms = b; booked = o.booked; ends = t.ends }

  single : (n : ℕ) → Told n → length (releases_of n past) ≤ length (starts_of n past) + 1
  single n (inl u) = rw (u.unreleased, u.unstarted) (omega arith)
  single n (inr (b, o)) = rw (o.released, o.began) (most_one o.pairs (pend (row_of n v.rows)) (few_waits (row_of n v.rows)))

  present : (n r : ℕ) (q : Option Row) → row_of n v.rows ≡ q → r ∈ pend q → (r ≤ v.slot) × Within v.distance n v.rows (v.slot - r)
  present n r None e m = elim m [ ]
  present n r (Some q) e m =
      let w = waiting_in q.phase r m in
      let a = waited v k.inv q (row_of_is n v.rows q e).0 in
      let l = a.within w.0 in
      let s = w.1 in
      let b = a.later w.0 in
      (omega arith, record { row = q; stands = e; longest = a.wait; is_longest = a.is_wait; within = omega arith })

  pending : (n j r : ℕ) → Told n → slice_get (releases_of n past) j ≡ Some r → length (starts_of n past) ≤ j →
      (r ≤ v.slot) × Within v.distance n v.rows (v.slot - r)
  pending n j r (inl u) e l = absurd (none_of r (ap (λ z. slice_get z j) (sym u.unreleased) ∙ e))
  pending n j r (inr (b, o)) e l =
      present n r (row_of n v.rows) refl
      (pend_at o.pairs (pend (row_of n v.rows)) j r (ap (λ z. slice_get z j) (sym o.released) ∙ e) (subst (λ z. length z ≤ j) o.began l))

  share : (n a m : ℕ) (b : Booking) → Told n → 1 ≤ m → bookings_of n past ≡ b ∷ [] →
      count (λ (w : View). leb a w.slot && ltb w.slot (a + m)) (starts_of n past) ≤ 1 + (m - 1 + (b.deadline - v.length)) / b.period
  share n a m b (inl u) some e = rw u.unstarted zero-le
  share n a m b (inr (d, o)) some e =
      subst (λ (z : Booking). count (λ (w : View). inside a m w.slot) (starts_of n past) ≤ 1 + (m - 1 + (z.deadline - v.length)) / z.period)
      (booking_of d b (bookings_of n past) o.booked e)
      (rw (o.began, count_map (λ (w : View). inside a m w.slot) (λ (p : Pair). p.found) o.pairs)
      (share_most d.period (d.deadline - v.length) a m _ o.turns some
      (share_count d.period (d.deadline - v.length) a m a o.pairs
      (spaced_front d.period (releases o.pairs) (pend (row_of n v.rows)) (subst (SpacedBy d.period) o.released o.spaced))
      (λ p i. (o.timely p i).later) low)))
    where
      low : (p : Pair) → p ∈ o.pairs → inside a m p.found.slot ≡ true → a ≤ p.release + (d.deadline - v.length)
      low p i f =
          let t = o.timely p i in
          let x = t.ends in
          let y = leb-true a p.found.slot (and_parts (leb a p.found.slot) (ltb p.found.slot (a + m)) f).0 in
          omega arith

  pub kept : Kept v.length v.distance first part conflict past v
  kept =
      record {
        ran = k.clock.ran;
        next = k.clock.next;
        apart = k.lines.apart;
        follows = λ n j w e. follows n j w (k.story n) e;
        steps = k.lines.steps;
        once = k.lines.once;
        single = λ n. single n (k.story n);
        pending = λ n j r e l. pending n j r (k.story n) e l;
        share = λ n a m b s e. share n a m b (k.story n) s e;
      }

-- Runs

linked_opened : (part : ℕ → List Transmission) (conflict : Transmission → Transmission → Bool) (L Δ first : ℕ) → 1 ≤ L → 1 ≤ Δ →
    Fit L Δ part conflict → Linked first part conflict [] (opened L Δ first)
linked_opened part conflict L Δ first long spread fit =
    record {
      fit = fit;
      inv = opened_inv L Δ first long spread;
      story = λ n. inl (record { unbooked = refl; unreleased = refl; unstarted = refl; absent = refl });
      lines = record {
        ran = λ u m. elim m [ ];
        fresh = λ u l. refl;
        unstarted = λ n t l. refl;
        running = λ n t. sym (zeros (ltb first (t + L)));
        steps = λ u n i m. elim m [ ];
        once = λ n u. zero-le;
        apart = λ u. tt;
      };
      clock = record { ran = refl; next = omega arith };
    }
  where
    zeros : (b : Bool) → ◌≡◌ {A = ℕ} (cond b 0 0) 0
    zeros true = refl
    zeros false = refl

pub linked_run : (first : ℕ) (part : ℕ → List Transmission) (conflict : Transmission → Transmission → Bool) (cs : List Call) (past : List Moment) (v : View) →
    Linked first part conflict past v → Linked first part conflict (past ++ history v cs) (last_view v cs)
linked_run first part conflict [] past v k = subst (λ z. Linked first part conflict z v) (sym (append-nil past)) k
linked_run first part conflict (c ∷ cs) past v k =
    subst (λ z. Linked first part conflict z (last_view (step c v).1 cs)) (append_assoc past (moment v c ∷ []) (history (step c v).1 cs))
    (linked_run first part conflict cs (past ++ (moment v c ∷ [])) (step c v).1 (link_step first part conflict past v k c))

-- no call changes the plan
same_plan : (v : View) (c : Call) → ((step c v).1.length ≡ v.length) × ((step c v).1.distance ≡ v.distance)
same_plan v =
    by_ways v (λ c a w. (w.length ≡ v.length) × (w.distance ≡ v.distance))
    (record {
      refuses = λ c r. (refl, refl);
      tries = λ p per dl. (refl, refl);
      books = λ p per dl f l. (refl, refl);
      confirms = λ n q e b. (refl, refl);
      withdraws = λ n q e b. (refl, refl);
      releases = λ n q e o l w. (refl, refl);
      closes = λ n q e o. (refl, refl);
      sweeps = λ room l. (refl, refl);
      starts = λ room y l e. (refl, refl);
      pauses = λ room y l e. (refl, refl);
    })

pub last_plan : (cs : List Call) (v : View) → ((last_view v cs).length ≡ v.length) × ((last_view v cs).distance ≡ v.distance)
last_plan [] v = (refl, refl)
last_plan (c ∷ cs) v =
    let rest = last_plan cs (step c v).1 in
    let b = same_plan v c in
    (rest.0 ∙ b.0, rest.1 ∙ b.1)

pub promised : Promised
promised L Δ first part conflict long spread fit calls =
    let v = last_view (opened L Δ first) calls in
    let same = last_plan calls (opened L Δ first) in
    subst₂ (λ l d. Kept l d first part conflict (history (opened L Δ first) calls) v) same.0 same.1
    (kept first part conflict (history (opened L Δ first) calls) v
    (linked_run first part conflict calls [] (opened L Δ first) (linked_opened part conflict L Δ first long spread fit)))
