-- The story of one number: how it was booked, its releases and its starts, and how they go with its row.
use Rattle.std.proofs.Common.{◌≡◌, ℕ, ◌+◌, ◌-◌, ◌<◌, ◌≤◌, true, false, ◌⊎◌, List, [], ◌∷◌, ◌++◌, map, Some, None, Option, sym, refl, ap, ◌∙◌, subst, inl, inr, append-nil, arith}
use Rattle.std.proofs.lemmas.Bool.{eq-eqb}
use Rattle.rules.specs.declared.phase.Phase.{Phase}
use Rattle.rules.specs.declared.phase.Phase.TheVariants.{Booked, Ready, Waiting, Leaving, LeavingWaiting}
use Rattle.rules.specs.declared.row.Row.{Row}
use Rattle.rules.specs.Lists.{◌∈◌}
use Rattle.rules.specs.Phases.{since, started}
use Rattle.rules.specs.Rows.{row_of, waits, has_number, booked_row, release_row, start_row}
use Rattle.rules.specs.Rules.{View}
use Rattle.rules.specs.Runs.{Booking}
use Rattle.rules.specs.Promise.{Within}
use Rattle.rules.proofs.Sums.{from_end}
use Rattle.rules.proofs.Steps.{row_of_is}
use Rattle.rules.proofs.RowsOf.{some_row, none_some, row_none, row_map, changed, waiting_since, pend, waiting_none, waiting_one, RowKept, kept_none}

-- a round that started: the slot of its release, and what the slot of its start found
pub record Pair : Type 0 where
  pub release : ℕ
  pub found : View

-- it started in time
pub record Timely (L Δ n : ℕ) (b : Booking) (p : Pair) : Type 0 where
  pub later : p.release ≤ p.found.slot
  pub waited : Within Δ n p.found.rows (p.found.slot - p.release)
  pub ends : p.found.slot - p.release + L ≤ b.deadline

-- the numbers of the list grow by P at least
abbrev pub SpacedBy : ℕ → List ℕ → Type 0
SpacedBy P [] = Unit {0}
SpacedBy P (r ∷ rs) = ((k : ℕ) → k ∈ rs → r + P ≤ k) × SpacedBy P rs

-- the row has the terms of the booking, and each release lies a period before the next one
pub record Fits (b : Booking) (R : List ℕ) (q : Row) : Type 0 where
  pub period : q.period ≡ b.period
  pub deadline : q.deadline ≡ b.deadline
  pub recent : (r : ℕ) → r ∈ R → r + q.period ≤ q.earliest

-- a number that was given out
pub record Known (L Δ n : ℕ) (B : List Booking) (R : List ℕ) (S : List View) (next : ℕ) (t : List Row) (b : Booking) : Type 0 where
  pub booked : B ≡ b ∷ []
  pub given : n < next
  pub turns : 1 ≤ b.period
  pub pairs : List Pair
  pub released : R ≡ map (λ (p : Pair). p.release) pairs ++ pend (row_of n t)
  pub began : S ≡ map (λ (p : Pair). p.found) pairs
  pub timely : (p : Pair) → p ∈ pairs → Timely L Δ n b p
  pub spaced : SpacedBy b.period R
  pub fits : (q : Row) → row_of n t ≡ Some q → Fits b R q

-- and one that was not
pub record Unknown (n : ℕ) (B : List Booking) (R : List ℕ) (S : List View) (t : List Row) : Type 0 where
  pub unbooked : B ≡ []
  pub unreleased : R ≡ []
  pub unstarted : S ≡ []
  pub absent : row_of n t ≡ None

abbrev pub Story : ℕ → ℕ → ℕ → List Booking → List ℕ → List View → ℕ → List Row → Type 0
Story L Δ n B R S next t = Unknown n B R S t ⊎ ((b : Booking) × Known L Δ n B R S next t b)

-- nothing happened to n
pub story_kept : (L Δ n : ℕ) (B : List Booking) (R : List ℕ) (S : List View) (next next' : ℕ) (t t' : List Row) →
    next ≤ next' → RowKept n t t' → Story L Δ n B R S next t → Story L Δ n B R S next' t'
story_kept L Δ n B R S next next' t t' l k (inl u) =
    inl (record { unbooked = u.unbooked; unreleased = u.unreleased; unstarted = u.unstarted; absent = kept_none n t t' k u.absent })
story_kept L Δ n B R S next next' t t' l k (inr (b, o)) =
    inr (
      b,
      record {
        booked = o.booked;
        given = let g = o.given in omega arith;
        turns = o.turns;
        pairs = o.pairs;
        released = o.released ∙ ap (λ z. map (λ (p : Pair). p.release) o.pairs ++ z) (sym k.same_pend);
        began = o.began;
        timely = o.timely;
        spaced = o.spaced;
        fits = λ q e.
            let origin = k.back q e in
            let f = o.fits origin.0 origin.1 in
            let x = origin.2.period in
            let y = origin.2.earliest in
            record { period = x ∙ f.period; deadline = origin.2.deadline ∙ f.deadline; recent = λ r m. let c = f.recent r m in omega arith };
      },
    )

-- the number is given out
pub story_booked : (L Δ p per dl next : ℕ) (B : List Booking) (R : List ℕ) (S : List View) (t : List Row) → 1 ≤ per →
    Story L Δ next B R S next t →
    Story L Δ next (B ++ (record { priority = p; period = per; deadline = dl } ∷ [])) R S (next + 1) (t ++ (booked_row next p per dl ∷ []))
story_booked L Δ p per dl next B R S t turns (inr (b, o)) = let g = o.given in absurd (omega arith)
story_booked L Δ p per dl next B R S t turns (inl u) =
    inr (
      record { priority = p; period = per; deadline = dl },
      record {
        booked = ap (λ z. z ++ (record { priority = p; period = per; deadline = dl } ∷ [])) u.unbooked;
        given = omega arith;
        turns = turns;
        pairs = [];
        released = u.unreleased ∙ sym (none_waits (row_of next (t ++ (booked_row next p per dl ∷ []))) refl);
        began = u.unstarted;
        timely = λ z m. elim m [ ];
        spaced = subst (SpacedBy per) (sym u.unreleased) tt;
        fits = λ q e.
            subst (λ (z : Row). Fits (record { priority = p; period = per; deadline = dl }) R z) (sym (only q e))
            (record { period = refl; deadline = refl; recent = λ r m. elim (subst (λ z. r ∈ z) u.unreleased m) [ ] });
      },
    )
  where
    only : (q : Row) → row_of next (t ++ (booked_row next p per dl ∷ [])) ≡ Some q → q ≡ booked_row next p per dl
    only q e =
        let o = row_of_is next (t ++ (booked_row next p per dl ∷ [])) q e in
        elim (from_end t (booked_row next p per dl) q o.0) [ inl i ↦ absurd (row_none next t u.absent q i o.1) | inr s ↦ s ]

    none_waits : (o : Option Row) → row_of next (t ++ (booked_row next p per dl ∷ [])) ≡ o → pend o ≡ []
    none_waits None e = refl
    none_waits (Some q) e = ap (λ (z : Row). waiting_since z.phase) (only q e)

spaced_push : (P s : ℕ) (R : List ℕ) → ((r : ℕ) → r ∈ R → r + P ≤ s) → SpacedBy P R → SpacedBy P (R ++ (s ∷ []))
spaced_push P s [] k old = (λ j m. elim m [ ], tt)
spaced_push P s (r ∷ R) k old = (
  λ j m. elim (from_end R s j m) [ inl i ↦ old.0 j i | inr e ↦ let a = k r (inl refl) in omega arith ],
  spaced_push P s R (λ j m. k j (inr m)) old.1,
)

map_end : {X Y : Type 0} (f : X → Y) (xs : List X) (x : X) → map f (xs ++ (x ∷ [])) ≡ map f xs ++ (f x ∷ [])
map_end {Y = Y} f [] x = refl
map_end {Y = Y} f (y ∷ xs) x = ap {B = List Y} (λ r. f y ∷ r) (map_end f xs x)

-- it is released
pub story_released : (L Δ n s next : ℕ) (B : List Booking) (R : List ℕ) (S : List View) (t : List Row) (q : Row) → row_of n t ≡ Some q →
    waits q ≡ false → q.earliest ≤ s → Story L Δ n B R S next t → Story L Δ n B (R ++ (s ∷ [])) S next (map (release_row s n) t)
story_released L Δ n s next B R S t q e w l (inl u) = absurd (none_some q (sym u.absent ∙ e))
story_released L Δ n s next B R S t q e w l (inr (b, o)) =
    inr (
      b,
      record {
        booked = o.booked;
        given = o.given;
        turns = o.turns;
        pairs = o.pairs;
        released = ap (λ z. z ++ (s ∷ [])) before-now ∙ ap (λ z. map (λ (p : Pair). p.release) o.pairs ++ z) (sym pend-now);
        began = o.began;
        timely = o.timely;
        spaced = spaced_push b.period s R earlier o.spaced;
        fits = λ q' f.
            let same : release_row s n q ≡ q' = some_row (release_row s n q) q' (sym row_now ∙ f) in
            subst (Fits b (R ++ (s ∷ []))) same (rw own fits-now);
      },
    )
  where
    own : has_number n q ≡ true
    own = eq-eqb q.number n (row_of_is n t q e).1

    row_now : row_of n (map (release_row s n) t) ≡ Some (release_row s n q)
    row_now = row_map n (release_row s n) t (λ h. refl) ∙ ap (changed (release_row s n)) e

    pend-now : pend (row_of n (map (release_row s n) t)) ≡ s ∷ []
    pend-now = ap pend row_now ∙ rw own

    before-now : R ≡ map (λ (p : Pair). p.release) o.pairs
    before-now =
        o.released ∙ ap (λ z. map (λ (p : Pair). p.release) o.pairs ++ z) (ap pend e ∙ waiting_none q.phase w) ∙ append-nil _

    earlier : (r : ℕ) → r ∈ R → r + b.period ≤ s
    earlier r m = let f = o.fits q e in let c = f.recent r m in let p = f.period in omega arith

    fits-now : Fits b (R ++ (s ∷ [])) (record { number = q.number; priority = q.priority; period = q.period; deadline = q.deadline; earliest = s + q.period; phase = Waiting s })
    fits-now =
        let f = o.fits q e in
        let p = f.period in
        record {
          period = f.period;
          deadline = f.deadline;
          recent = λ r m. elim (from_end R s r m) [ inl i ↦ let c = earlier r i in omega arith | inr z ↦ omega arith ];
        }

-- it starts
pub story_started : (L Δ n next : ℕ) (B : List Booking) (R : List ℕ) (S : List View) (v : View) (y : Row) → row_of n v.rows ≡ Some y →
    waits y ≡ true → since y.phase ≤ v.slot → Within Δ n v.rows (v.slot - since y.phase) → v.slot - since y.phase + L ≤ y.deadline →
    Story L Δ n B R S next v.rows → Story L Δ n B R (S ++ (v ∷ [])) next (map (start_row n) v.rows)
story_started L Δ n next B R S v y e w later within ends (inl u) = absurd (none_some y (sym u.absent ∙ e))
story_started L Δ n next B R S v y e w later within ends (inr (b, o)) =
    inr (
      b,
      record {
        booked = o.booked;
        given = o.given;
        turns = o.turns;
        pairs = o.pairs ++ (pair ∷ []);
        released =
            o.released ∙ ap (λ z. map (λ (p : Pair). p.release) o.pairs ++ z) (ap pend e ∙ waiting_one y.phase w) ∙
            sym (map_end (λ (p : Pair). p.release) o.pairs pair) ∙ sym (append-nil _) ∙
            ap (λ z. map (λ (p : Pair). p.release) (o.pairs ++ (pair ∷ [])) ++ z) (sym pend-now);
        began = ap (λ z. z ++ (v ∷ [])) o.began ∙ sym (map_end (λ (p : Pair). p.found) o.pairs pair);
        timely = λ p m. elim (from_end o.pairs pair p m) [ inl i ↦ o.timely p i | inr z ↦ subst (Timely L Δ n b) (sym z) timely-now ];
        spaced = o.spaced;
        fits = λ q f.
            let same : start_row n y ≡ q = some_row (start_row n y) q (sym row_now ∙ f) in
            subst (Fits b R) same (fits-now (o.fits y e));
      },
    )
  where
    pair : Pair
    pair = record { release = since y.phase; found = v }

    own : has_number n y ≡ true
    own = eq-eqb y.number n (row_of_is n v.rows y e).1

    row_now : row_of n (map (start_row n) v.rows) ≡ Some (start_row n y)
    row_now = row_map n (start_row n) v.rows (λ h. refl) ∙ ap (changed (start_row n)) e

    started_none : (p : Phase) → waiting_since (started p) ≡ []
    started_none Booked = refl
    started_none Ready = refl
    started_none (Waiting r) = refl
    started_none Leaving = refl
    started_none (LeavingWaiting r) = refl

    pend-now : pend (row_of n (map (start_row n) v.rows)) ≡ []
    pend-now = ap pend row_now ∙ rw own (started_none y.phase)

    fits-now : Fits b R y → Fits b R (start_row n y)
    fits-now f = record { period = f.period; deadline = f.deadline; recent = f.recent }

    timely-now : Timely L Δ n b (record { release = since y.phase; found = v })
    timely-now = record { later = later; waited = within; ends = let d = (o.fits y e).deadline in omega arith }
