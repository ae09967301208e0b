-- The ways in which a call can end, each with what it rests on.
use Rattle.std.proofs.Common.{◌≡◌, ℕ, ◌+◌, ◌≤◌, Bool, true, false, cond, not, ltb, leb, ◌⊎◌, List, [], ◌∷◌, ◌++◌, map, length, Some, None, filter, Option, sym, refl, ap, ◌∙◌, inl, inr, arith}
use Rattle.std.proofs.lemmas.Bool.{not-false, ltb-false, eqb-true}
use Rattle.routing.specs.Search.{or_else}
use Rattle.rules.specs.declared.call.Call.{Call}
use Rattle.rules.specs.declared.call.Call.TheVariants.{Book, Trial, Confirm, Withdraw, Release, Close, Slot}
use Rattle.rules.specs.declared.refusal.Refusal.{Refusal}
use Rattle.rules.specs.declared.refusal.Refusal.TheVariants.{Terms, Numbers, TableFull, NotBooked, NotOpen, TooEarly, RoundWaits}
use Rattle.rules.specs.declared.row.Row.{Row}
use Rattle.rules.specs.Lists.{◌∈◌}
use Rattle.rules.specs.Phases.{is_booked, is_open}
use Rattle.rules.specs.Rows.{row_of, waits, has_number, first_in_rank, booked_row, confirm_row, release_row, close_row, other_than}
use Rattle.rules.specs.Waits.{first_late}
use Rattle.rules.specs.Rules.{View, with_rows, when, fair, naming, book_refusal, book_with, trial_with, settle, unless_booked, release_refusal, unless_open, may_start, start_with, lines_now, slot_over, slot_refusal, slot_with}
use Rattle.rules.specs.Runs.{Answer, Numbered, Done, Listed, Refused, numbered, done, listed, step}
use Rattle.rules.proofs.Ranks.{First, Leads, first_leads}

-- the row of a number stands in the table and has the number
pub row_of_is : (n : ℕ) (t : List Row) (q : Row) → row_of n t ≡ Some q → (q ∈ t) × (q.number ≡ n)
row_of_is n [] q e = let z : ◌≡◌ {A = ℕ} 0 1 = cc in absurd (omega arith)
row_of_is n (h ∷ t) q e = go (row_of_is n t q) (has_number n h) refl e
  where
    go : (row_of n t ≡ Some q → (q ∈ t) × (q.number ≡ n)) → (b : Bool) → has_number n h ≡ b → cond b (Some h) (row_of n t) ≡ Some q →
        ((q ≡ h) ⊎ (q ∈ t)) × (q.number ≡ n)
    go old true k f =
        let same : h ≡ q = cc in
        (inl (sym same), ap (λ (x : Row). x.number) (sym same) ∙ eqb-true h.number n k)
    go old false k f = let o = old f in (inr o.0, o.1)

-- no refusal: no part of the list of refusals applies
or_none : (b : Bool) (r : Refusal) (o : Option Refusal) → or_else (when b r) o ≡ None → (b ≡ false) × (o ≡ None)
or_none true r o e = let z : ◌≡◌ {A = ℕ} 0 1 = cc in absurd (omega arith)
or_none false r o e = (refl, e)

when_none : (b : Bool) (r : Refusal) → when b r ≡ None → b ≡ false
when_none true r e = let z : ◌≡◌ {A = ℕ} 0 1 = cc in absurd (omega arith)
when_none false r e = refl

naming_none : (o : Option Row) → naming o ≡ None → o ≡ None
naming_none None e = refl
naming_none (Some q) e = let z : ◌≡◌ {A = ℕ} 0 1 = cc in absurd (omega arith)

-- the view after a booking
abbrev pub after_book : View → ℕ → ℕ → ℕ → View
after_book v priority period deadline =
    record {
      length = v.length;
      distance = v.distance;
      slot = v.slot;
      last = v.last;
      running = v.running;
      next = v.next + 1;
      rows = v.rows ++ (booked_row v.next priority period deadline ∷ []);
    }

-- what holds of call, answer and view left, in each way
pub record Ways (v : View) (P : Call → Answer → View → Type 0) : Type 0 where
  pub refuses : (c : Call) (r : Refusal) → P c (Refused r) v
  pub tries : (priority period deadline : ℕ) → P (Trial priority period deadline) (Numbered v.next) v
  pub books : (priority period deadline : ℕ) → fair period deadline ≡ true →
      first_late v.length v.distance (v.rows ++ (booked_row v.next priority period deadline ∷ [])) ≡ None →
      P (Book priority period deadline) (Numbered v.next) (after_book v priority period deadline)
  pub confirms : (n : ℕ) (q : Row) → row_of n v.rows ≡ Some q → is_booked q.phase ≡ true →
      P (Confirm n) Done (with_rows v (map (confirm_row n) v.rows))
  pub withdraws : (n : ℕ) (q : Row) → row_of n v.rows ≡ Some q → is_booked q.phase ≡ true →
      P (Withdraw n) Done (with_rows v (filter (other_than n) v.rows))
  pub releases : (n : ℕ) (q : Row) → row_of n v.rows ≡ Some q → is_open q.phase ≡ true → q.earliest ≤ v.slot → waits q ≡ false →
      P (Release n) Done (with_rows v (map (release_row v.slot n) v.rows))
  pub closes : (n : ℕ) (q : Row) → row_of n v.rows ≡ Some q → is_open q.phase ≡ true →
      P (Close n) Done (with_rows v (map (close_row n) v.rows))
  pub sweeps : (room : ℕ) → Leads waits v.rows None →
      P (Slot room) (Listed (lines_now (start_with None true v))) (slot_over (start_with None true v))
  pub starts : (room : ℕ) (y : Row) → First waits v.rows y → may_start v.distance v.last v.slot ≡ true →
      P (Slot room) (Listed (lines_now (start_with (Some y) true v))) (slot_over (start_with (Some y) true v))
  pub pauses : (room : ℕ) (y : Row) → First waits v.rows y → may_start v.distance v.last v.slot ≡ false →
      P (Slot room) (Listed (lines_now v)) (slot_over v)

module _ (v : View) (P : Call → Answer → View → Type 0) (way : Ways v P) where
  by_book : (p per dl : ℕ) → P (Book p per dl) (step (Book p per dl) v).0 (step (Book p per dl) v).1
  by_book p per dl = go (book_refusal x v) refl
    where
      x : Row
      x = booked_row v.next p per dl

      go : (o : Option Refusal) → book_refusal (booked_row v.next p per dl) v ≡ o →
          P (Book p per dl) (numbered (book_with o (booked_row v.next p per dl) v)).0 (numbered (book_with o (booked_row v.next p per dl) v)).1
      go (Some r) e = way.refuses (Book p per dl) r
      go None e =
          let fine = or_none (not (fair per dl)) Terms _ e in
          let b = or_none (ltb 1000000 v.next) Numbers _ fine.1 in
          let c = or_none (leb 32 (length v.rows)) TableFull _ b.1 in
          way.books p per dl (not-false (fair per dl) fine.0) (naming_none _ c.1)

  by_trial : (p per dl : ℕ) → P (Trial p per dl) (step (Trial p per dl) v).0 (step (Trial p per dl) v).1
  by_trial p per dl = go (book_refusal (booked_row v.next p per dl) v)
    where
      go : (o : Option Refusal) → P (Trial p per dl) (numbered (trial_with o v)).0 (numbered (trial_with o v)).1
      go (Some r) = way.refuses (Trial p per dl) r
      go None = way.tries p per dl

  by_settle : (c : Call) (t : List Row) (o : Option Refusal) → (o ≡ None → P c Done (with_rows v t)) → P c (done (settle o t v)).0 (done (settle o t v)).1
  by_settle c t (Some r) k = way.refuses c r
  by_settle c t None k = k refl

  booked_none : (n : ℕ) (o : Option Row) → unless_booked o ≡ None → (q : Row) × (o ≡ Some q) × (is_booked q.phase ≡ true)
  booked_none n None e = let z : ◌≡◌ {A = ℕ} 0 1 = cc in absurd (omega arith)
  booked_none n (Some q) e = (q, refl, not-false (is_booked q.phase) (when_none _ NotBooked e))

  open_none : (o : Option Row) → unless_open o ≡ None → (q : Row) × (o ≡ Some q) × (is_open q.phase ≡ true)
  open_none None e = let z : ◌≡◌ {A = ℕ} 0 1 = cc in absurd (omega arith)
  open_none (Some q) e = (q, refl, not-false (is_open q.phase) (when_none _ NotOpen e))

  release_none : (s : ℕ) (o : Option Row) → release_refusal o s ≡ None →
      (q : Row) × (o ≡ Some q) × (is_open q.phase ≡ true) × (q.earliest ≤ s) × (waits q ≡ false)
  release_none s None e = let z : ◌≡◌ {A = ℕ} 0 1 = cc in absurd (omega arith)
  release_none s (Some q) e =
      let fine = or_none (not (is_open q.phase)) NotOpen _ e in
      let b = or_none (ltb s q.earliest) TooEarly _ fine.1 in
      (q, refl, not-false (is_open q.phase) fine.0, ltb-false s q.earliest b.0, when_none _ RoundWaits b.1)

  by_slot : (room : ℕ) → P (Slot room) (step (Slot room) v).0 (step (Slot room) v).1
  by_slot room = go (slot_refusal room v) (first_in_rank waits v.rows) (first_leads waits v.rows) (may_start v.distance v.last v.slot) refl
    where
      go : (o : Option Refusal) (f : Option Row) → Leads waits v.rows f → (b : Bool) → may_start v.distance v.last v.slot ≡ b →
          P (Slot room) (listed (slot_with o (start_with f b v) v)).0 (listed (slot_with o (start_with f b v) v)).1
      go (Some r) f l b e = way.refuses (Slot room) r
      go None None l b e = way.sweeps room l
      go None (Some y) l true e = way.starts room y l e
      go None (Some y) l false e = way.pauses room y l e

  pub by_ways : (c : Call) → P c (step c v).0 (step c v).1
  by_ways (Book p per dl) = by_book p per dl
  by_ways (Trial p per dl) = by_trial p per dl
  by_ways (Confirm n) =
      by_settle (Confirm n) _ (unless_booked (row_of n v.rows))
      (λ e. let o = booked_none n (row_of n v.rows) e in way.confirms n o.0 o.1 o.2)
  by_ways (Withdraw n) =
      by_settle (Withdraw n) _ (unless_booked (row_of n v.rows))
      (λ e. let o = booked_none n (row_of n v.rows) e in way.withdraws n o.0 o.1 o.2)
  by_ways (Release n) =
      by_settle (Release n) _ (release_refusal (row_of n v.rows) v.slot)
      (λ e. let o = release_none v.slot (row_of n v.rows) e in way.releases n o.0 o.1 o.2 o.3 o.4)
  by_ways (Close n) =
      by_settle (Close n) _ (unless_open (row_of n v.rows))
      (λ e. let o = open_none (row_of n v.rows) e in way.closes n o.0 o.1 o.2)
  by_ways (Slot room) = by_slot room
