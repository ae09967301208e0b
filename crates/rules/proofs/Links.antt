-- History and state: every call keeps what ties them.
use Rattle.std.proofs.Common.{◌≡◌, ℕ, zero, suc, ◌+◌, ◌-◌, ◌<◌, ◌≤◌, Bool, true, false, cond, not, ◌&&◌, eqb, leb, List, [], ◌∷◌, ◌++◌, map, length, Some, None, filter, sym, refl, ap, ◌∙◌, subst, add-one, arith, length-append}
use mathlib.Core.Path.{fun_ext}
use mathlib.Core.Bool.{false≢true}
use Rattle.std.specs.List.{range_with_len}
use Rattle.std.proofs.lemmas.Bool.{eqb-true, eqb-false, eq-eqb, ne_eqb, and_parts, and_right, leb-true, not-false}
use Rattle.std.proofs.lemmas.Bool.Decides.{nat_tests}
use Rattle.interference.specs.declared.transmission.Transmission.{Transmission}
use Rattle.rules.specs.declared.call.Call.{Call}
use Rattle.rules.specs.declared.call.Call.TheVariants.{Book, Trial, Confirm, Withdraw, Release, Close, Slot}
use Rattle.rules.specs.declared.phase.Phase.{Phase}
use Rattle.rules.specs.declared.phase.Phase.TheVariants.{Booked, Ready, Waiting, Leaving, LeavingWaiting}
use Rattle.rules.specs.declared.refusal.Refusal.{Refusal}
use Rattle.rules.specs.declared.round.Line.{Line}
use Rattle.rules.specs.declared.round.Round.{Round}
use Rattle.rules.specs.declared.row.Row.{Row}
use Rattle.rules.specs.Lists.{count}
use Rattle.rules.specs.Phases.{is_booked, is_leaving, closed}
use Rattle.rules.specs.Rows.{row_of, waits, has_number, booked_row, confirm_row, release_row, start_row, close_row, other_than, staying}
use Rattle.rules.specs.Rules.{View, with_rows, fair, line_at, runs_in, start_with, lines_now, slot_over}
use Rattle.rules.specs.Runs.{Answer, Numbered, Done, Listed, Refused, Moment, moment, step, accepted, is_release, lines_by, ran_by, Booking, asked, gives}
use Rattle.rules.specs.Promise.{releases_in, releases_of, lines_in, lines_of, slots_of, is_line, times, starts_in, starts_of, bookings_of, Fit}
use Rattle.rules.proofs.Sums.{count-append, count_none, count_map}
use Rattle.rules.proofs.Ranks.{First}
use Rattle.rules.proofs.Invariant.{free, Inv}
use Rattle.rules.proofs.Running.{Running, running_same, running_started}
use Rattle.rules.proofs.Starts.{may_free}
use Rattle.rules.proofs.Steps.{row_of_is, by_ways, after_book}
use Rattle.rules.proofs.States.{row_only, keeps_inv, Waited, waited}
use Rattle.rules.proofs.RowsOf.{waiting_since, pend, RowKept, kept_same, kept_map, kept_keep, row_found, row_end}
use Rattle.rules.proofs.Histories.{gather_end, gather_quiet}
use Rattle.rules.proofs.Stories.{Story, story_kept, story_booked, story_released, story_started}
use Rattle.rules.proofs.Slots.{is_round, started_at, Lines, lines_slot}

-- Phases

booked_idle : (p : Phase) → is_booked p ≡ true → waiting_since p ≡ []
booked_idle Booked e = refl
booked_idle Ready e = absurd (false≢true e)
booked_idle (Waiting r) e = absurd (false≢true e)
booked_idle Leaving e = absurd (false≢true e)
booked_idle (LeavingWaiting r) e = absurd (false≢true e)

leaving_idle : (p : Phase) → not (is_leaving p) ≡ false → waiting_since p ≡ []
leaving_idle Booked e = refl
leaving_idle Ready e = refl
leaving_idle (Waiting r) e = absurd (false≢true (sym e))
leaving_idle Leaving e = refl
leaving_idle (LeavingWaiting r) e = absurd (false≢true (sym e))

closed_since : (b : Bool) (p : Phase) → waiting_since (cond b (closed p) p) ≡ waiting_since p
closed_since false p = refl
closed_since true Booked = refl
closed_since true Ready = refl
closed_since true (Waiting r) = refl
closed_since true Leaving = refl
closed_since true (LeavingWaiting r) = refl

confirmed_since : (b : Bool) (p : Phase) → (b ≡ true → waiting_since p ≡ []) → waiting_since (cond b Ready p) ≡ waiting_since p
confirmed_since true p k = sym (k refl)
confirmed_since false p k = refl

cond_nil : {X : Type 0} (b : Bool) → ◌≡◌ {A = List X} (cond b [] []) []
cond_nil true = refl
cond_nil false = refl

-- a table with the same row of n
kept_equal : (n : ℕ) (t t' : List Row) → row_of n t' ≡ row_of n t → RowKept n t t'
kept_equal n t t' e =
    record { same_pend = ap pend e; back = λ q f. (q, sym e ∙ f, record { period = refl; deadline = refl; earliest = refl }) }

-- the story over other lists that are the same
story_same : (L Δ n : ℕ) (B B' : List Booking) (R R' : List ℕ) (S S' : List View) (next : ℕ) (t : List Row) → B' ≡ B → R' ≡ R → S' ≡ S →
    Story L Δ n B R S next t → Story L Δ n B' R' S' next t
story_same L Δ n B B' R R' S S' next t b r s k =
    subst (λ z. Story L Δ n z R' S' next t) (sym b)
    (subst (λ z. Story L Δ n B z S' next t) (sym r) (subst (λ z. Story L Δ n B R z next t) (sym s) k))

-- the lines of a slot start no round but the new one
old_line : (s n : ℕ) (r : Round) → r.start < s → is_line n 0 (line_at s r) ≡ false
old_line s n r l = grind (arith, nat_tests)

-- the slots so far, from the first one on, and the next
pub record Clock (first : ℕ) (slots : List ℕ) (s : ℕ) : Type 0 where
  pub ran : slots ≡ range_with_len first (length slots)
  pub next : s ≡ first + length slots

counting_suc : (a n : ℕ) → range_with_len a (suc n) ≡ range_with_len a n ++ ((a + n) ∷ [])
counting_suc a zero = let e : a ≡ a + 0 = omega arith in ap (λ z. z ∷ []) e
counting_suc a (suc n) =
    let e : a + 1 + n ≡ a + suc n = omega arith in
    ap {B = List ℕ} (λ r. a ∷ r) (counting_suc (a + 1) n ∙ ap (λ z. range_with_len (a + 1) n ++ (z ∷ [])) e)

counting_push : (a n : ℕ) → range_with_len a (n + 1) ≡ range_with_len a n ++ ((a + n) ∷ [])
counting_push a n = rw add-one (counting_suc a n)

clock_more : (first s : ℕ) (slots : List ℕ) → Clock first slots s → Clock first (slots ++ (s ∷ [])) (s + 1)
clock_more first s slots k =
    let e = k.next in
    let l : length (slots ++ (s ∷ [])) ≡ length slots + 1 = length-append slots (s ∷ []) in
    record {
      ran = ap (λ z. z ++ (s ∷ [])) k.ran ∙ ap (λ z. range_with_len first (length slots) ++ (z ∷ [])) e ∙ sym (ap (range_with_len first) l ∙ counting_push first (length slots));
      next = omega arith;
    }

module _ (first : ℕ) (part : ℕ → List Transmission) (conflict : Transmission → Transmission → Bool) where
  abbrev pub StoryAt : ℕ → List Moment → View → Type 0
  StoryAt n past v =
      Story v.length v.distance n (bookings_of n past) (releases_of n past) (starts_of n past) v.next v.rows

  abbrev pub LinesAt : List Moment → View → Type 0
  LinesAt past v =
      Lines v.length v.distance part conflict (λ u. lines_of u past) (λ n. starts_of n past) (slots_of past) v.slot v.running

  pub record Linked (past : List Moment) (v : View) : Type 0 where
    pub fit : Fit v.length v.distance part conflict
    pub inv : Inv v
    pub story : (n : ℕ) → StoryAt n past v
    pub lines : LinesAt past v
    pub clock : Clock first (slots_of past) v.slot

  module _ (past : List Moment) (v : View) (k : Linked past v) where
    abbrev more : Call → Answer → View → List Moment
    more c a w = past ++ (record { before = v; call = c; answer = a; after = w } ∷ [])

    -- a call that writes no lines
    unlisted : (c : Call) (a : Answer) (w : View) → lines_by a ≡ [] → ran_by a ≡ false → LinesAt (more c a w) v
    unlisted c a w e f =
        subst (λ (z : ℕ → List Line). Lines v.length v.distance part conflict z (λ n. starts_of n (more c a w)) (slots_of (more c a w)) v.slot v.running)
        (sym (fun_ext (λ u. gather_quiet (lines_in u) past m (rw e (cond_nil (eqb v.slot u))))))
        (subst (λ (z : ℕ → List View). Lines v.length v.distance part conflict (λ u. lines_of u past) z (slots_of (more c a w)) v.slot v.running)
        (sym (fun_ext (λ n. gather_quiet (starts_in n) past m (rw e))))
        (subst (λ z. Lines v.length v.distance part conflict (λ u. lines_of u past) (λ n. starts_of n past) z v.slot v.running)
        (sym (gather_quiet (λ (x : Moment). cond (ran_by x.answer) (x.before.slot ∷ []) []) past m (rw f)))
        k.lines))
      where
        m : Moment
        m = record { before = v; call = c; answer = a; after = w }

    unclocked : (c : Call) (a : Answer) (w : View) → ran_by a ≡ false → Clock first (slots_of (more c a w)) v.slot
    unclocked c a w f =
        subst (λ z. Clock first z v.slot)
        (sym (gather_quiet (λ (x : Moment). cond (ran_by x.answer) (x.before.slot ∷ []) []) past
        (record { before = v; call = c; answer = a; after = w }) (rw f))) k.clock

    -- a call that says nothing of n
    untold : (n : ℕ) (c : Call) (a : Answer) (w : View) (next : ℕ) (t : List Row) → lines_by a ≡ [] → cond (gives n a) (asked c) [] ≡ [] →
        (is_release n c && accepted a) ≡ false → v.next ≤ next → RowKept n v.rows t →
        Story v.length v.distance n (bookings_of n (more c a w)) (releases_of n (more c a w)) (starts_of n (more c a w)) next t
    untold n c a w next t e g r l kept =
        story_same v.length v.distance n (bookings_of n past) (bookings_of n (more c a w)) (releases_of n past) (releases_of n (more c a w))
        (starts_of n past) (starts_of n (more c a w)) next t
        (gather_quiet (λ (x : Moment). cond (gives n x.answer) (asked x.call) []) past m g)
        (gather_quiet (releases_in n) past m (rw r))
        (gather_quiet (starts_in n) past m (rw e))
        (story_kept v.length v.distance n _ _ _ v.next next v.rows t l kept (k.story n))
      where
        m : Moment
        m = record { before = v; call = c; answer = a; after = w }

    link-refused : (c : Call) (r : Refusal) → Linked (more c (Refused r) v) v
    link-refused c r =
        record {
          fit = k.fit;
          inv = k.inv;
          story = λ n. untold n c (Refused r) v v.next v.rows refl refl (and_right (is_release n c) false refl) (omega arith) (kept_same n v.rows);
          lines = unlisted c (Refused r) v refl refl;
          clock = unclocked c (Refused r) v refl;
        }

    link-tried : (p per dl : ℕ) → Linked (more (Trial p per dl) (Numbered v.next) v) v
    link-tried p per dl =
        record {
          fit = k.fit;
          inv = k.inv;
          story = λ n. untold n (Trial p per dl) (Numbered v.next) v v.next v.rows refl (cond_nil (eqb v.next n)) refl (omega arith) (kept_same n v.rows);
          lines = unlisted (Trial p per dl) (Numbered v.next) v refl refl;
          clock = unclocked (Trial p per dl) (Numbered v.next) v refl;
        }

    link-booked : (p per dl : ℕ) → fair per dl ≡ true → Inv (after_book v p per dl) →
        Linked (more (Book p per dl) (Numbered v.next) (after_book v p per dl)) (after_book v p per dl)
    link-booked p per dl f i =
        record {
          fit = k.fit;
          inv = i;
          story = λ n. go n (eqb v.next n) refl;
          lines = unlisted (Book p per dl) (Numbered v.next) w refl refl;
          clock = unclocked (Book p per dl) (Numbered v.next) w refl;
        }
      where
        w : View
        w = after_book v p per dl

        m : Moment
        m = record { before = v; call = Book p per dl; answer = Numbered v.next; after = after_book v p per dl }

        turns : 1 ≤ per
        turns =
            let fits = and_parts (leb 1 dl) _ f in
            let b = and_parts (leb dl per) (leb per 60000) fits.1 in
            let x = leb-true 1 dl fits.0 in
            let y = leb-true dl per b.0 in
            omega arith

        own : StoryAt v.next (more (Book p per dl) (Numbered v.next) (after_book v p per dl)) (after_book v p per dl)
        own =
            story_same v.length v.distance v.next _ _ _ _ _ _ (v.next + 1) (v.rows ++ (booked_row v.next p per dl ∷ []))
            (gather_end (λ (x : Moment). cond (gives v.next x.answer) (asked x.call) []) past m ∙
            ap (λ z. bookings_of v.next past ++ z) (rw (eq-eqb v.next v.next refl)))
            (gather_quiet (releases_in v.next) past m refl)
            (gather_quiet (starts_in v.next) past m refl)
            (story_booked v.length v.distance p per dl v.next _ _ _ v.rows turns (k.story v.next))

        go : (n : ℕ) (b : Bool) → eqb v.next n ≡ b → StoryAt n (more (Book p per dl) (Numbered v.next) (after_book v p per dl)) (after_book v p per dl)
        go n true e =
            subst (λ z. StoryAt z (more (Book p per dl) (Numbered v.next) (after_book v p per dl)) (after_book v p per dl)) (eqb-true v.next n e) own
        go n false e =
            untold n (Book p per dl) (Numbered v.next) (after_book v p per dl) (v.next + 1) (v.rows ++ (booked_row v.next p per dl ∷ [])) refl
            (rw e) refl (omega arith) (kept_equal n v.rows _ (row_end n v.rows (booked_row v.next p per dl) e))

    -- a call on the table that answers nothing
    link-settled : (c : Call) (t : List Row) → asked c ≡ [] → Inv (with_rows v t) →
        ((n : ℕ) → StoryAt n (more c Done (with_rows v t)) (with_rows v t)) → Linked (more c Done (with_rows v t)) (with_rows v t)
    link-settled c t e i s =
        record {
          fit = k.fit;
          inv = i;
          story = s;
          lines = unlisted c Done (with_rows v t) refl refl;
          clock = unclocked c Done (with_rows v t) refl;
        }

    link-confirmed : (x : ℕ) (q : Row) → row_of x v.rows ≡ Some q → is_booked q.phase ≡ true → Inv (with_rows v (map (confirm_row x) v.rows)) →
        Linked (more (Confirm x) Done (with_rows v (map (confirm_row x) v.rows))) (with_rows v (map (confirm_row x) v.rows))
    link-confirmed x q e b i =
        link-settled (Confirm x) (map (confirm_row x) v.rows) refl i
        (λ n. untold n (Confirm x) Done (with_rows v (map (confirm_row x) v.rows)) v.next (map (confirm_row x) v.rows) refl refl refl (omega arith)
        (kept_map n (confirm_row x) v.rows (λ h. refl)
        (λ h f. (
          record { period = refl; deadline = refl; earliest = refl },
          confirmed_since (has_number x h) h.phase
              (λ t. booked_idle h.phase
              (subst (λ (z : Row). is_booked z.phase ≡ true) (sym (row_only v k.inv x q h e (row_of_is n v.rows h f).0 t)) b)),
        ))))

    link-withdrawn : (x : ℕ) (q : Row) → row_of x v.rows ≡ Some q → is_booked q.phase ≡ true → Inv (with_rows v (filter (other_than x) v.rows)) →
        Linked (more (Withdraw x) Done (with_rows v (filter (other_than x) v.rows))) (with_rows v (filter (other_than x) v.rows))
    link-withdrawn x q e b i =
        link-settled (Withdraw x) (filter (other_than x) v.rows) refl i
        (λ n. untold n (Withdraw x) Done (with_rows v (filter (other_than x) v.rows)) v.next (filter (other_than x) v.rows) refl refl refl (omega arith)
        (kept_keep n (other_than x) v.rows k.inv.table.unique
        (λ h f t. booked_idle h.phase
        (subst (λ (z : Row). is_booked z.phase ≡ true)
        (sym (row_only v k.inv x q h e (row_of_is n v.rows h f).0 (not-false (has_number x h) t))) b))))

    link-closed : (x : ℕ) → Inv (with_rows v (map (close_row x) v.rows)) →
        Linked (more (Close x) Done (with_rows v (map (close_row x) v.rows))) (with_rows v (map (close_row x) v.rows))
    link-closed x i =
        link-settled (Close x) (map (close_row x) v.rows) refl i
        (λ n. untold n (Close x) Done (with_rows v (map (close_row x) v.rows)) v.next (map (close_row x) v.rows) refl refl refl (omega arith)
        (kept_map n (close_row x) v.rows (λ h. refl)
        (λ h f. (record { period = refl; deadline = refl; earliest = refl }, closed_since (has_number x h) h.phase))))

    -- a row of another number
    other-number : (n x : ℕ) (h : Row) → row_of n v.rows ≡ Some h → eqb x n ≡ false → has_number x h ≡ false
    other-number n x h f e =
        let o = (row_of_is n v.rows h f).1 in
        ne_eqb h.number x (λ p. eqb-false x n e (sym p ∙ o))

    link-released : (x : ℕ) (q : Row) → row_of x v.rows ≡ Some q → q.earliest ≤ v.slot → waits q ≡ false →
        Inv (with_rows v (map (release_row v.slot x) v.rows)) →
        Linked (more (Release x) Done (with_rows v (map (release_row v.slot x) v.rows))) (with_rows v (map (release_row v.slot x) v.rows))
    link-released x q e l w i =
        link-settled (Release x) (map (release_row v.slot x) v.rows) refl i (λ n. go n (eqb x n) refl)
      where
        m : Moment
        m = record { before = v; call = Release x; answer = Done; after = with_rows v (map (release_row v.slot x) v.rows) }

        own : StoryAt x (more (Release x) Done (with_rows v (map (release_row v.slot x) v.rows))) (with_rows v (map (release_row v.slot x) v.rows))
        own =
            story_same v.length v.distance x _ _ _ _ _ _ v.next (map (release_row v.slot x) v.rows)
            (gather_quiet (λ (z : Moment). cond (gives x z.answer) (asked z.call) []) past m refl)
            (gather_end (releases_in x) past m ∙ ap (λ z. releases_of x past ++ z) (rw (eq-eqb x x refl)))
            (gather_quiet (starts_in x) past m refl)
            (story_released v.length v.distance x v.slot v.next _ _ _ v.rows q e w l (k.story x))

        go : (n : ℕ) (b : Bool) → eqb x n ≡ b →
            StoryAt n (more (Release x) Done (with_rows v (map (release_row v.slot x) v.rows))) (with_rows v (map (release_row v.slot x) v.rows))
        go n true f =
            subst (λ z. StoryAt z (more (Release x) Done (with_rows v (map (release_row v.slot x) v.rows))) (with_rows v (map (release_row v.slot x) v.rows)))
            (eqb-true x n f) own
        go n false f =
            untold n (Release x) Done (with_rows v (map (release_row v.slot x) v.rows)) v.next (map (release_row v.slot x) v.rows) refl refl
            (rw f) (omega arith)
            (kept_map n (release_row v.slot x) v.rows (λ h. refl)
            (λ h g. rw (other-number n x h g f) (record { period = refl; deadline = refl; earliest = refl }, refl)))

    -- Slots

    -- a slot that writes the lines of the rounds rs
    abbrev ofRounds : List Round → List Line
    ofRounds rs = map (line_at v.slot) rs

    abbrev begins : List Round → ℕ → Bool
    begins rs n = leb 1 (times n 0 (map (line_at v.slot) rs))

    slot-lines : (room : ℕ) (w : View) (rs : List Round) (last : ℕ) → Running v.length v.distance v.slot last rs →
        ((n t : ℕ) → count (is_round n t) rs ≡ count (is_round n t) v.running + started_at t (cond (begins rs n) (v ∷ []) [])) →
        Lines v.length v.distance part conflict (λ u. lines_of u (more (Slot room) (Listed (ofRounds rs)) w))
        (λ n. starts_of n (more (Slot room) (Listed (ofRounds rs)) w)) (slots_of (more (Slot room) (Listed (ofRounds rs)) w))
        (v.slot + 1) (filter (runs_in v.length (v.slot + 1)) rs)
    slot-lines room w rs last runs new =
        subst (λ (z : ℕ → List Line). Lines v.length v.distance part conflict z (λ n. starts_of n after) (slots_of after) (v.slot + 1) (filter (runs_in v.length (v.slot + 1)) rs))
        (sym (fun_ext (λ u. gather_end (lines_in u) past m)))
        (subst (λ (z : ℕ → List View). Lines v.length v.distance part conflict (λ u. lines_of u past ++ cond (eqb v.slot u) (ofRounds rs) []) z (slots_of after) (v.slot + 1) (filter (runs_in v.length (v.slot + 1)) rs))
        (sym (fun_ext (λ n. gather_end (starts_in n) past m)))
        (subst (λ z. Lines v.length v.distance part conflict (λ u. lines_of u past ++ cond (eqb v.slot u) (ofRounds rs) []) (λ n. starts_of n past ++ cond (begins rs n) (v ∷ []) []) z (v.slot + 1) (filter (runs_in v.length (v.slot + 1)) rs))
        (sym (gather_end (λ (x : Moment). cond (ran_by x.answer) (x.before.slot ∷ []) []) past m))
        (lines_slot v.length v.distance part conflict k.fit (λ u. lines_of u past) (λ n. starts_of n past) (slots_of past) v v.running k.lines
        k.inv.long rs last runs (begins rs) new)))
      where
        m : Moment
        m = record { before = v; call = Slot room; answer = Listed (map (line_at v.slot) rs); after = w }

        after : List Moment
        after = more (Slot room) (Listed (map (line_at v.slot) rs)) w

    slot-clock : (room : ℕ) (w : View) (ls : List Line) → Clock first (slots_of (more (Slot room) (Listed ls) w)) (v.slot + 1)
    slot-clock room w ls =
        subst (λ z. Clock first z (v.slot + 1))
        (sym (gather_end (λ (x : Moment). cond (ran_by x.answer) (x.before.slot ∷ []) []) past
        (record { before = v; call = Slot room; answer = Listed ls; after = w }))) (clock_more first v.slot (slots_of past) k.clock)

    -- no round starts: the rounds are those that ran before
    none-begins : (n : ℕ) → begins v.running n ≡ false
    none-begins n =
        rw (count_map (is_line n 0) (line_at v.slot) v.running ∙
        count_none _ v.running (λ r m. old_line v.slot n r (k.inv.rounds.past r m)))

    none-new : (n t : ℕ) → count (is_round n t) v.running ≡ count (is_round n t) v.running + started_at t (cond (begins v.running n) (v ∷ []) [])
    none-new n t = rw (none-begins n) (omega arith)

    -- a slot that starts no round, and leaves the rows t
    unstarted-story : (room n : ℕ) (w : View) (t : List Row) → RowKept n v.rows t →
        Story v.length v.distance n (bookings_of n (more (Slot room) (Listed (ofRounds v.running)) w))
        (releases_of n (more (Slot room) (Listed (ofRounds v.running)) w)) (starts_of n (more (Slot room) (Listed (ofRounds v.running)) w)) v.next t
    unstarted-story room n w t kept =
        story_same v.length v.distance n _ _ _ _ _ _ v.next t
        (gather_quiet (λ (x : Moment). cond (gives n x.answer) (asked x.call) []) past m refl)
        (gather_quiet (releases_in n) past m refl)
        (gather_quiet (starts_in n) past m (rw (none-begins n)))
        (story_kept v.length v.distance n _ _ _ v.next v.next v.rows t (omega arith) kept (k.story n))
      where
        m : Moment
        m = record { before = v; call = Slot room; answer = Listed (map (line_at v.slot) v.running); after = w }

    link-swept : (room : ℕ) → Inv (slot_over (start_with None true v)) →
        Linked (more (Slot room) (Listed (lines_now (start_with None true v))) (slot_over (start_with None true v))) (slot_over (start_with None true v))
    link-swept room i =
        record {
          fit = k.fit;
          inv = i;
          story = λ n.
              unstarted-story room n (slot_over (start_with None true v)) (filter staying v.rows)
              (kept_keep n staying v.rows k.inv.table.unique (λ h f t. leaving_idle h.phase t));
          lines = slot-lines room (slot_over (start_with None true v)) v.running _ (running_same _ _ _ _ v.running k.inv.rounds) none-new;
          clock = slot-clock room _ _;
        }

    link-paused : (room : ℕ) → Inv (slot_over v) → Linked (more (Slot room) (Listed (lines_now v)) (slot_over v)) (slot_over v)
    link-paused room i =
        record {
          fit = k.fit;
          inv = i;
          story = λ n. unstarted-story room n (slot_over v) v.rows (kept_same n v.rows);
          lines = slot-lines room (slot_over v) v.running _ (running_same _ _ _ _ v.running k.inv.rounds) none-new;
          clock = slot-clock room _ _;
        }

    -- the row y starts
    module _ (y : Row) (lead : First waits v.rows y) where
      abbrev round : Round
      round = record { number = y.number; start = v.slot }

      one-begins : (n : ℕ) → begins (v.running ++ (record { number = y.number; start = v.slot } ∷ [])) n ≡ eqb y.number n
      one-begins n =
          ap (leb 1) (count_map (is_line n 0) (line_at v.slot) (v.running ++ (round ∷ [])) ∙
          count-append (λ r. is_line n 0 (line_at v.slot r)) v.running (round ∷ []) ∙
          ap (λ z. z + (cond (is_line n 0 (line_at v.slot round)) 1 0 + 0))
          (count_none (λ r. is_line n 0 (line_at v.slot r)) v.running (λ r m. old_line v.slot n r (k.inv.rounds.past r m)))) ∙
          here (eqb y.number n)
        where
          here : (b : Bool) → leb 1 (0 + (cond (b && eqb (v.slot - v.slot) 0) 1 0 + 0)) ≡ b
          here true = grind (arith, nat_tests)
          here false = refl

      one-new : (n t : ℕ) → count (is_round n t) (v.running ++ (record { number = y.number; start = v.slot } ∷ [])) ≡
          count (is_round n t) v.running + started_at t (cond (begins (v.running ++ (record { number = y.number; start = v.slot } ∷ [])) n) (v ∷ []) [])
      one-new n t =
          count-append (is_round n t) v.running (round ∷ []) ∙
          ap (λ z. count (is_round n t) v.running + z) (here (eqb y.number n)) ∙
          ap (λ b. count (is_round n t) v.running + started_at t (cond b (v ∷ []) [])) (sym (one-begins n))
        where
          here : (b : Bool) → cond (b && eqb v.slot t) 1 0 + 0 ≡ started_at t (cond b (v ∷ []) [])
          here true = refl
          here false = refl

      link-started : (room : ℕ) → free v.distance v.last ≤ v.slot → Inv (slot_over (start_with (Some y) true v)) →
          Linked (more (Slot room) (Listed (lines_now (start_with (Some y) true v))) (slot_over (start_with (Some y) true v))) (slot_over (start_with (Some y) true v))
      link-started room open-now i =
          record {
            fit = k.fit;
            inv = i;
            story = λ n. go n (eqb y.number n) refl;
            lines = slot-lines room (slot_over (start_with (Some y) true v)) (v.running ++ (round ∷ [])) _
                (running_started _ _ _ _ v.running round refl k.inv.long k.inv.spread open-now k.inv.rounds) one-new;
            clock = slot-clock room _ _;
          }
        where
          m : Moment
          m =
              record {
                before = v;
                call = Slot room;
                answer = Listed (lines_now (start_with (Some y) true v));
                after = slot_over (start_with (Some y) true v);
              }

          own_row : row_of y.number v.rows ≡ Some y
          own_row = row_found y.number v.rows k.inv.table.unique y lead.inside refl

          wait : Waited v.length v.distance v.slot v.rows y
          wait = waited v k.inv y lead.inside

          own : StoryAt y.number (more (Slot room) (Listed (lines_now (start_with (Some y) true v))) (slot_over (start_with (Some y) true v)))
              (slot_over (start_with (Some y) true v))
          own =
              let w = wait in
              let l = w.within lead.passes in
              let e = w.ends in
              story_same v.length v.distance y.number _ _ _ _ _ _ v.next (map (start_row y.number) v.rows)
              (gather_quiet (λ (z : Moment). cond (gives y.number z.answer) (asked z.call) []) past m refl)
              (gather_quiet (releases_in y.number) past m refl)
              (gather_end (starts_in y.number) past m ∙
              ap (λ (b : Bool). starts_of y.number past ++ cond b (v ∷ []) []) (one-begins y.number ∙ eq-eqb y.number y.number refl))
              (story_started v.length v.distance y.number v.next _ _ _ v y own_row lead.passes (w.later lead.passes)
              (record { row = y; stands = own_row; longest = w.wait; is_longest = w.is_wait; within = l }) (omega arith) (k.story y.number))

          go : (n : ℕ) (b : Bool) → eqb y.number n ≡ b →
              StoryAt n (more (Slot room) (Listed (lines_now (start_with (Some y) true v))) (slot_over (start_with (Some y) true v)))
              (slot_over (start_with (Some y) true v))
          go n true f =
              subst (λ z. StoryAt z (more (Slot room) (Listed (lines_now (start_with (Some y) true v))) (slot_over (start_with (Some y) true v)))
              (slot_over (start_with (Some y) true v))) (eqb-true y.number n f) own
          go n false f =
              story_same v.length v.distance n _ _ _ _ _ _ v.next (map (start_row y.number) v.rows)
              (gather_quiet (λ (z : Moment). cond (gives n z.answer) (asked z.call) []) past m refl)
              (gather_quiet (releases_in n) past m refl)
              (gather_quiet (starts_in n) past m (ap (λ (b : Bool). cond b (v ∷ []) []) (one-begins n ∙ f)))
              (story_kept v.length v.distance n _ _ _ v.next v.next v.rows (map (start_row y.number) v.rows) (omega arith)
              (kept_map n (start_row y.number) v.rows (λ h. refl)
              (λ h g. (record { period = refl; deadline = refl; earliest = refl }, rw (other-number n y.number h g f))))
              (k.story n))

    -- every call
    pub link_step : (c : Call) → Linked (past ++ (moment v c ∷ [])) (step c v).1
    link_step c =
        by_ways v (λ c a w. Inv w → Linked (past ++ (record { before = v; call = c; answer = a; after = w } ∷ [])) w)
        (record {
          refuses = λ c r i. link-refused c r;
          tries = λ p per dl i. link-tried p per dl;
          books = λ p per dl f l i. link-booked p per dl f i;
          confirms = λ n q e b i. link-confirmed n q e b i;
          withdraws = λ n q e b i. link-withdrawn n q e b i;
          releases = λ n q e o l w i. link-released n q e l w i;
          closes = λ n q e o i. link-closed n i;
          sweeps = λ room l i. link-swept room i;
          starts = λ room y l e i. link-started y l room (may_free v.distance v.last v.slot k.inv.spread e) i;
          pauses = λ room y l e i. link-paused room i;
        })
        c (keeps_inv v k.inv c)
