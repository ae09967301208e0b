-- Whether a query may be leaving, over the changes of a table.
use Rattle.std.proofs.Common.{◌≡◌, ℕ, Bool, true, false, cond, not, ◌&&◌, ◌||◌, List, [], ◌∷◌, ◌++◌, map, is_some, Some, None, filter, Option, sym, refl, ap, ◌∙◌}
use Rattle.engine.specs.Closings.{is_closed, none_closed}
use Rattle.rules.specs.declared.phase.Phase.{Phase}
use Rattle.rules.specs.declared.phase.Phase.TheVariants.{Booked, Ready, Waiting as WaitingSince, Leaving, LeavingWaiting}
use Rattle.rules.specs.declared.row.Row.{Row}
use Rattle.rules.specs.Phases.{is_booked, is_leaving, is_waiting, started}
use Rattle.rules.specs.Rows.{before, better, confirm_row, first_in_rank, has_number, release_row, start_row, staying, waits}
use Rattle.std.proofs.ByRecursion.{all_kept_by, All-map, All-push, All-weaker}
use Rattle.std.proofs.lemmas.Bool.{and_from, and_parts, false≢true}
use Rattle.std.specs.List.{AllByRecursion}

abbrev Unclosed : Row → Type 0
Unclosed h = not (is_closed h.phase) ≡ true

-- closed rows are noted
abbrev pub Noted : Bool → List Row → Type 0
Noted closing rows = (closing || none_closed rows) ≡ true

none_all : (rows : List Row) → none_closed rows ≡ true → AllByRecursion Unclosed rows
none_all [] e = tt
none_all (h ∷ rows) e =
    let parts = and_parts (not (is_closed h.phase)) (none_closed rows) e in
    (parts.0, none_all rows parts.1)

all_none : (rows : List Row) → AllByRecursion Unclosed rows → none_closed rows ≡ true
all_none [] all = refl
all_none (h ∷ rows) all = and_from (not (is_closed h.phase)) (none_closed rows) all.0 (all_none rows all.1)

-- ---- each phase

booked_unclosed : (p : Phase) → is_booked p ≡ true → not (is_closed p) ≡ true
booked_unclosed Booked e = refl
booked_unclosed Ready e = refl
booked_unclosed (WaitingSince r) e = refl
booked_unclosed Leaving e = e
booked_unclosed (LeavingWaiting r) e = e

started_unclosed : (p : Phase) → not (is_closed (started p)) ≡ not (is_closed p)
started_unclosed Booked = refl
started_unclosed Ready = refl
started_unclosed (WaitingSince r) = refl
started_unclosed Leaving = refl
started_unclosed (LeavingWaiting r) = refl

-- a closed row is leaving, or a round of it waits
unclosed_stays : (p : Phase) → not (is_closed p) ≡ true → not (is_leaving p) ≡ true
unclosed_stays Booked e = refl
unclosed_stays Ready e = refl
unclosed_stays (WaitingSince r) e = refl
unclosed_stays Leaving e = e
unclosed_stays (LeavingWaiting r) e = refl

quiet_unclosed : (p : Phase) → is_waiting p ≡ false → not (is_leaving p) ≡ true → not (is_closed p) ≡ true
quiet_unclosed Booked w s = refl
quiet_unclosed Ready w s = refl
quiet_unclosed (WaitingSince r) w s = refl
quiet_unclosed Leaving w s = s
quiet_unclosed (LeavingWaiting r) w s = sym w

-- ---- calls that close no row

module _ (closing : Bool) (rows : List Row) (was : Noted closing rows) where
  noted_by : (rows' : List Row) → (AllByRecursion Unclosed rows → AllByRecursion Unclosed rows') → Noted closing rows'
  noted_by rows' keep = go closing was
    where
      go : (b : Bool) → Noted b rows → Noted b rows'
      go true e = refl
      go false e = all_none rows' (keep (none_all rows e))

  pub noted_entered : (x : Row) → is_booked x.phase ≡ true → Noted closing (rows ++ x ∷ [])
  noted_entered x booked = noted_by (rows ++ x ∷ []) (λ a. All-push Unclosed rows x a (booked_unclosed x.phase booked))

  pub noted_kept : (p : Row → Bool) → Noted closing (filter p rows)
  noted_kept p = noted_by (filter p rows) (all_kept_by p Unclosed rows)

  noted_map : (u : Row → Row) → ((h : Row) → Unclosed h → Unclosed (u h)) → Noted closing (map u rows)
  noted_map u keep = noted_by (map u rows) (λ a. All-map Unclosed u rows (All-weaker Unclosed (λ h. Unclosed (u h)) keep rows a))

  pub noted_confirmed : (n : ℕ) → Noted closing (map (confirm_row n) rows)
  noted_confirmed n = noted_map (confirm_row n) (λ h. go h (has_number n h))
    where
      go : (h : Row) (b : Bool) → Unclosed h → not (is_closed (cond b Ready h.phase)) ≡ true
      go h true e = refl
      go h false e = e

  pub noted_released : (s n : ℕ) → Noted closing (map (release_row s n) rows)
  noted_released s n = noted_map (release_row s n) (λ h. go h (has_number n h))
    where
      go : (h : Row) (b : Bool) → Unclosed h → not (is_closed (cond b (WaitingSince s) h.phase)) ≡ true
      go h true e = refl
      go h false e = e

  pub noted_started : (n : ℕ) → Noted closing (map (start_row n) rows)
  noted_started n = noted_map (start_row n) (λ h. go h (has_number n h))
    where
      go : (h : Row) (b : Bool) → Unclosed h → not (is_closed (cond b (started h.phase) h.phase)) ≡ true
      go h true e = started_unclosed h.phase ∙ e
      go h false e = e

-- ---- the sweep

-- it keeps every row where none is closed
pub none_swept : (closing : Bool) (rows : List Row) → closing ≡ false → Noted closing rows → rows ≡ filter staying rows
none_swept true rows off e = absurd (false≢true (sym off))
none_swept false rows off e = go rows (none_all rows e)
  where
    go : (rows : List Row) → AllByRecursion Unclosed rows → rows ≡ filter staying rows
    go [] all = refl
    go (h ∷ rows) all = rw (unclosed_stays h.phase all.0) (ap (λ l. h ∷ l) (go rows all.1))

quiet_row : (h : Row) (o : Option Row) → better waits h o ≡ None → (waits h ≡ false) × (o ≡ None)
quiet_row h None e = (go (waits h) e, refl)
  where
    go : (b : Bool) → cond b (Some h) None ≡ None → b ≡ false
    go true e = ap is_some e
    go false e = refl
quiet_row h (Some y) e = absurd (go (waits h && before h y) e)
  where
    go : (b : Bool) → cond b (Some h) (Some y) ≡ None → ⊥
    go true e = false≢true (sym (ap is_some e))
    go false e = false≢true (sym (ap is_some e))

-- where no round waits, no closed row is left
pub swept_none : (rows : List Row) → first_in_rank waits rows ≡ None → none_closed (filter staying rows) ≡ true
swept_none [] e = refl
swept_none (h ∷ rows) e =
    let quiet = quiet_row h (first_in_rank waits rows) e in
    go (staying h) refl quiet.0 (swept_none rows quiet.1)
  where
    go : (b : Bool) → staying h ≡ b → waits h ≡ false → none_closed (filter staying rows) ≡ true
        → none_closed (cond b (h ∷ filter staying rows) (filter staying rows)) ≡ true
    go true s w rest = and_from (not (is_closed h.phase)) _ (quiet_unclosed h.phase w s) rest
    go false s w rest = rest

pub swept_noted : (waited : Bool) (rows : List Row) → (waited ≡ false → first_in_rank waits rows ≡ None) → Noted waited (filter staying rows)
swept_noted true rows quiet = refl
swept_noted false rows quiet = swept_none rows (quiet refl)
