-- The laws of waits, admission and lines.
use Rattle.std.proofs.Common.{◌≡◌, ℕ, suc, ◌+◌, ◌-◌, ◌*◌, ◌/◌, ◌≤◌, Bool, true, false, not, ◌⊎◌, List, [], ◌∷◌, ◌++◌, map, length, Some, None, Option, refl, ap, ◌∙◌, subst, inl, inr, zero-le, le-div_iff_mul-le, arith}
use Rattle.std.proofs.lemmas.Bool.{both_ways, not-true, cases_Bool}
use Rattle.rules.specs.declared.refusal.Refusal.{Refusal}
use Rattle.rules.specs.declared.round.Round.{Round}
use Rattle.rules.specs.declared.row.Row.{Row}
use Rattle.rules.specs.Lists.{◌∈◌}
use Rattle.rules.specs.Rows.{booked_row, before, waits, first_in_rank}
use Rattle.rules.specs.Waits.{IsWait, keeps, first_late}
use Rattle.rules.specs.Rules.{View, opened, book_refusal, book_with, trial_with, may_start, start_with, start_any, slot_over, lines_now, line_at, most_lines, wait_in, or_not_in_table}
use Rattle.rules.specs.Runs.{last_view}
use Rattle.rules.specs.Laws.{KeepsDeadline, NamesFirst, WaitLeast, WaitFound, Admission, TrialSame, WaitAnswered, LinesFit}
use Rattle.rules.proofs.Ranks.{Leads, first_leads}
use Rattle.rules.proofs.Waiting.{wait_found, wait_is, keeps_wait, wait_keeps}
use Rattle.rules.proofs.Invariant.{free, Spaced, Rounds}
use Rattle.rules.proofs.Running.{Running, running_same, running_started, running_over}
use Rattle.rules.proofs.Starts.{may_free}
use Rattle.rules.proofs.States.{opened_inv, keeps_run, waited}
use Rattle.rules.proofs.RowsOf.{row_found}
use Rattle.rules.proofs.Keeping.{last_plan}

pub wait_least : WaitLeast
wait_least = wait_found

pub wait_found_all : WaitFound
wait_found_all = wait_is

kept_deadline : (L Δ : ℕ) (rows : List Row) (q : Row) → keeps L Δ rows q ≡ true → KeepsDeadline L Δ rows q
kept_deadline L Δ rows q e = let o = keeps_wait L Δ rows q e in record { longest = o.0; is_longest = o.1; ends = o.2 }

pub admission : Admission
admission L Δ rows small = go (first_late L Δ rows) (first_leads (λ q. not (keeps L Δ rows q)) rows)
  where
    or-late : (h : Row) → (not (keeps L Δ rows h) ≡ true → ⊥) → KeepsDeadline L Δ rows h
    or-late h k = kept_deadline L Δ rows h (yes-or (cases_Bool (keeps L Δ rows h)))
      where
        yes-or : (keeps L Δ rows h ≡ true) ⊎ (keeps L Δ rows h ≡ false) → keeps L Δ rows h ≡ true
        yes-or (inl e) = e
        yes-or (inr e) = absurd (k (ap not e))

    go : (o : Option Row) → Leads (λ q. not (keeps L Δ rows q)) rows o → NamesFirst L Δ rows o
    go None k = λ q m. or-late q (k q m)
    go (Some y) k = (
      k.inside,
      λ d. both_ways (keeps L Δ rows y) (not-true (keeps L Δ rows y) k.passes) (wait_keeps L Δ rows y d.longest (small y k.inside) d.is_longest d.ends),
      λ h m b. or-late h (λ e. both_ways (before h y) (k.leads h m e) b),
    )

pub trial_same : TrialSame
trial_same priority period deadline v = go (book_refusal (booked_row v.next priority period deadline) v)
  where
    go : (o : Option Refusal) →
        ((trial_with o v).0 ≡ (book_with o (booked_row v.next priority period deadline) v).0) × ((trial_with o v).1 ≡ v)
    go (Some r) = (refl, refl)
    go None = (refl, refl)

pub wait_answered : WaitAnswered
wait_answered L Δ first long spread calls q m =
    let v = last_view (opened L Δ first) calls in
    let k = keeps_run calls (opened L Δ first) (opened_inv L Δ first long spread) in
    let same = last_plan calls (opened L Δ first) in
    let w = waited v k q m in
    let s = k.table.sound q m in
    let a = s.short in
    let b = s.small in
    let e = w.ends in
    let f = row_found q.number v.rows k.table.unique q m refl in
    let g = wait_is v.distance v.rows q w.wait w.is_wait (omega arith) in
    (w.wait, ap (λ o. wait_in o v) f ∙ ap or_not_in_table g, subst (λ d. IsWait d v.rows q w.wait) same.1 w.is_wait, omega (arith, same.0))

-- rounds d apart that all run in slot s are few
few_from : (L d s x : ℕ) (rs : List Round) → Spaced d rs → ((r : Round) → r ∈ rs → r.start ≤ s) → ((r : Round) → r ∈ rs → x ≤ r.start) →
    (length rs ≡ 0) ⊎ (x + length rs * d ≤ s + d)
few_from L d s x [] spaced begun low = inl refl
few_from L d s x (r ∷ rs) spaced begun low =
    inr (go (few_from L d s (x + d) rs spaced.1 (λ k m. begun k (inr m)) (λ k m. let a = spaced.0 k m in let b = low r (inl refl) in omega arith)))
  where
    go : (length rs ≡ 0) ⊎ (x + d + length rs * d ≤ s + d) → x + suc (length rs) * d ≤ s + d
    go (inl z) = let a = low r (inl refl) in let b = begun r (inl refl) in rw z (omega arith)
    go (inr l) = omega arith

pub running_few : (L d s n : ℕ) (rs : List Round) → 1 ≤ d → Running L d s n rs → length rs ≤ (L + (d - 1)) / d
running_few L d s n [] spread k = zero-le
running_few L d s n (r ∷ rs) spread k =
    (le-div_iff_mul-le spread).1
    (go (few_from L d s r.start (r ∷ rs) k.spaced k.begun (λ j m. elim m [ inl e ↦ let f : j.start ≡ r.start = ap (λ (z : Round). z.start) e in omega arith | inr i ↦ let a = k.spaced.0 j i in omega arith ])))
  where
    go : (suc (length rs) ≡ 0) ⊎ (r.start + suc (length rs) * d ≤ s + d) → suc (length rs) * d ≤ L + (d - 1)
    go (inl z) = absurd (omega arith)
    go (inr l) = let a = k.live r (inl refl) in omega arith

length_lines : (s : ℕ) (rs : List Round) → length (map (line_at s) rs) ≡ length rs
length_lines s [] = refl
length_lines s (r ∷ rs) = ap suc (length_lines s rs)

-- what a view says of its running rounds
abbrev pub RoundsOf : View → Type 0
RoundsOf v = Rounds v.length v.distance v.slot (free v.distance v.last) v.running

-- the lines of a slot have room
pub lines_few : (v : View) → 1 ≤ v.length → 1 ≤ v.distance → RoundsOf v → length (lines_now (start_any v)) ≤ most_lines v
lines_few v long spread k = go (first_in_rank waits v.rows) (may_start v.distance v.last v.slot) refl
  where
    go : (o : Option Row) (b : Bool) → may_start v.distance v.last v.slot ≡ b → length (lines_now (start_with o b v)) ≤ most_lines v
    go None b e = rw (length_lines v.slot v.running) (running_few _ _ _ _ v.running spread (running_same _ _ _ _ v.running k))
    go (Some y) false e = rw (length_lines v.slot v.running) (running_few _ _ _ _ v.running spread (running_same _ _ _ _ v.running k))
    go (Some y) true e =
        rw (length_lines v.slot (v.running ++ (record { number = y.number; start = v.slot } ∷ [])))
        (running_few _ _ _ _ _ spread
        (running_started _ _ _ _ v.running (record { number = y.number; start = v.slot }) refl long spread
        (may_free _ v.last v.slot spread e) k))

-- and a slot keeps that
pub rounds_slot : (v : View) → 1 ≤ v.length → 1 ≤ v.distance → RoundsOf v → RoundsOf (slot_over (start_any v))
rounds_slot v long spread k = go (first_in_rank waits v.rows) (may_start v.distance v.last v.slot) refl
  where
    go : (o : Option Row) (b : Bool) → may_start v.distance v.last v.slot ≡ b → RoundsOf (slot_over (start_with o b v))
    go None b e = running_over _ _ _ _ v.running (running_same _ _ _ _ v.running k)
    go (Some y) false e = running_over _ _ _ _ v.running (running_same _ _ _ _ v.running k)
    go (Some y) true e =
        running_over _ _ _ _ _
        (running_started _ _ _ _ v.running (record { number = y.number; start = v.slot }) refl long spread (may_free _ v.last v.slot spread e) k)

pub lines_fit : LinesFit
lines_fit L Δ first long spread calls =
    let k = keeps_run calls (opened L Δ first) (opened_inv L Δ first long spread) in
    lines_few (last_view (opened L Δ first) calls) k.long k.spread k.rounds
