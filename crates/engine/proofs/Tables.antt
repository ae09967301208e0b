-- A table as the list of its rows, with the queue of the rounds that wait: what each call makes of the two.
use Rattle.std.proofs.Common.{◌≡◌, ℕ, ◌<◌, ◌≤◌, Bool, true, false, not, eqb, ltb, List, [], ◌∷◌, ◌++◌, map, length, is_some, Some, None, filter, Option, sym, refl, ap, ◌∙◌, subst, arith}
use Rattle.engine.specs.declared.table.Table.{Table}
use Rattle.engine.specs.declared.waiting.Waiting.{Waiting}
use Rattle.engine.specs.Entries.{entry_of, sooner, waiting_of}
use Rattle.engine.specs.Rising.{Rising}
use Rattle.engine.specs.Views.{rows_of}
use Rattle.engine.proofs.Closings.{Noted, noted_confirmed, noted_entered, noted_kept, noted_released, noted_started, swept_noted}
use Rattle.engine.proofs.Entries.{book_waiting, booked_waits, close_waiting, confirm_waiting, first_none, first_some, release_waiting, start_first, sweep_waiting, withdraw_waiting}
use Rattle.engine.proofs.Numbers.{rising_kept, rising_map, rising_push}
use Rattle.queue.proofs.Ranked.{length-placed, length-ranked}
use Rattle.queue.specs.Ranked.{placed, ranked}
use Rattle.rules.specs.declared.refusal.Refusal.{Refusal}
use Rattle.rules.specs.declared.refusal.Refusal.TheVariants.{NotOpen, TooEarly, RoundWaits}
use Rattle.rules.specs.declared.row.Row.{Row}
use Rattle.rules.specs.Phases.{is_booked, is_open}
use Rattle.rules.specs.Rows.{close_row, confirm_row, first_in_rank, other_than, release_row, row_of, start_row, staying, waits}
use Rattle.rules.specs.Rules.{release_refusal, unless_booked, when}
use Rattle.routing.specs.Search.{or_else}
use Rattle.std.proofs.lemmas.List.Filters.{length-filter_both}
use Rattle.std.proofs.lemmas.List.{length-map}
use Rattle.std.proofs.lemmas.Bool.{ne_eqb, not-false}
use Rattle.std.specs.List.{AllByRecursion}

-- ---- refusals

when_none : (b : Bool) (r : Refusal) → when b r ≡ None → b ≡ false
when_none true r e = let z : ◌≡◌ {A = ℕ} 0 1 = cc in absurd (omega arith)
when_none false r e = refl

or_none : (a b : Option Refusal) → or_else a b ≡ None → (a ≡ None) × (b ≡ None)
or_none None b e = (refl, e)
or_none (Some r) b e = let z : ◌≡◌ {A = ℕ} 0 1 = cc in absurd (omega arith)

-- a row that may be released does not wait
released_still : (q : Row) (slot : ℕ) → release_refusal (Some q) slot ≡ None → waits q ≡ false
released_still q slot fine =
    let later = or_none (when (not (is_open q.phase)) NotOpen) (or_else (when (ltb slot q.earliest) TooEarly) (when (waits q) RoundWaits)) fine in
    when_none (waits q) RoundWaits (or_none (when (ltb slot q.earliest) TooEarly) (when (waits q) RoundWaits) later.1).1

-- ---- the facts of a table

-- the numbers of the rows rise, the queue is that of the rows that wait, and closed rows are noted
pub record Held (closing : Bool) (rows : List Row) (queue : List Waiting) : Type 0 where
  pub rising : Rising rows
  pub queued : queue ≡ ranked sooner (waiting_of rows)
  pub noted : Noted closing rows

-- the same, as a table has it
abbrev pub Facts : Bool → List Row → List Waiting → Type 0
Facts closing rows queue =
    record { rising : Rising rows; queued : queue ≡ ranked sooner (waiting_of rows); noted : Noted closing rows }

-- the facts of rows that are these
pub facts : {closing : Bool} {rows after : List Row} {queue : List Waiting} → after ≡ rows → Held closing rows queue → Facts closing after queue
facts {closing} {rows} {after} {queue} e h =
    let here = subst (λ l. Held closing l queue) (sym e) h in
    record { rising = here.rising; queued = here.queued; noted = here.noted }

pub table_held : (t : Table) → Held t.closing (rows_of t) t.waiting
table_held t = record { rising = t.rising; queued = t.queued; noted = t.noted }

-- no more rounds wait than there are rows
pub held_short : {closing : Bool} (rows : List Row) (queue : List Waiting) → Held closing rows queue → length queue ≤ length rows
held_short rows queue h =
    let long : length queue ≡ length (filter waits rows) =
    ap length h.queued ∙ length-ranked sooner (waiting_of rows) ∙ length-map (filter waits rows) entry_of in
    let some = length-filter_both waits (λ q. not (waits q)) (λ q. refl) rows in
    omega arith

-- ---- a table after a call

module _ {closing : Bool} (rows : List Row) (queue : List Waiting) (h : Held closing rows queue) where
  pub held_entered : (x : Row) → AllByRecursion (λ q. q.number < x.number) rows → is_booked x.phase ≡ true → Held closing (rows ++ x ∷ []) queue
  held_entered x above booked = record {
    rising = rising_push rows x above h.rising;
    queued = h.queued ∙ ap (ranked sooner) (sym (book_waiting rows x (booked_waits x.phase booked)));
    noted = noted_entered closing rows h.noted x booked;
  }

  -- where no round waits, no closed row is left
  pub held_swept : (waited : Bool) → (waited ≡ false → first_in_rank waits rows ≡ None) → Held waited (filter staying rows) queue
  held_swept waited quiet = record {
    rising = rising_kept staying rows h.rising;
    queued = h.queued ∙ ap (ranked sooner) (sym (sweep_waiting rows));
    noted = swept_noted waited rows quiet;
  }

  pub held_withdrawn : (n : ℕ) (q : Row) → row_of n rows ≡ Some q → is_booked q.phase ≡ true → Held closing (filter (other_than n) rows) queue
  held_withdrawn n q e booked = record {
    rising = rising_kept (other_than n) rows h.rising;
    queued = h.queued ∙ ap (ranked sooner) (sym (withdraw_waiting n rows q h.rising e booked));
    noted = noted_kept closing rows h.noted (other_than n);
  }

  pub held_confirmed : (n : ℕ) (q : Row) → row_of n rows ≡ Some q → unless_booked (Some q) ≡ None → Held closing (map (confirm_row n) rows) queue
  held_confirmed n q e fine = record {
    rising = rising_map (confirm_row n) (λ _. refl) rows h.rising;
    queued = h.queued ∙ ap (ranked sooner) (sym (confirm_waiting n rows q h.rising e (not-false (is_booked q.phase) (when_none _ _ fine))));
    noted = noted_confirmed closing rows h.noted n;
  }

  pub held_closed : (n : ℕ) → Held true (map (close_row n) rows) queue
  held_closed n = record {
    rising = rising_map (close_row n) (λ _. refl) rows h.rising;
    queued = h.queued ∙ ap (ranked sooner) (sym (close_waiting n rows));
    noted = refl;
  }

  pub held_released : (n slot : ℕ) (q : Row) → row_of n rows ≡ Some q → release_refusal (Some q) slot ≡ None
      → Held closing (map (release_row slot n) rows) (placed sooner (entry_of q) queue)
  held_released n slot q e fine = record {
    rising = rising_map (release_row slot n) (λ _. refl) rows h.rising;
    queued =
        ap (placed sooner (entry_of q)) h.queued
        ∙ sym (release_waiting n rows q h.rising e slot (released_still q slot fine));
    noted = noted_released closing rows h.noted slot n;
  }

  -- the queue has room for the round
  pub room_released : (n slot : ℕ) (q : Row) → row_of n rows ≡ Some q → release_refusal (Some q) slot ≡ None → length queue < length rows
  room_released n slot q e fine =
      let short = held_short _ _ (held_released n slot q e fine) in
      let more = length-placed sooner (entry_of q) queue in
      let long = length-map rows (release_row slot n) in
      omega arith

-- the first round of the queue is that of the row that ranks first
pub queue_first : (rows : List Row) (x : Waiting) (rest : List Waiting) → x ∷ rest ≡ ranked sooner (waiting_of rows)
    → (y : Row) × (first_in_rank waits rows ≡ Some y) × (y.number ≡ x.number)
queue_first rows x rest queued =
    let found = first_some rows x rest (sym queued) in
    (found.0, found.1, ap (λ (z : Waiting). z.number) found.2)

pub queue_quiet : (rows : List Row) (queue : List Waiting) → queue ≡ ranked sooner (waiting_of rows)
    → eqb (length queue) 0 ≡ not (is_some (first_in_rank waits rows))
queue_quiet rows [] queued = rw (first_none rows (sym queued)) refl
queue_quiet rows (x ∷ rest) queued =
    rw (queue_first rows x rest queued).1 (ne_eqb (length (x ∷ rest)) 0 (λ e. omega arith))

-- and it starts
pub held_started : {closing : Bool} (rows : List Row) (x : Waiting) (rest : List Waiting) → Held closing rows (x ∷ rest)
    → Held closing (map (start_row x.number) rows) rest
held_started {closing} rows x rest h =
    let y = queue_first rows x rest h.queued in
    let left = start_first rows y.0 x rest h.rising y.1 (sym h.queued) in
    record {
      rising = rising_map (start_row x.number) (λ _. refl) rows h.rising;
      queued = sym left.1 ∙ ap (λ n. ranked sooner (waiting_of (map (start_row n) rows))) y.2;
      noted = noted_started closing rows h.noted x.number;
    }
