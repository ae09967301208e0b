-- The entries of the rows that wait, over the changes of a table.
use Rattle.std.proofs.Common.{◌≡◌, ℕ, Bool, true, false, cond, not, ◌&&◌, List, [], ◌∷◌, ◌++◌, map, length, Some, None, filter, Option, sym, refl, ap, ◌∙◌, subst, arith}
use Rattle.engine.specs.declared.waiting.Waiting.{Waiting}
use Rattle.engine.specs.Entries.{entry_of, sooner, waiting_of}
use Rattle.engine.specs.Rising.{Rising}
use Rattle.engine.proofs.Numbers.{each_row, past_number, rising_unique}
use Rattle.queue.proofs.Ranked.{placed_first, ranked_in_order, ranked_shuffled, shuffled_placed}
use Rattle.queue.specs.Heap.{First}
use Rattle.queue.specs.Order.{Order}
use Rattle.queue.specs.Ranked.{InOrder, placed, ranked}
use Rattle.rules.specs.declared.phase.Phase.{Phase}
use Rattle.rules.specs.declared.phase.Phase.TheVariants.{Booked, Ready, Waiting as WaitingSince, Leaving, LeavingWaiting}
use Rattle.rules.specs.declared.row.Row.{Row}
use Rattle.rules.specs.Phases.{closed, is_booked, is_leaving, is_waiting, started}
use Rattle.rules.specs.Rows.{before, better, close_row, confirm_row, first_in_rank, has_number, other_than, release_row, row_of, start_row, staying, waits}
use Rattle.rules.proofs.Ranks.{Leads, first_leads}
use Rattle.rules.proofs.RowsOf.{none_some, row_found, some_row}
use Rattle.rules.proofs.Steps.{row_of_is}
use Rattle.std.proofs.lemmas.List.Elements.{filter-append}
use Rattle.std.proofs.ByRecursion.{All-weaker, all_shuffled}
use Rattle.std.proofs.lemmas.List.{append-nil}
use Rattle.std.proofs.lemmas.List.Sorted.{IsPermutation-swap, IsPermutation-sym}
use Rattle.std.proofs.lemmas.Bool.{eq-eqb, false≢true}
use Rattle.std.proofs.lemmas.Bool.Decides.{nat_tests}
use Rattle.std.specs.List.{AllByRecursion}

-- ---- the rank of entries

same_entry : (x y : Waiting) → x.priority ≡ y.priority → x.number ≡ y.number → x ≡ y
same_entry x y p n = λ i. record { priority = p i; number = n i }

pub sooner_order : Order sooner
sooner_order = record {
  asymmetric = λ x y e. grind (arith, nat_tests);
  chain = λ x y z a b. grind (arith, nat_tests);
  total = λ x y a b. same_entry x y (grind (arith, nat_tests)) (grind (arith, nat_tests));
}

sooner_self : (x : Waiting) → sooner x x ≡ false
sooner_self x = grind (arith, nat_tests)

placed_swap : (x y : Waiting) (zs : List Waiting) → placed sooner x (placed sooner y (ranked sooner zs)) ≡ placed sooner y (placed sooner x (ranked sooner zs))
placed_swap x y zs =
    ranked_shuffled sooner sooner_order (x ∷ y ∷ zs) (y ∷ x ∷ zs)
    (IsPermutation-swap (x ∷ y ∷ zs) (y ∷ x ∷ zs) 0 1 (omega arith) (omega arith) refl)

-- ---- the row that ranks first and the entry that ranks first

-- the row is that of the first entry, and there is none where there is no entry
abbrev pub Agrees : Option Row → List Waiting → Type 0
Agrees None es = es ≡ []
Agrees (Some y) es = (rest : List Waiting) × (es ≡ entry_of y ∷ rest)

agrees_more : (h : Row) (o : Option Row) (es : List Waiting) (b : Bool) → waits h ≡ b → Agrees o es
    → Agrees (better waits h o) (cond b (placed sooner (entry_of h) es) es)
agrees_more h None es true w e = rw w ([], rw e)
agrees_more h None es false w e = rw w e
agrees_more h (Some y) es true w e = rw w (go (before h y) refl)
  where
    go : (b : Bool) → before h y ≡ b → Agrees (cond b (Some h) (Some y)) (placed sooner (entry_of h) es)
    go true t = (entry_of y ∷ e.0, ap (placed sooner (entry_of h)) e.1 ∙ rw t)
    go false t = (placed sooner (entry_of h) e.0, ap (placed sooner (entry_of h)) e.1 ∙ rw t)
agrees_more h (Some y) es false w e = rw w e

pub first_agrees : (rows : List Row) → Agrees (first_in_rank waits rows) (ranked sooner (waiting_of rows))
first_agrees [] = refl
first_agrees (h ∷ rows) = go (waits h) refl (agrees_more h (first_in_rank waits rows) (ranked sooner (waiting_of rows)) (waits h) refl (first_agrees rows))
  where
    go : (b : Bool) → waits h ≡ b
        → Agrees (better waits h (first_in_rank waits rows)) (cond b (placed sooner (entry_of h) (ranked sooner (waiting_of rows))) (ranked sooner (waiting_of rows)))
        → Agrees (better waits h (first_in_rank waits rows)) (ranked sooner (map entry_of (cond b (h ∷ filter waits rows) (filter waits rows))))
    go true w a = a
    go false w a = a

pub first_none : (rows : List Row) → ranked sooner (waiting_of rows) ≡ [] → first_in_rank waits rows ≡ None
first_none rows empty = go (first_in_rank waits rows) (first_agrees rows)
  where
    go : (o : Option Row) → Agrees o (ranked sooner (waiting_of rows)) → o ≡ None
    go None agrees = refl
    go (Some y) agrees = let long = ap length (sym empty ∙ agrees.1) in absurd (omega arith)

pub first_some : (rows : List Row) (x : Waiting) (rest : List Waiting) → ranked sooner (waiting_of rows) ≡ x ∷ rest
    → (y : Row) × (first_in_rank waits rows ≡ Some y) × (entry_of y ≡ x)
first_some rows x rest some = go (first_in_rank waits rows) refl (first_agrees rows)
  where
    go : (o : Option Row) → first_in_rank waits rows ≡ o → Agrees o (ranked sooner (waiting_of rows))
        → (y : Row) × (first_in_rank waits rows ≡ Some y) × (entry_of y ≡ x)
    go None e a = let long = ap length (sym some ∙ a) in absurd (omega arith)
    go (Some y) e a = (y, e, cc)

-- ---- the entries of the rows that pass a test

abbrev entries_by : (Row → Bool) → List Row → List Waiting
entries_by test rows = map entry_of (filter test rows)

entries_some : (test : Row → Bool) (h : Row) (rows : List Row) → test h ≡ true → entries_by test (h ∷ rows) ≡ entry_of h ∷ entries_by test rows
entries_some test h rows e = rw e

entries_none : (test : Row → Bool) (h : Row) (rows : List Row) → test h ≡ false → entries_by test (h ∷ rows) ≡ entries_by test rows
entries_none test h rows e = rw e

entries_same : (p r : Row → Bool) (rows : List Row) → AllByRecursion (λ h. p h ≡ r h) rows → entries_by p rows ≡ entries_by r rows
entries_same p r [] alike = refl
entries_same p r (h ∷ rows) alike = rw alike.0 (go (r h) (entries_same p r rows alike.1))
  where
    go : (b : Bool) → entries_by p rows ≡ entries_by r rows
        → map entry_of (cond b (h ∷ filter p rows) (filter p rows)) ≡ map entry_of (cond b (h ∷ filter r rows) (filter r rows))
    go true e = ap (λ es. entry_of h ∷ es) e
    go false e = e

-- the row of n passes the second test and not the first; the two agree on every other row
module _ (p r : Row → Bool) (n : ℕ) (q : Row) (low : p q ≡ false) (high : r q ≡ true) (alike : (h : Row) → has_number n h ≡ false → p h ≡ r h) where
  entries_more : (rows : List Row) → Rising rows → row_of n rows ≡ Some q
      → ranked sooner (entries_by r rows) ≡ placed sooner (entry_of q) (ranked sooner (entries_by p rows))
  entries_more [] up e = absurd (none_some q e)
  entries_more (h ∷ rows) up e = go (λ f. entries_more rows up.1 f) (has_number n h) refl e
    where
      other : (b : Bool) → r h ≡ b → p h ≡ b
          → ranked sooner (entries_by r rows) ≡ placed sooner (entry_of q) (ranked sooner (entries_by p rows))
          → ranked sooner (entries_by r (h ∷ rows)) ≡ placed sooner (entry_of q) (ranked sooner (entries_by p (h ∷ rows)))
      other true t s rest =
          ap (ranked sooner) (entries_some r h rows t) ∙ ap (placed sooner (entry_of h)) rest
          ∙ placed_swap (entry_of h) (entry_of q) (entries_by p rows)
          ∙ ap (λ es. placed sooner (entry_of q) (ranked sooner es)) (sym (entries_some p h rows s))
      other false t s rest =
          ap (ranked sooner) (entries_none r h rows t) ∙ rest
          ∙ ap (λ es. placed sooner (entry_of q) (ranked sooner es)) (sym (entries_none p h rows s))

      go : (row_of n rows ≡ Some q → ranked sooner (entries_by r rows) ≡ placed sooner (entry_of q) (ranked sooner (entries_by p rows)))
          → (b : Bool) → has_number n h ≡ b → cond b (Some h) (row_of n rows) ≡ Some q
          → ranked sooner (entries_by r (h ∷ rows)) ≡ placed sooner (entry_of q) (ranked sooner (entries_by p (h ∷ rows)))
      go rest true k f =
          let same : h ≡ q = some_row h q f in
          let later = entries_same p r rows (All-weaker (λ z. has_number n z ≡ false) (λ z. p z ≡ r z) alike rows (past_number n h rows k up.0)) in
          ap (ranked sooner) (entries_some r h rows (ap r same ∙ high))
          ∙ ap (λ (z : Row). placed sooner (entry_of z) (ranked sooner (entries_by r rows))) same
          ∙ ap (λ es. placed sooner (entry_of q) (ranked sooner es)) (sym (entries_none p h rows (ap p same ∙ low) ∙ later))
      go rest false k f = other (r h) refl (alike h k) (rest f)

-- ---- the entries of a changed table, by a test on the rows as they were

waiting_map : (u : Row → Row) → ((h : Row) → entry_of (u h) ≡ entry_of h) → (rows : List Row) → waiting_of (map u rows) ≡ entries_by (λ h. waits (u h)) rows
waiting_map u same [] = refl
waiting_map u same (h ∷ rows) = go (waits (u h)) (waiting_map u same rows)
  where
    go : (b : Bool) → waiting_of (map u rows) ≡ entries_by (λ h. waits (u h)) rows
        → map entry_of (cond b (u h ∷ filter waits (map u rows)) (filter waits (map u rows)))
        ≡ map entry_of (cond b (h ∷ filter (λ h. waits (u h)) rows) (filter (λ h. waits (u h)) rows))
    go true e = ap (λ x. x ∷ waiting_of (map u rows)) (same h) ∙ ap (λ es. entry_of h ∷ es) e
    go false e = e

waiting_kept : (p : Row → Bool) (rows : List Row) → waiting_of (filter p rows) ≡ entries_by (λ h. p h && waits h) rows
waiting_kept p [] = refl
waiting_kept p (h ∷ rows) = go (p h) (waits h) refl (waiting_kept p rows)
  where
    go : (b w : Bool) → waits h ≡ w → waiting_of (filter p rows) ≡ entries_by (λ h. p h && waits h) rows
        → waiting_of (cond b (h ∷ filter p rows) (filter p rows))
        ≡ map entry_of (cond (b && waits h) (h ∷ filter (λ h. p h && waits h) rows) (filter (λ h. p h && waits h) rows))
    go true true t e = rw t (ap (λ es. entry_of h ∷ es) e)
    go true false t e = rw t e
    go false w t e = e

-- ---- what waits in each phase

started_waits : (p : Phase) → is_waiting (started p) ≡ false
started_waits Booked = refl
started_waits Ready = refl
started_waits (WaitingSince r) = refl
started_waits Leaving = refl
started_waits (LeavingWaiting r) = refl

pub booked_waits : (p : Phase) → is_booked p ≡ true → is_waiting p ≡ false
booked_waits Booked e = refl
booked_waits Ready e = refl
booked_waits (WaitingSince r) e = absurd (false≢true e)
booked_waits Leaving e = refl
booked_waits (LeavingWaiting r) e = absurd (false≢true e)

closed_waits : (p : Phase) → is_waiting (closed p) ≡ is_waiting p
closed_waits Booked = refl
closed_waits Ready = refl
closed_waits (WaitingSince r) = refl
closed_waits Leaving = refl
closed_waits (LeavingWaiting r) = refl

leaving_waits : (p : Phase) → (not (is_leaving p) && is_waiting p) ≡ is_waiting p
leaving_waits Booked = refl
leaving_waits Ready = refl
leaving_waits (WaitingSince r) = refl
leaving_waits Leaving = refl
leaving_waits (LeavingWaiting r) = refl

all_rows : (P : Row → Type 0) → ((h : Row) → P h) → (rows : List Row) → AllByRecursion P rows
all_rows P k [] = tt
all_rows P k (h ∷ rows) = (k h, all_rows P k rows)

-- ---- what each call makes of the entries

module _ (n : ℕ) (rows : List Row) (q : Row) (up : Rising rows) (e : row_of n rows ≡ Some q) where
  named : has_number n q ≡ true
  named = eq-eqb q.number n (row_of_is n rows q e).1

  -- the row of n starts: its entry goes
  pub start_waiting : waits q ≡ true → ranked sooner (waiting_of rows) ≡ placed sooner (entry_of q) (ranked sooner (waiting_of (map (start_row n) rows)))
  start_waiting w =
      entries_more (λ h. waits (start_row n h)) waits n q
      (ap (λ b. is_waiting (cond b (started q.phase) q.phase)) named ∙ started_waits q.phase) w
      (λ h k. ap (λ b. is_waiting (cond b (started h.phase) h.phase)) k) rows up e
      ∙ ap (λ es. placed sooner (entry_of q) (ranked sooner es)) (sym (waiting_map (start_row n) (λ h. refl) rows))

  -- it is released: its entry comes
  pub release_waiting : (s : ℕ) → waits q ≡ false → ranked sooner (waiting_of (map (release_row s n) rows)) ≡ placed sooner (entry_of q) (ranked sooner (waiting_of rows))
  release_waiting s w =
      ap (ranked sooner) (waiting_map (release_row s n) (λ h. refl) rows)
      ∙ entries_more waits (λ h. waits (release_row s n h)) n q w
      (ap (λ b. is_waiting (cond b (WaitingSince s) q.phase)) named)
      (λ h k. sym (ap (λ b. is_waiting (cond b (WaitingSince s) h.phase)) k)) rows up e

  -- a booked row is confirmed, or withdrawn
  pub confirm_waiting : is_booked q.phase ≡ true → waiting_of (map (confirm_row n) rows) ≡ waiting_of rows
  confirm_waiting b =
      waiting_map (confirm_row n) (λ h. refl) rows
      ∙ entries_same (λ h. waits (confirm_row n h)) waits rows
      (each_row (λ h. waits (confirm_row n h) ≡ waits h) n rows q up e
      (ap (λ t. is_waiting (cond t Ready q.phase)) named ∙ sym (booked_waits q.phase b))
      (λ h k. ap (λ t. is_waiting (cond t Ready h.phase)) k))

  pub withdraw_waiting : is_booked q.phase ≡ true → waiting_of (filter (other_than n) rows) ≡ waiting_of rows
  withdraw_waiting b =
      waiting_kept (other_than n) rows
      ∙ entries_same (λ h. other_than n h && waits h) waits rows
      (each_row (λ h. (other_than n h && waits h) ≡ waits h) n rows q up e
      (ap (λ t. not t && waits q) named ∙ sym (booked_waits q.phase b))
      (λ h k. ap (λ t. not t && waits h) k))

-- an open row is closed; its round still waits
pub close_waiting : (n : ℕ) (rows : List Row) → waiting_of (map (close_row n) rows) ≡ waiting_of rows
close_waiting n rows =
    waiting_map (close_row n) (λ h. refl) rows
    ∙ entries_same (λ h. waits (close_row n h)) waits rows (all_rows (λ h. waits (close_row n h) ≡ waits h) (λ h. go h (has_number n h)) rows)
  where
    go : (h : Row) (b : Bool) → is_waiting (cond b (closed h.phase) h.phase) ≡ is_waiting h.phase
    go h true = closed_waits h.phase
    go h false = refl

-- leaving rows go
pub sweep_waiting : (rows : List Row) → waiting_of (filter staying rows) ≡ waiting_of rows
sweep_waiting rows =
    waiting_kept staying rows
    ∙ entries_same (λ h. staying h && waits h) waits rows (all_rows (λ h. (staying h && waits h) ≡ waits h) (λ h. leaving_waits h.phase) rows)

-- a row that does not wait comes
pub book_waiting : (rows : List Row) (x : Row) → waits x ≡ false → waiting_of (rows ++ x ∷ []) ≡ waiting_of rows
book_waiting rows x w =
    ap (map entry_of) (filter-append waits rows (x ∷ []) ∙ ap (λ l. filter waits rows ++ l) none ∙ append-nil (filter waits rows))
  where
    none : filter waits (x ∷ []) ≡ []
    none = rw w

-- the row that ranks first starts: its entry is the first one, and the others stay
pub start_first : (rows : List Row) (y : Row) (x : Waiting) (rest : List Waiting) → Rising rows → first_in_rank waits rows ≡ Some y
    → ranked sooner (waiting_of rows) ≡ x ∷ rest
    → (entry_of y ≡ x) × (ranked sooner (waiting_of (map (start_row y.number) rows)) ≡ rest)
start_first rows y x rest up e some =
    let front = subst (λ o. Agrees o (ranked sooner (waiting_of rows))) e (first_agrees rows) in
    let leads = subst (Leads waits rows) e (first_leads waits rows) in
    let own = row_found y.number rows (rising_unique rows up) y leads.inside refl in
    let left = ranked sooner (waiting_of (map (start_row y.number) rows)) in
    let taken : ranked sooner (waiting_of rows) ≡ placed sooner (entry_of y) left = start_waiting y.number rows y up own leads.passes in
    let ordered = subst (InOrder sooner) front.1 (ranked_in_order sooner sooner_order (waiting_of rows)) in
    let whole : First sooner (entry_of y) (placed sooner (entry_of y) left) =
    subst (First sooner (entry_of y)) (sym front.1 ∙ taken) (sooner_self (entry_of y), ordered.0) in
    let fore = all_shuffled (λ z. sooner z (entry_of y) ≡ false) _ _ (IsPermutation-sym _ _ (shuffled_placed sooner (entry_of y) left)) whole in
    let joined : entry_of y ∷ left ≡ x ∷ rest = sym (taken ∙ placed_first sooner sooner_order (entry_of y) left fore.1) ∙ some in
    (cc, cc)
