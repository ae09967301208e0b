-- Every call keeps the invariant, and what the invariant says of waits.
use Rattle.std.proofs.Common.{◌≡◌, ℕ, ◌+◌, ◌-◌, ◌≤◌, Bool, true, false, cond, leb, List, [], ◌∷◌, Some, sym, refl, ◌∙◌, subst, zero-le, le_of_eq, mul-le-mul_left, arith}
use mathlib.Core.Bool.{false≢true}
use Rattle.std.proofs.lemmas.Bool.{and_parts, leb-true, eqb-true, not-false}
use Rattle.rules.specs.declared.call.Call.{Call}
use Rattle.rules.specs.declared.phase.Phase.TheVariants.{Ready}
use Rattle.rules.specs.declared.row.Row.{Row}
use Rattle.rules.specs.Lists.{◌∈◌}
use Rattle.rules.specs.Phases.{is_booked, since, closed}
use Rattle.rules.specs.Rows.{row_of, has_number, waits, booked_row, other_than, staying}
use Rattle.rules.specs.Waits.{against, rounds, demand, IsWait, keeps}
use Rattle.rules.specs.Rules.{View, fair, opened}
use Rattle.rules.specs.Runs.{step, last_view}
use Rattle.rules.proofs.Sums.{total_mono}
use Rattle.rules.proofs.Ranks.{upto_self}
use Rattle.rules.proofs.Waiting.{against_mono, wait_exists, keeps_from}
use Rattle.rules.proofs.Invariant.{claims, Sound, Inv}
use Rattle.rules.proofs.Starts.{may_free, may_not_free, table_swept, table_started, table_paused}
use Rattle.rules.proofs.Releases.{table_released}
use Rattle.rules.proofs.Tables.{some_quiet, confirm_quiet, close_quiet, table_moved, table_booked, table_withdrawn}
use Rattle.rules.proofs.Running.{running_same, running_started, running_over}
use Rattle.rules.proofs.Steps.{row_of_is, by_ways}

-- a row that has the number is the row of the number
pub row_only : (v : View) → Inv v → (n : ℕ) (q h : Row) → row_of n v.rows ≡ Some q → h ∈ v.rows → has_number n h ≡ true → h ≡ q
row_only v k n q h e m b =
    let o = row_of_is n v.rows q e in
    k.table.unique h q m o.0 (eqb-true h.number n b ∙ sym o.1)

booked_sound : (s n p per dl : ℕ) → fair per dl ≡ true → Sound s (booked_row n p per dl)
booked_sound s n p per dl f =
    let fits = and_parts (leb 1 dl) _ f in
    let b = and_parts (leb dl per) (leb per 60000) fits.1 in
    let x = leb-true 1 dl fits.0 in
    let y = leb-true dl per b.0 in
    let z = leb-true per 60000 b.1 in
    record { turns = omega arith; small = z; short = y; idle = λ _. refl; reach = zero-le; waited = λ w. absurd (false≢true w) }

other_than_false : (n : ℕ) (h : Row) → other_than n h ≡ false → has_number n h ≡ true
other_than_false n h e = not-false (has_number n h) e

pub keeps_inv : (v : View) → Inv v → (c : Call) → Inv (step c v).1
keeps_inv v k =
    by_ways v (λ c a w. Inv w) (record {
      refuses = λ c r. k;
      tries = λ p per dl. k;
      books = λ p per dl f l. record {
        long = k.long;
        spread = k.spread;
        recent = k.recent;
        table = table_booked _ _ _ _ _ v.rows (booked_row v.next p per dl) k.table refl refl (booked_sound _ _ p per dl f) l;
        rounds = k.rounds;
      };
      confirms = λ n q e b. record {
        long = k.long;
        spread = k.spread;
        recent = k.recent;
        table = table_moved (λ h. cond (has_number n h) Ready h.phase) v.rows
            (λ h m. some_quiet (has_number n h) Ready h.phase
            (λ t. confirm_quiet h.phase (subst (λ (z : Row). is_booked z.phase ≡ true) (sym (row_only v k n q h e m t)) b)))
            _ _ _ _ _ k.table;
        rounds = k.rounds;
      };
      withdraws = λ n q e b. record {
        long = k.long;
        spread = k.spread;
        recent = k.recent;
        table = table_withdrawn _ _ _ _ _ v.rows (other_than n) k.table
            (λ h m t. subst (λ (z : Row). is_booked z.phase ≡ true) (sym (row_only v k n q h e m (other_than_false n h t))) b);
        rounds = k.rounds;
      };
      releases = λ n q e o l w. record {
        long = k.long;
        spread = k.spread;
        recent = k.recent;
        table = table_released _ _ _ _ _ v.rows k.table k.recent n
            (λ h m t. subst (λ (z : Row). (waits z ≡ false) × (z.earliest ≤ v.slot)) (sym (row_only v k n q h e m t)) (w, l));
        rounds = k.rounds;
      };
      closes = λ n q e o. record {
        long = k.long;
        spread = k.spread;
        recent = k.recent;
        table = table_moved (λ h. cond (has_number n h) (closed h.phase) h.phase) v.rows
            (λ h m. some_quiet (has_number n h) (closed h.phase) h.phase (λ t. close_quiet h.phase))
            _ _ _ _ _ k.table;
        rounds = k.rounds;
      };
      sweeps = λ room l. record {
        long = k.long;
        spread = k.spread;
        recent = let r = k.recent in omega arith;
        table = table_swept _ _ _ _ _ v.rows k.table staying l;
        rounds = running_over _ _ _ _ v.running (running_same _ _ _ _ v.running k.rounds);
      };
      starts = λ room y l e. record {
        long = k.long;
        spread = k.spread;
        recent = omega arith;
        table = table_started _ _ _ _ _ v.rows k.table y k.spread (may_free _ v.last v.slot k.spread e) l;
        rounds = running_over _ _ _ _ _
            (running_started _ _ _ _ v.running _ refl k.long k.spread (may_free _ v.last v.slot k.spread e) k.rounds);
      };
      pauses = λ room y l e. record {
        long = k.long;
        spread = k.spread;
        recent = let r = k.recent in omega arith;
        table = table_paused _ _ _ _ _ v.rows k.table (may_not_free _ v.last v.slot e);
        rounds = running_over _ _ _ _ v.running (running_same _ _ _ _ v.running k.rounds);
      };
    })

pub opened_inv : (L d first : ℕ) → 1 ≤ L → 1 ≤ d → Inv (opened L d first)
opened_inv L d first l k =
    record {
      long = l;
      spread = k;
      recent = omega arith;
      table = record {
        sound = λ h m. elim m [ ];
        held = λ q m w. elim m [ ];
        unique = λ h j m i e. elim m [ ];
        below = λ h m. elim m [ ];
        admitted = λ q m. elim m [ ];
      };
      rounds = record { past = λ r m. elim m [ ]; live = λ r m. elim m [ ]; ready = λ r m. elim m [ ]; spaced = tt };
    }

pub keeps_run : (cs : List Call) (v : View) → Inv v → Inv (last_view v cs)
keeps_run [] v k = k
keeps_run (c ∷ cs) v k = keeps_run cs (step c v).1 (keeps_inv v k c)

claims-rounds : (v : ℕ) (h : Row) → claims v h ≤ rounds v h
claims-rounds v h = go (is_booked h.phase)
  where
    go : (a : Bool) → cond a 0 (rounds v h) ≤ rounds v h
    go false = omega arith
    go true = zero-le

-- a row that waits has waited at most any number that meets its demand
pub bounded : (v : View) → Inv v → (q : Row) (x : ℕ) → q ∈ v.rows → waits q ≡ true → demand v.distance v.rows q x ≤ x →
    v.slot - since q.phase ≤ x
bounded v k q x m w p =
    let held = k.table.held q m w in
    let less = total_mono (against q (claims x)) (against q (rounds x)) v.rows
    (λ h _. against_mono q q h h (claims x) (rounds x) (λ b. b) (claims-rounds x h)) in
    let times = mul-le-mul_left v.distance less in
    let b = held.bound x (omega arith) in
    let a = held.early q m w (upto_self q) in
    omega arith

-- every row has a longest wait that leaves time for a round, and a row that waits has waited no longer
pub record Waited (L d s : ℕ) (t : List Row) (q : Row) : Type 0 where
  pub wait : ℕ
  pub is_wait : IsWait d t q wait
  pub ends : wait + L ≤ q.deadline
  pub within : waits q ≡ true → s - since q.phase ≤ wait
  pub later : waits q ≡ true → since q.phase ≤ s

pub waited : (v : View) → Inv v → (q : Row) → q ∈ v.rows → Waited v.length v.distance v.slot v.rows q
waited v k q m =
    let a = k.table.admitted q m in
    let o = wait_exists v.distance v.rows q a.bound a.meets in
    let l = o.2 in
    let e = a.ends in
    record {
      wait = o.0;
      is_wait = o.1;
      ends = omega arith;
      within = λ w. bounded v k q o.0 m w (le_of_eq o.1.solves);
      later = λ w. ((k.table.sound q m).waited w).0;
    }

-- every row keeps its deadline under the present table
pub all_keep : (v : View) → Inv v → (q : Row) → q ∈ v.rows → keeps v.length v.distance v.rows q ≡ true
all_keep v k q m =
    let s = k.table.sound q m in
    let a = s.short in
    let b = s.small in
    keeps_from v.length v.distance v.rows q (omega arith) (k.table.admitted q m)
