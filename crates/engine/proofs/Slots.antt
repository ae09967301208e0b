-- A slot: what its start does to the table, to the running rounds and to the lines.
use Rattle.std.proofs.Common.{◌≡◌, ℕ, ◌+◌, ◌-◌, ◌*◌, ◌/◌, ◌%◌, ◌<◌, ◌≤◌, Bool, true, false, not, List, [], ◌∷◌, length, get_or, is_some, Some, None, filter, Option, sym, refl, ap, ◌∙◌, div-lt_iff_lt-mul, min, arith}
use native.Mathlib.Bridge.{le_prop}
use mathlib.Core.Bool.{false≢true}
use mathlib.Core.Logic.{∥∥₁_elim}
use Rattle.engine.specs.Rounds.{Runs}
use Rattle.engine.specs.Starts.{joined, last_by, started_by, started_rows}
use Rattle.engine.proofs.Rounds.{free, runs_all}
use Rattle.engine.proofs.Safe.{few_lines}
use Rattle.rules.specs.declared.call.Call.TheVariants.{Slot}
use Rattle.rules.specs.declared.round.Round.{Round}
use Rattle.rules.specs.declared.row.Row.{Row}
use Rattle.rules.specs.Rows.{first_in_rank, waits}
use Rattle.rules.specs.Rules.{View, last_slot, line_at, may_start, most_lines, runs_in, slot_over, slot_refusal, start_any, start_with}
use Rattle.rules.specs.Runs.{step}
use Rattle.rules.proofs.Invariant.{Inv}
use Rattle.rules.proofs.Running.{Running, running_same, running_started}
use Rattle.rules.proofs.Starts.{may_free}
use Rattle.std.proofs.ByRecursion.{All-from_get_or, All-get_or}
use Rattle.std.proofs.lemmas.List.{length-append, length-map}
use Rattle.std.proofs.lemmas.Bool.{le-ltb, ne_eqb}
use Rattle.std.proofs.lemmas.Grind.{div_ceil_times}
use Rattle.std.specs.Int.{div_ceil}
use Rattle.std.specs.List.{AllByRecursion}

pub none_waits : (o : Option Row) → true ≡ not (is_some o) → o ≡ None
none_waits None e = refl
none_waits (Some y) e = absurd (false≢true (sym e))

-- a quotient rounded up, in two ways
pub ceil_same : (x y : ℕ) → 1 ≤ y → div_ceil x y ≡ (x + (y - 1)) / y
ceil_same x y some =
    let q = x / y + min 1 (x % y) in
    let (low, high) = div_ceil_times x y some in
    let next : (q + 1) * y ≡ q * y + y = omega arith in
    let above : (x + (y - 1)) / y < q + 1 = (div-lt_iff_lt-mul some).1 (omega arith) in
    let below : (x + (y - 1)) / y < q → ⊥ = λ less. let past = (div-lt_iff_lt-mul some).0 less in omega arith in
    omega arith

-- the start, out of its parts
module _ (v : View) where
  pub started_any : (may : Bool) (r : Option ℕ) (rows' : List Row) → may ≡ may_start v.distance v.last v.slot
      → (r, rows') ≡ started_rows (first_in_rank waits v.rows) may v.rows → started_by r rows' v ≡ start_any v
  started_any may r rows' allowed e =
      ap (λ p. started_by p.0 p.1 v) e ∙ go (first_in_rank waits v.rows) may
      ∙ ap (λ b. start_with (first_in_rank waits v.rows) b v) allowed
    where
      go : (o : Option Row) (may : Bool) → started_by (started_rows o may v.rows).0 (started_rows o may v.rows).1 v ≡ start_with o may v
      go None may = refl
      go (Some y) false = refl
      go (Some y) true = refl

  -- the rounds that run in the slot
  running_now : Inv v → (n : ℕ) × Running v.length v.distance v.slot n (start_any v).running
  running_now k = go (first_in_rank waits v.rows) (may_start v.distance v.last v.slot) refl
    where
      go : (o : Option Row) (b : Bool) → may_start v.distance v.last v.slot ≡ b
          → (n : ℕ) × Running v.length v.distance v.slot n (start_with o b v).running
      go None b e = (_, running_same _ _ _ _ v.running k.rounds)
      go (Some y) false e = (_, running_same _ _ _ _ v.running k.rounds)
      go (Some y) true e = (
        _,
        running_started _ _ _ _ v.running (record { number = y.number; start = v.slot }) refl k.long k.spread
            (may_free _ v.last v.slot k.spread e) k.rounds,
      )

  module _ (good : ∥ Inv v ∥₁) (short : v.length ≤ 256) (spread : 1 ≤ v.distance) where
    pub runs_now : AllByRecursion (Runs v.slot) (start_any v).running
    runs_now =
        All-from_get_or (Runs v.slot) (start_any v).running free
        (λ i h. (∥∥₁_elim good le_prop (λ k. (at k i h).0), ∥∥₁_elim good le_prop (λ k. (at k i h).1)))
      where
        at : Inv v → (i : ℕ) → i < length (start_any v).running → Runs v.slot (get_or (start_any v).running i free)
        at k i h = All-get_or (Runs v.slot) (start_any v).running i free h (runs_all _ _ _ _ (start_any v).running (omega arith) (running_now k).1)

    pub few_now : length (start_any v).running ≤ most_lines v
    few_now = let few = few_lines v good in rw (sym (length-map (start_any v).running (line_at (start_any v).slot))) few

    few-most : most_lines v < 257
    few-most = (div-lt_iff_lt-mul spread).1 (omega arith)

    -- there is a place for the round that starts
    pub room_now : (r : Option ℕ) (rows' : List Row) → started_by r rows' v ≡ start_any v → is_some r ≡ true → length v.running < 256
    room_now None rows' e some = absurd (false≢true some)
    room_now (Some n) rows' e some =
        let few = few_now in
        let most = few-most in
        let same = ap (λ w. length w.running) e in
        let more = length-append v.running (record { number = n; start = v.slot } ∷ []) in
        omega arith

    -- the rounds that run fit into every list that the slot accepts
    pub fit_now : (room : ℕ) (rs : List Round) → rs ≡ (start_any v).running → most_lines v ≤ room → length rs ≤ room
    fit_now room rs same wide = let few = few_now in let long = ap (λ l. length l) same in omega arith

  -- the slot, out of its parts
  pub slot_left : (room : ℕ) → (v.slot ≡ last_slot → ⊥) → most_lines v ≤ room → slot_refusal room v ≡ None
  slot_left room early wide = rw (ne_eqb v.slot last_slot early, le-ltb room (most_lines v) wide) refl

  pub over_by : (started : Option ℕ) (rows' : List Row) (last : Option ℕ) (run over : List Round) → last ≡ last_by started v.slot v.last
      → run ≡ joined started v.slot v.running → over ≡ filter (runs_in v.length (v.slot + 1)) run
      → record {
        length = v.length;
        distance = v.distance;
        slot = v.slot + 1;
        last = last;
        running = over;
        next = v.next;
        rows = rows';
      } ≡ slot_over (started_by started rows' v)
  over_by started rows' last run over l r o = rw (l, o, r) refl

  -- what the slot leaves
  pub slot_left_by : (room : ℕ) (after w : View) → slot_refusal room v ≡ None → w ≡ start_any v → after ≡ slot_over w
      → after ≡ (step (Slot room) v).1
  slot_left_by room after w none same over = rw none (over ∙ ap slot_over same)
