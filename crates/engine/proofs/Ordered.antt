-- The rows of an engine, whatever was called, stand in the order of their numbers.
use Rattle.std.proofs.Common.{ℕ, ◌+◌, ◌<◌, ◌≡◌, Bool, List, [], ◌∷◌, map, filter, refl, arith}
use Rattle.engine.specs.Rising.{Rising}
use Rattle.engine.proofs.Numbers.{rising_kept, rising_map, rising_push}
use Rattle.rules.specs.declared.call.Call.{Call}
use Rattle.rules.specs.declared.row.Row.{Row}
use Rattle.rules.specs.Rows.{booked_row, close_row, confirm_row, other_than, release_row, start_row, staying}
use Rattle.rules.specs.Rules.{View, opened, with_rows}
use Rattle.rules.specs.Runs.{last_view, step}
use Rattle.rules.proofs.Steps.{after_book, by_ways}
use Rattle.std.proofs.ByRecursion.{all_kept_by, All-map, All-push, All-weaker}
use Rattle.std.specs.List.{AllByRecursion}

pub record Ordered (v : View) : Type 0 where
  pub rising : Rising v.rows
  pub below : AllByRecursion (λ h. h.number < v.next) v.rows

ordered_map : (v : View) (u : Row → Row) → ((h : Row) → (u h).number ≡ h.number) → Ordered v → Ordered (with_rows v (map u v.rows))
ordered_map v u same o = record {
  rising = rising_map u same v.rows o.rising;
  below =
      All-map (λ h. h.number < v.next) u v.rows
      (All-weaker (λ h. h.number < v.next) (λ h. (u h).number < v.next) (λ h l. omega (arith, same h)) v.rows o.below);
}

ordered_kept : (v : View) (p : Row → Bool) → Ordered v → Ordered (with_rows v (filter p v.rows))
ordered_kept v p o = record { rising = rising_kept p v.rows o.rising; below = all_kept_by p (λ h. h.number < v.next) v.rows o.below }

ordered_booked : (v : View) (priority period deadline : ℕ) → Ordered v → Ordered (after_book v priority period deadline)
ordered_booked v priority period deadline o = record {
  rising = rising_push v.rows (booked_row v.next priority period deadline) o.below o.rising;
  below =
      All-push (λ h. h.number < v.next + 1) v.rows (booked_row v.next priority period deadline)
      (All-weaker (λ h. h.number < v.next) (λ h. h.number < v.next + 1) (λ h l. omega arith) v.rows o.below) (omega arith);
}

pub ordered_step : (v : View) → Ordered v → (c : Call) → Ordered (step c v).1
ordered_step v o =
    by_ways v (λ c a w. Ordered w) (record {
      refuses = λ c r. o;
      tries = λ p per dl. o;
      books = λ p per dl f l. ordered_booked v p per dl o;
      confirms = λ n q e b. ordered_map v (confirm_row n) (λ h. refl) o;
      withdraws = λ n q e b. ordered_kept v (other_than n) o;
      releases = λ n q e w l i. ordered_map v (release_row v.slot n) (λ h. refl) o;
      closes = λ n q e w. ordered_map v (close_row n) (λ h. refl) o;
      sweeps = λ room l. let s = ordered_kept v staying o in record { rising = s.rising; below = s.below };
      starts = λ room y l e. let s = ordered_map v (start_row y.number) (λ h. refl) o in record { rising = s.rising; below = s.below };
      pauses = λ room y l e. record { rising = o.rising; below = o.below };
    })

pub ordered_run : (cs : List Call) (v : View) → Ordered v → Ordered (last_view v cs)
ordered_run [] v o = o
ordered_run (c ∷ cs) v o = ordered_run cs (step c v).1 (ordered_step v o c)

pub ordered_opened : (length distance first : ℕ) → Ordered (opened length distance first)
ordered_opened length distance first = record { rising = tt; below = tt }
