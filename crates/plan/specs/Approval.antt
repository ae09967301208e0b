-- The rules of approval, for a site of n nodes, its relation of conflicts, a tree and a draft.
use Rattle.std.specs.Prelude.{◌≡◌, ℕ, ◌+◌, ◌<◌, ◌≤◌, Bool, false, cond, not, ◌&&◌, ◌||◌, List, length, Some, None, Ok, Err, count_by, Option, Result, ◌==◌, nat_eq, nat_le, nat_lt, slice_index}
use Rattle.interference.specs.declared.transmission.Transmission.{Transmission}
use Rattle.plan.specs.declared.fault.ApprovalFault.{ApprovalFault}
use Rattle.plan.specs.declared.fault.ApprovalFault.TheVariants.{Tree, Shape, NotToParent, Conflicting, SlotCount, OutOfOrder}
use Rattle.plan.specs.Drafts.{bad_shape, step_of, transmission_at}
use Rattle.routing.specs.declared.link.TreeLink.{TreeLink}
use Rattle.routing.specs.Search.{any_below, first_below, or_else}
use Rattle.routing.specs.Tree.{parent_table, slot_table, tree_fault}
use Rattle.std.specs.Option.{option_map}

-- the transmission does not go from a child to its parent
abbrev pub is_stray : ℕ → List ℕ → Transmission → Bool
is_stray n parents t = t.from == 0 || (nat_le n t.from || not (slice_index parents t.from == t.to))

-- the transmission at place k conflicts with an earlier one of its step
abbrev pub conflicts_with : (Transmission → Transmission → Bool) → List Transmission → (ℕ → ℕ) → ℕ → ℕ → Bool
conflicts_with conflict ts step k j = step j == step k && conflict (transmission_at ts j) (transmission_at ts k)

abbrev pub conflicts_at : (Transmission → Transmission → Bool) → List Transmission → (ℕ → ℕ) → ℕ → Bool
conflicts_at conflict ts step k = any_below (conflicts_with conflict ts step k) k

-- how many transmissions node v sends
abbrev pub sent_by : List Transmission → ℕ → ℕ
sent_by ts v = count_by (λ t. nat_eq t.from v) ts

-- node v, which is not the base station, has not as many transmissions as slots
abbrev pub is_uneven : List ℕ → List Transmission → ℕ → Bool
is_uneven slots ts v = nat_lt 0 v && not (sent_by ts v == slice_index slots v)

-- a child of the sender of the transmission at place k transmits in the same or a later step
abbrev pub comes_late : List Transmission → (ℕ → ℕ) → ℕ → ℕ → Bool
comes_late ts step k j = (transmission_at ts j).to == (transmission_at ts k).from && nat_le (step k) (step j)

abbrev pub is_early : List Transmission → (ℕ → ℕ) → ℕ → Bool
is_early ts step k = any_below (comes_late ts step k) (length ts)

-- the first of the faults that the steps of a draft can have
abbrev pub step_fault : ℕ → (Transmission → Transmission → Bool) → List ℕ → List ℕ → List Transmission → (ℕ → ℕ) → Option ApprovalFault
step_fault n conflict parents slots ts step =
    or_else (option_map NotToParent (first_below (λ k. is_stray n parents (transmission_at ts k)) (length ts)))
    (or_else (option_map Conflicting (first_below (conflicts_at conflict ts step) (length ts)))
    (or_else (option_map SlotCount (first_below (is_uneven slots ts) n))
    (option_map OutOfOrder (first_below (is_early ts step) (length ts)))))

-- the one refusal of a draft, if there is one: each test goes over the whole input before the next
abbrev pub approval_fault : ℕ → (Transmission → Transmission → Bool) → List TreeLink → List Transmission → List ℕ → Option ApprovalFault
approval_fault n conflict ls ts cs =
    or_else (option_map Tree (tree_fault n ls))
    (or_else (cond (bad_shape ts cs) (Some Shape) None)
    (step_fault n conflict (parent_table ls) (slot_table ls) ts (step_of cs)))

-- no transmission of a step conflicts with one of a step that is d or more later; conflicts are symmetric, so this
-- speaks of earlier steps too
abbrev pub ClearAt : (Transmission → Transmission → Bool) → List Transmission → (ℕ → ℕ) → ℕ → Type 0
ClearAt conflict ts step d =
    (k l : ℕ) → k < length ts → l < length ts → step k + d ≤ step l
    → conflict (transmission_at ts k) (transmission_at ts l) ≡ false

-- d is the minimum step distance: the smallest from 1 on at which steps are clear of each other
pub record Spaced (conflict : Transmission → Transmission → Bool) (ts : List Transmission) (step : ℕ → ℕ) (d : ℕ) : Type 0 where
  pub positive : 1 ≤ d
  pub clear : ClearAt conflict ts step d
  pub least : (e : ℕ) → 1 ≤ e → ClearAt conflict ts step e → d ≤ e

-- the one outcome of judging a draft: its minimum step distance, or its refusal
abbrev pub Judged : ℕ → (Transmission → Transmission → Bool) → List TreeLink → List Transmission → List ℕ → Result ℕ ApprovalFault → Type 0
Judged n conflict ls ts cs (Ok d) = (approval_fault n conflict ls ts cs ≡ None) × Spaced conflict ts (step_of cs) d
Judged n conflict ls ts cs (Err fault) = approval_fault n conflict ls ts cs ≡ Some fault
