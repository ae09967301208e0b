-- The rules of a routing tree at a site of n nodes, node 0 being the base station.
use Rattle.std.specs.Prelude.{◌≡◌, ℕ, zero, suc, ◌+◌, ◌<◌, ◌≤◌, Bool, cond, not, ◌||◌, List, [], ◌∷◌, length, replicate, is_some, Some, None, Ok, Err, Option, Result, ◌==◌, nat_eq, nat_le, nat_lt, slice_index, slice_index_or, slice_set}
use Rattle.routing.specs.declared.fault.TreeFault.{TreeFault}
use Rattle.routing.specs.declared.fault.TreeFault.TheVariants.{Count, OutOfRange, Repeated, Unrooted}
use Rattle.routing.specs.declared.link.TreeLink.{TreeLink}
use Rattle.routing.specs.declared.routes.Routes.{Routes}
use Rattle.routing.specs.Search.{any_below, first_below, or_else}
use Rattle.std.specs.Option.{option_map, unwrap_or}

-- the record at place k
abbrev pub link_at : List TreeLink → ℕ → TreeLink
link_at ls k = slice_index_or ls k (record { child = 0; parent = 0; slots = 0 })

-- a node or the slots are out of range, or the child is the base station or its own parent
abbrev pub bad_link : ℕ → TreeLink → Bool
bad_link n l =
    nat_le n l.child
    || (nat_le n l.parent || (nat_lt l.slots 1 || (nat_lt 4 l.slots || (l.child == 0 || l.child == l.parent))))

-- a record whose numbers index the tables by node
abbrev pub Indexes : TreeLink → Type 0
Indexes l = (l.child < 64) × (l.parent < 64) × (l.slots ≤ 4)

-- the child of the record at place k has an earlier record
abbrev pub repeated_at : List TreeLink → ℕ → Bool
repeated_at ls k = any_below (λ j. nat_eq (link_at ls j).child (link_at ls k).child) k

-- a table by node, with the value of each record written at its child
abbrev pub entered : (TreeLink → ℕ) → List TreeLink → List ℕ → List ℕ
entered value [] table = table
entered value (l ∷ ls) table = entered value ls (slice_set table l.child (value l))

abbrev pub by_node : (TreeLink → ℕ) → List TreeLink → List ℕ
by_node value ls = entered value ls (replicate 64 0)

-- each node's parent, and its slots in a round
abbrev pub parent_table : List TreeLink → List ℕ
parent_table ls = by_node (λ l. l.parent) ls

abbrev pub slot_table : List TreeLink → List ℕ
slot_table ls = by_node (λ l. l.slots) ls

-- the hops from node v to the base station along a table of parents, where at most `most` lead there
unfoldable pub hops : List ℕ → ℕ → ℕ → Option ℕ
hops parents zero v = cond (v == 0) (Some 0) None
hops parents (suc most) v = cond (v == 0) (Some 0) (option_map suc (hops parents most (slice_index parents v)))

-- the hops of node v, which meets no node twice on its way and so needs no more hops than there are records
abbrev pub way : List TreeLink → ℕ → Option ℕ
way ls v = hops (parent_table ls) (length ls) v

-- each node's hops to the base station
abbrev pub depth_table : List TreeLink → List ℕ
depth_table ls = by_node (λ l. unwrap_or (way ls l.child) 0) ls

-- the one refusal of a tree, if there is one: each test goes over all records before the next
abbrev pub tree_fault : ℕ → List TreeLink → Option TreeFault
tree_fault n ls =
    or_else (cond (length ls + 1 == n) None (Some Count))
    (or_else (option_map OutOfRange (first_below (λ k. bad_link n (link_at ls k)) (length ls)))
    (or_else (option_map Repeated (first_below (repeated_at ls) (length ls)))
    (option_map Unrooted (first_below (λ k. not (is_some (way ls (link_at ls k).child))) (length ls)))))

-- the tree by node
abbrev pub routes_of : List TreeLink → Routes
routes_of ls = record { parents = parent_table ls; slots = slot_table ls; depths = depth_table ls }

-- the one outcome of reading a tree
abbrev pub TreeRead : ℕ → List TreeLink → Result Routes TreeFault → Type 0
TreeRead n ls (Ok routes) = (tree_fault n ls ≡ None) × (routes ≡ routes_of ls)
TreeRead n ls (Err fault) = tree_fault n ls ≡ Some fault
