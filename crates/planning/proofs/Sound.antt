-- What a tree that is not refused says of its tables.
use Rattle.std.proofs.Common.{◌≡◌, ℕ, zero, suc, ◌+◌, ◌<◌, ◌≤◌, Bool, true, false, cond, not, eqb, List, [], ◌∷◌, length, get_or, set, replicate, is_some, Some, None, sum, Option, unwrap_or, sym, refl, ap, ◌∙◌, ⊎_elim, arith}
use Rattle.plan.proofs.Approvals.{neither, unmapped}
use Rattle.planning.proofs.Deepest.{Rooted}
use Rattle.routing.specs.declared.fault.TreeFault.{TreeFault}
use Rattle.routing.specs.declared.fault.TreeFault.TheVariants.{Count, OutOfRange, Repeated, Unrooted}
use Rattle.routing.specs.declared.link.TreeLink.{TreeLink}
use Rattle.routing.specs.Search.{first_below, or_else}
use Rattle.routing.specs.Tree.{bad_link, entered, hops, link_at, parent_table, repeated_at, slot_table, tree_fault, way}
use Rattle.routing.proofs.Searches.{first_none}
use Rattle.routing.proofs.Trees.{all_index, length_entered, slots_few}
use Rattle.std.proofs.ByRecursion.{All-from_get_or, All-weaker, sum_by_le}
use Rattle.std.proofs.lemmas.List.{get_or_past, get_or-replicate, get_or-set_other, get_or-set_same, length-replicate, length-set}
use Rattle.std.proofs.lemmas.List.Sums.{get_or-le-sum_by}
use Rattle.std.proofs.lemmas.Bool.{cases_eq, cases_lt, eqb-true, ne_eqb, not-false}
use Rattle.std.proofs.lemmas.Bool.Decides.{nat_tests}
use Rattle.std.specs.Option.{option_map}
use Rattle.std.specs.List.{AllByRecursion}

-- ---- tables

-- what the children of all records keep, each node with an entry keeps
entered_from : (X : ℕ → Type 0) (value : TreeLink → ℕ) (ls : List TreeLink) (table : List ℕ) (v : ℕ)
    → AllByRecursion (λ l. X l.child) ls
    → (0 < get_or table v 0 → X v) → 0 < get_or (entered value ls table) v 0 → X v
entered_from X value [] table v each start h = start h
entered_from X value (l ∷ ls) table v each start h =
    entered_from X value ls (set table l.child (value l)) v each.1
    (λ some.
    ⊎_elim (λ (e : v ≡ l.child). rw e each.0)
    (λ (ne : v ≡ l.child → ⊥). start (rw (get_or-set_other table l.child v (value l) 0 ne) at some)) (cases_eq v l.child))
    h

-- an entry above 0 stays above 0 while such are written
entered_keeps : (value : TreeLink → ℕ) (ls : List TreeLink) (table : List ℕ) (v : ℕ) → v < length table
    → AllByRecursion (λ l. 0 < value l) ls → 0 < get_or table v 0 → 0 < get_or (entered value ls table) v 0
entered_keeps value [] table v h each some = some
entered_keeps value (l ∷ ls) table v h each some =
    let long = length-set table l.child (value l) in
    entered_keeps value ls (set table l.child (value l)) v (omega arith) each.1
    (⊎_elim (λ (e : v ≡ l.child). rw (e, get_or-set_same table l.child (value l) 0 (rw e at h)) each.0)
    (λ (ne : v ≡ l.child → ⊥). rw (get_or-set_other table l.child v (value l) 0 ne) some) (cases_eq v l.child))

-- a record's entry makes the sum more than 0
entered_some : (value : TreeLink → ℕ) (ls : List TreeLink) (table : List ℕ) → 0 < length ls
    → AllByRecursion (λ l. l.child < length table) ls → AllByRecursion (λ l. 0 < value l) ls → 0 < sum (entered value ls table)
entered_some value [] table h within each = absurd (omega arith)
entered_some value (l ∷ ls) table h within each =
    let below = within.0 in
    let long = length-set table l.child (value l) in
    let start : 0 < get_or (set table l.child (value l)) l.child 0 =
    rw (get_or-set_same table l.child (value l) 0 below) each.0 in
    let here = entered_keeps value ls (set table l.child (value l)) l.child (omega arith) each.1 start in
    let whole = length_entered value ls (set table l.child (value l)) in
    omega (arith, get_or-le-sum_by (λ x. x) (entered value ls (set table l.child (value l))) l.child 0 (omega arith))

empty_table : (v : ℕ) → ◌≡◌ {A = ℕ} (get_or (replicate 64 0) v 0) 0
empty_table v =
    ⊎_elim (λ (within : v < 64). get_or-replicate 64 v 0 0 within)
    (λ (past : 64 ≤ v). get_or_past (replicate 64 0) v 0 (omega (arith, length-replicate {A = ℕ} 64 0))) (cases_lt v 64)

-- ---- ways

hops_home : (ps : List ℕ) (most v : ℕ) → v ≡ 0 → hops ps most v ≡ Some 0
unfolding hops
hops_home ps zero v e = rw e refl
hops_home ps (suc most) v e = rw e refl

hops_lost : (ps : List ℕ) (v : ℕ) → (v ≡ 0 → ⊥) → hops ps 0 v ≡ None
unfolding hops
hops_lost ps v ne = rw (ne_eqb v 0 ne) refl

hops_away : (ps : List ℕ) (most v : ℕ) → (v ≡ 0 → ⊥) → hops ps (suc most) v ≡ option_map suc (hops ps most (get_or ps v 0))
unfolding hops
hops_away ps most v ne = rw (ne_eqb v 0 ne) refl

some_mapped : (o : Option ℕ) → is_some (option_map suc o) ≡ true → is_some o ≡ true
some_mapped None e = e
some_mapped (Some x) e = refl

value_mapped : (o : Option ℕ) → is_some o ≡ true → unwrap_or (option_map suc o) 0 ≡ suc (unwrap_or o 0)
value_mapped None e = let z : ◌≡◌ {A = ℕ} 0 1 = cc in absurd (omega arith)
value_mapped (Some x) e = refl

-- a way within a bound is the way within a greater one
hops_more : (ps : List ℕ) (most v : ℕ) → is_some (hops ps most v) ≡ true → hops ps (suc most) v ≡ hops ps most v
hops_more ps zero v found =
    ⊎_elim (λ (home : v ≡ 0). hops_home ps 1 v home ∙ sym (hops_home ps 0 v home))
    (λ (ne : v ≡ 0 → ⊥). let lost = hops_lost ps v ne in let z : ◌≡◌ {A = ℕ} 0 1 = cc in absurd (omega arith)) (cases_eq v 0)
hops_more ps (suc most) v found =
    ⊎_elim (λ (home : v ≡ 0). hops_home ps (suc (suc most)) v home ∙ sym (hops_home ps (suc most) v home))
    (λ (ne : v ≡ 0 → ⊥).
    let here = hops_away ps most v ne in
    let rest = hops_more ps most (get_or ps v 0) (some_mapped _ (ap is_some (sym here) ∙ found)) in
    hops_away ps (suc most) v ne ∙ ap (option_map suc) rest ∙ sym here) (cases_eq v 0)

-- a child is one hop further than its parent
hops_parent : (ps : List ℕ) (most v : ℕ) → (v ≡ 0 → ⊥) → is_some (hops ps most v) ≡ true
    → unwrap_or (hops ps most v) 0 ≡ suc (unwrap_or (hops ps most (get_or ps v 0)) 0)
hops_parent ps zero v ne found = let lost = hops_lost ps v ne in let z : ◌≡◌ {A = ℕ} 0 1 = cc in absurd (omega arith)
hops_parent ps (suc most) v ne found =
    let here = hops_away ps most v ne in
    let some = some_mapped (hops ps most (get_or ps v 0)) (ap is_some (sym here) ∙ found) in
    let rest = hops_more ps most (get_or ps v 0) some in
    ap (λ o. unwrap_or o 0) here ∙ value_mapped (hops ps most (get_or ps v 0)) some ∙ ap (λ o. suc (unwrap_or o 0)) (sym rest)

-- ---- a tree that is not refused

good_link : (n : ℕ) (l : TreeLink) → bad_link n l ≡ false → (l.child < n) × (0 < l.child) × (0 < l.slots)
good_link n l good = (grind (arith, nat_tests), grind (arith, nat_tests), grind (arith, nat_tests))

counted : (b : Bool) (f : TreeFault) → cond b None (Some f) ≡ None → b ≡ true
counted true f e = refl
counted false f e = let z : ◌≡◌ {A = ℕ} 0 1 = cc in absurd (omega arith)

-- the hops of a node, 0 where it has no way
abbrev pub depth_of : List TreeLink → ℕ → ℕ
depth_of ls v = unwrap_or (way ls v) 0

module _ (n : ℕ) (ls : List TreeLink) (sound : tree_fault n ls ≡ None) where
  past_count : or_else (option_map OutOfRange (first_below (λ k. bad_link n (link_at ls k)) (length ls)))
      (or_else (option_map Repeated (first_below (repeated_at ls) (length ls)))
      (option_map Unrooted (first_below (λ k. not (is_some (way ls (link_at ls k).child))) (length ls)))) ≡ None
  past_count = (neither (cond (eqb (length ls + 1) n) None (Some Count)) _ sound).1

  pub tree_count : length ls + 1 ≡ n
  tree_count =
      eqb-true (length ls + 1) n
      (counted (eqb (length ls + 1) n) Count (neither (cond (eqb (length ls + 1) n) None (Some Count)) _ sound).0)

  in_range : first_below (λ k. bad_link n (link_at ls k)) (length ls) ≡ None
  in_range =
      unmapped OutOfRange _
      (neither (option_map OutOfRange (first_below (λ k. bad_link n (link_at ls k)) (length ls))) _ past_count).0

  all_ways : first_below (λ k. not (is_some (way ls (link_at ls k).child))) (length ls) ≡ None
  all_ways =
      let past-range = (neither (option_map OutOfRange (first_below (λ k. bad_link n (link_at ls k)) (length ls))) _ past_count).1 in
      unmapped Unrooted _ (neither (option_map Repeated (first_below (repeated_at ls) (length ls))) _ past-range).1

  -- a child of the tree
  abbrev pub OnTree : ℕ → Type 0
  OnTree v = (v < n) × (0 < v) × (is_some (way ls v) ≡ true)

  all_on_tree : AllByRecursion (λ l. OnTree l.child) ls
  all_on_tree =
      All-from_get_or (λ l. OnTree l.child) ls (record { child = 0; parent = 0; slots = 0 })
      (λ k h.
      let good = good_link n (link_at ls k) (first_none (λ j. bad_link n (link_at ls j)) (length ls) k in_range h) in
      (good.0, good.1, not-false _ (first_none (λ j. not (is_some (way ls (link_at ls j).child))) (length ls) k all_ways h)))

  pub slot_node : (v : ℕ) → 0 < get_or (slot_table ls) v 0 → OnTree v
  slot_node v h =
      entered_from OnTree (λ l. l.slots) ls (replicate 64 0) v all_on_tree (λ some. absurd (omega (arith, empty_table v))) h

  pub slots_rooted : Rooted (slot_table ls) n (depth_of ls) (parent_table ls)
  slots_rooted c some =
      let on = slot_node c some in
      (on.0, hops_parent (parent_table ls) (length ls) c (let pos = on.1 in omega arith) on.2)

  module _ (few : n ≤ 64) where
    pub slots_sum : sum (slot_table ls) ≤ 256
    slots_sum =
        let long : length (slot_table ls) ≡ 64 =
        length_entered (λ l. l.slots) ls (replicate 64 0) ∙ length-replicate {A = ℕ} 64 0 in
        let bound = sum_by_le (λ x. x) 4 (slot_table ls) (slots_few ls (all_index n ls few in_range)) in
        omega arith

    pub slots_some : 2 ≤ n → 0 < sum (slot_table ls)
    slots_some two =
        let long : length (replicate {A = ℕ} 64 0) ≡ 64 = length-replicate {A = ℕ} 64 0 in
        entered_some (λ l. l.slots) ls (replicate 64 0) (omega (arith, tree_count))
        (All-weaker (λ l. OnTree l.child) (λ l. l.child < length (replicate {A = ℕ} 64 0))
        (λ l on. let low = on.0 in omega arith) ls all_on_tree)
        (All-from_get_or (λ l. 0 < l.slots) ls (record { child = 0; parent = 0; slots = 0 })
        (λ k h. (good_link n (link_at ls k) (first_none (λ j. bad_link n (link_at ls j)) (length ls) k in_range h)).2))
