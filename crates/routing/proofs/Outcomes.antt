-- The one outcome of a tree, from what the searches find. `held` is the number of nodes as the code has it.
use Rattle.std.proofs.Common.{◌≡◌, ℕ, zero, suc, ◌+◌, ◌≤◌, not, List, [], ◌∷◌, length, is_some, Some, None, Option, unwrap_or, sym, refl, ap, ◌∙◌, arith}
use Rattle.routing.specs.declared.fault.TreeFault.TheVariants.{OutOfRange, Repeated, Unrooted}
use Rattle.routing.specs.declared.link.TreeLink.{TreeLink}
use Rattle.routing.specs.declared.routes.Routes.{Routes}
use Rattle.routing.specs.Search.{first_below}
use Rattle.routing.specs.Tree.{Indexes, bad_link, by_node, depth_table, hops, link_at, parent_table, repeated_at, routes_of, slot_table, tree_fault}
use Rattle.routing.proofs.Searches.{position_below, position_range}
use Rattle.routing.proofs.Trees.{all_index}
use Rattle.std.specs.List.{position, range_with_len}
use Rattle.std.proofs.lemmas.Bool.{eq-eqb}
use Rattle.std.specs.List.{AllByRecursion}

-- what the search for a way finds, along a table of parents
abbrev pub lost : List ℕ → List TreeLink → Option ℕ
lost parents ls = position (λ l. not (is_some (hops parents (length ls) l.child))) ls

-- past its end a list of records reads as a record of zeros
All-or_default : (ls : List TreeLink) → AllByRecursion Indexes ls → (k : ℕ) → Indexes (link_at ls k)
All-or_default [] each k = (omega arith, omega arith, omega arith)
All-or_default (l ∷ ls) each zero = each.0
All-or_default (l ∷ ls) each (suc k) = All-or_default ls each.1 k

-- the searches of the code, by place
lost_below : (parents : List ℕ) (ls : List TreeLink)
    → lost parents ls ≡ first_below (λ k. not (is_some (hops parents (length ls) (link_at ls k).child))) (length ls)
lost_below parents ls = position_below (λ l. not (is_some (hops parents (length ls) l.child))) ls (record { child = 0; parent = 0; slots = 0 })

bad_below : (n : ℕ) (ls : List TreeLink) → position (bad_link n) ls ≡ first_below (λ k. bad_link n (link_at ls k)) (length ls)
bad_below n ls = position_below (bad_link n) ls (record { child = 0; parent = 0; slots = 0 })

abbrev pub repeated : List TreeLink → Option ℕ
repeated ls = position (repeated_at ls) (range_with_len 0 (length ls))

module _ (n : ℕ) (ls : List TreeLink) (sized : length ls + 1 ≡ n) where
  pub bad_fault : (k : ℕ) → Some k ≡ position (bad_link n) ls → tree_fault n ls ≡ Some (OutOfRange k)
  bad_fault k found = rw (eq-eqb (length ls + 1) n sized, sym (found ∙ bad_below n ls)) refl

  module _ (ranged : None ≡ position (bad_link n) ls) where
    pub repeated_fault : (k : ℕ) → Some k ≡ repeated ls → tree_fault n ls ≡ Some (Repeated k)
    repeated_fault k found = rw (eq-eqb (length ls + 1) n sized, sym (ranged ∙ bad_below n ls), sym (found ∙ position_range (repeated_at ls) (length ls))) refl

    indexes : n ≤ 64 → AllByRecursion Indexes ls
    indexes few = all_index n ls few (sym (ranged ∙ bad_below n ls))

    pub indexed : n ≤ 64 → (k : ℕ) → Indexes (link_at ls k)
    indexed few k = All-or_default ls (indexes few) k

    module _ (distinct : None ≡ repeated ls) (parents : List ℕ) (is : parents ≡ parent_table ls) where
      pub unrooted_fault : (k : ℕ) → Some k ≡ lost parents ls → tree_fault n ls ≡ Some (Unrooted k)
      unrooted_fault k found =
          let along : lost (parent_table ls) ls ≡ Some k = ap (λ ps. lost ps ls) (sym is) ∙ sym found in
          rw (eq-eqb (length ls + 1) n sized, sym (ranged ∙ bad_below n ls), sym (distinct ∙ position_range (repeated_at ls) (length ls)), sym (lost_below (parent_table ls) ls) ∙ along) refl

      pub no_fault : None ≡ lost parents ls → tree_fault n ls ≡ None
      no_fault found =
          let along : lost (parent_table ls) ls ≡ None = ap (λ ps. lost ps ls) (sym is) ∙ sym found in
          rw (eq-eqb (length ls + 1) n sized, sym (ranged ∙ bad_below n ls), sym (distinct ∙ position_range (repeated_at ls) (length ls)), sym (lost_below (parent_table ls) ls) ∙ along) refl

pub routes_are : (ls : List TreeLink) (parents slots depths : List ℕ) → parents ≡ parent_table ls → slots ≡ slot_table ls
    → depths ≡ by_node (λ l. unwrap_or (hops parents (length ls) l.child) 0) ls
    → ◌≡◌ {A = Routes} (record { parents = parents; slots = slots; depths = depths }) (routes_of ls)
routes_are ls parents slots depths p s d =
    let along : depths ≡ depth_table ls = d ∙ ap (λ ps. by_node (λ l. unwrap_or (hops ps (length ls) l.child) 0) ls) p in cc
