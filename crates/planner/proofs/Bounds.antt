-- What the tables of a good tree keep within.
use Rattle.std.proofs.Common.{◌≡◌, ℕ, zero, suc, ◌<◌, ◌≤◌, List, [], ◌∷◌, length, get_or, replicate, Some, None, sum, Option, refl, ◌∙◌, arith}
use Rattle.routing.proofs.Trees.{all_index, length_entered, parents_index, slots_few}
use Rattle.routing.specs.declared.link.TreeLink.{TreeLink}
use Rattle.routing.specs.declared.routes.Routes.{Routes}
use Rattle.routing.specs.Search.{or_else}
use Rattle.routing.specs.Tree.{Indexes, routes_of, slot_table, tree_fault}
use Rattle.std.proofs.lemmas.List.{length-replicate}
use Rattle.std.proofs.ByRecursion.{sum_by_le}
use Rattle.std.specs.Option.{option_map}
use Rattle.std.specs.List.{AllByRecursion}

or_else_none : {X : Type 0} (a b : Option X) → or_else a b ≡ None → (a ≡ None) × (b ≡ None)
or_else_none None b e = (refl, e)
or_else_none (Some x) b e = let z : ◌≡◌ {A = ℕ} 0 1 = cc in absurd (omega arith)

mapped_none : {X Y : Type 0} (f : X → Y) (o : Option X) → option_map f o ≡ None → o ≡ None
mapped_none f None e = refl
mapped_none f (Some x) e = let z : ◌≡◌ {A = ℕ} 0 1 = cc in absurd (omega arith)

-- past its end a list of numbers reads as 0
within : (xs : List ℕ) (v : ℕ) → AllByRecursion (λ p. p < 64) xs → get_or xs v 0 < 64
within [] v each = omega arith
within (x ∷ xs) zero each = each.0
within (x ∷ xs) (suc v) each = within xs v each.1

module _ (n : ℕ) (ls : List TreeLink) (few : n ≤ 64) (good : tree_fault n ls ≡ None) where
  indexes : AllByRecursion Indexes ls
  indexes = all_index n ls few (mapped_none _ _ (or_else_none _ _ (or_else_none _ _ good).1).0)

  module _ (routes : Routes) (is : routes ≡ routes_of ls) where
    pub parents_below : (v : ℕ) → get_or routes.parents v 0 < 64
    parents_below v = within routes.parents v (rw is (parents_index ls indexes))

    pub slots_within : sum routes.slots ≤ 256
    slots_within =
        let most = sum_by_le (λ k. k) 4 (slot_table ls) (slots_few ls indexes) in
        let sized : length (slot_table ls) ≡ 64 = length_entered (λ l. l.slots) ls (replicate 64 0) ∙ length-replicate {A = ℕ} 64 0 in
        rw is (omega (arith, most, sized))
