-- What the tables of a tree hold, and the way from a node to the base station.
use Rattle.std.proofs.Common.{◌≡◌, ℕ, zero, suc, ◌+◌, ◌-◌, ◌<◌, ◌≤◌, false, List, [], ◌∷◌, length, get_or, drop, set, replicate, Some, None, Option, sym, refl, ap, ◌∙◌, arith}
use Rattle.routing.specs.declared.link.TreeLink.{TreeLink}
use Rattle.routing.specs.Search.{first_below}
use Rattle.routing.specs.Tree.{Indexes, bad_link, entered, hops, link_at, parent_table, slot_table}
use Rattle.routing.proofs.Searches.{first_none}
use Rattle.std.proofs.ByRecursion.{All-from_get_or, All-set, All-weaker}
use Rattle.std.proofs.lemmas.List.{at_drop_all, at_drop_more, length-set}
use Rattle.std.proofs.lemmas.Bool.{ne_eqb}
use Rattle.std.proofs.lemmas.Bool.Decides.{nat_tests}
use Rattle.std.specs.Option.{option_map}
use Rattle.std.specs.List.{AllByRecursion}

bad_not : (n : ℕ) (l : TreeLink) → n ≤ 64 → bad_link n l ≡ false → Indexes l
bad_not n l few good = (grind (arith, nat_tests), grind (arith, nat_tests), grind (arith, nat_tests))

pub all_index : (n : ℕ) (ls : List TreeLink) → n ≤ 64 → first_below (λ k. bad_link n (link_at ls k)) (length ls) ≡ None
    → AllByRecursion Indexes ls
all_index n ls few none =
    All-from_get_or Indexes ls (record { child = 0; parent = 0; slots = 0 })
    (λ i h. bad_not n (link_at ls i) few (first_none (λ k. bad_link n (link_at ls k)) (length ls) i none h))

-- one record more in a table
pub enter_more : (value : TreeLink → ℕ) (ls : List TreeLink) (table all : List ℕ) (i x : ℕ) → i < length ls
    → x ≡ value (link_at ls i) → entered value (drop i ls) table ≡ all
    → entered value (drop (i + 1) ls) (set table (link_at ls i).child x) ≡ all
enter_more value ls table all i x h is e =
    ap (λ y. entered value (drop (i + 1) ls) (set table (link_at ls i).child y)) is
    ∙ sym (at_drop_more (λ rest. entered value rest table) ls i (record { child = 0; parent = 0; slots = 0 }) h) ∙ e

pub enter_all : (value : TreeLink → ℕ) (ls : List TreeLink) (table all : List ℕ) (i : ℕ) → length ls ≤ i
    → entered value (drop i ls) table ≡ all → table ≡ all
enter_all value ls table all i h e = sym (at_drop_all (λ rest. entered value rest table) ls i h) ∙ e

-- what all values of a table keep
pub all_entered : (P : ℕ → Type 0) (value : TreeLink → ℕ) (ls : List TreeLink) (table : List ℕ)
    → AllByRecursion (λ l. P (value l)) ls → AllByRecursion P table → AllByRecursion P (entered value ls table)
all_entered P value [] table each start = start
all_entered P value (l ∷ ls) table each start =
    all_entered P value ls (set table l.child (value l)) each.1 (All-set P table l.child (value l) each.0 start)

all_replicate : (P : ℕ → Type 0) (n x : ℕ) → P x → AllByRecursion P (replicate n x)
all_replicate P zero x h = tt
all_replicate P (suc n) x h = (h, all_replicate P n x h)

pub parents_index : (ls : List TreeLink) → AllByRecursion Indexes ls → AllByRecursion (λ p. p < 64) (parent_table ls)
parents_index ls each =
    all_entered (λ p. p < 64) (λ l. l.parent) ls (replicate 64 0)
    (All-weaker Indexes (λ l. l.parent < 64) (λ l h. h.1) ls each) (all_replicate (λ p. p < 64) 64 0 (omega arith))

pub slots_few : (ls : List TreeLink) → AllByRecursion Indexes ls → AllByRecursion (λ k. k ≤ 4) (slot_table ls)
slots_few ls each =
    all_entered (λ k. k ≤ 4) (λ l. l.slots) ls (replicate 64 0)
    (All-weaker Indexes (λ l. l.slots ≤ 4) (λ l h. h.2) ls each) (all_replicate (λ k. k ≤ 4) 64 0 (omega arith))

pub length_entered : (value : TreeLink → ℕ) (ls : List TreeLink) (table : List ℕ) → length (entered value ls table) ≡ length table
length_entered value [] table = refl
length_entered value (l ∷ ls) table = length_entered value ls (set table l.child (value l)) ∙ length-set table l.child (value l)

-- ---- a walk to the base station: i hops are done

abbrev pub after : ℕ → Option ℕ → Option ℕ
after i o = option_map (λ k. i + k) o

after_more : (i : ℕ) (o : Option ℕ) → after i (option_map suc o) ≡ after (i + 1) o
after_more i None = refl
after_more i (Some k) = ap Some (omega arith)

hops_home : (ps : List ℕ) (most v : ℕ) → v ≡ 0 → hops ps most v ≡ Some 0
unfolding hops
hops_home ps zero v e = rw e refl
hops_home ps (suc most) v e = rw e refl

hops_away : (ps : List ℕ) (most v : ℕ) → (v ≡ 0 → ⊥) → 0 < most
    → hops ps most v ≡ option_map suc (hops ps (most - 1) (get_or ps v 0))
unfolding hops
hops_away ps zero v ne h = absurd (omega arith)
hops_away ps (suc most) v ne h = let same : suc most - 1 ≡ most = omega arith in rw (ne_eqb v 0 ne, same) refl

pub walk_start : (ps : List ℕ) (most v : ℕ) → hops ps most v ≡ after 0 (hops ps (most - 0) v)
walk_start ps most v = let same : most - 0 ≡ most = omega arith in rw same (sym (after_none (hops ps most v)))
  where
    after_none : (o : Option ℕ) → after 0 o ≡ o
    after_none None = refl
    after_none (Some k) = ap Some (omega arith)

pub walk_home : (ps : List ℕ) (most i v at : ℕ) → hops ps most v ≡ after i (hops ps (most - i) at) → at ≡ 0
    → Some i ≡ hops ps most v
walk_home ps most i v at was e =
    sym (was ∙ ap (after i) (hops_home ps (most - i) at e) ∙ ap Some (omega arith))

pub walk_more : (ps : List ℕ) (most i v at : ℕ) → i < most → (at ≡ 0 → ⊥) → hops ps most v ≡ after i (hops ps (most - i) at)
    → hops ps most v ≡ after (i + 1) (hops ps (most - (i + 1)) (get_or ps at 0))
walk_more ps most i v at h ne was =
    let less : most - i - 1 ≡ most - (i + 1) = omega arith in
    was ∙ ap (after i) (hops_away ps (most - i) at ne (omega arith) ∙ ap (λ m. option_map suc (hops ps m (get_or ps at 0))) less)
    ∙ after_more i (hops ps (most - (i + 1)) (get_or ps at 0))

pub walk_lost : (ps : List ℕ) (most i v at : ℕ) → i ≡ most → (at ≡ 0 → ⊥) → hops ps most v ≡ after i (hops ps (most - i) at)
    → None ≡ hops ps most v
unfolding hops
walk_lost ps most i v at e ne was =
    let none : most - i ≡ 0 = omega arith in
    let lost : hops ps 0 at ≡ None = rw (ne_eqb at 0 ne) refl in
    sym (was ∙ ap (λ m. after i (hops ps m at)) none ∙ ap (after i) lost)
