-- Loads over a list of rows, row by row.
use Rattle.std.proofs.Common.{◌≡◌, ℕ, ◌+◌, ◌*◌, ◌/◌, ◌≤◌, Bool, true, false, cond, leb, List, [], ◌∷◌, ◌++◌, length, Some, None, Option, MatchOption, refl, ap, ◌∙◌, arith}
use Rattle.engine.specs.Tables.{queries_of}
use Rattle.rules.specs.declared.row.Row.{Row}
use Rattle.rules.specs.Lists.{total}
use Rattle.rules.specs.Rows.{before}
use Rattle.rules.specs.Waits.{against, ends_by, load, rounds}
use Rattle.std.proofs.Math.Nat.{div-le_self}
use Rattle.std.proofs.lemmas.List.Sums.{sum_by-cons}
use Rattle.std.specs.List.{sum_by}
use Rattle.std.specs.Option.{option_to_list}

total-append : (f : Row → ℕ) (xs ys : List Row) → total f (xs ++ ys) ≡ total f xs + total f ys
total-append f [] ys = omega arith
total-append f (x ∷ xs) ys = let more = total-append f xs ys in omega arith

-- one row more weighs against q by itself
pub load_extra : (rows : List Row) (extra : Option Row) (q : Row) (w : ℕ)
    → load (queries_of rows extra) q w ≡ load rows q w + load (option_to_list extra) q w
load_extra rows extra q w = total-append (against q (rounds w)) rows (option_to_list extra)

pub load_sum : (rows : List Row) (q : Row) (w : ℕ) → sum_by (against q (rounds w)) rows ≡ load rows q w
load_sum [] q w = refl
load_sum (h ∷ rows) q w = sum_by-cons (against q (rounds w)) h rows ∙ ap (λ n. against q (rounds w) h + n) (load_sum rows q w)

against_small : (h q : Row) (w : ℕ) → w ≤ 60000 → against q (rounds w) h ≤ 60001
against_small h q w small = go (before h q)
  where
    go : (b : Bool) → cond b (w / h.period + 1) 0 ≤ 60001
    go true = let less = div-le_self w h.period in omega arith
    go false = omega arith

pub load_small : (rows : List Row) (q : Row) (w : ℕ) → w ≤ 60000 → load rows q w ≤ 60001 * length rows
load_small [] q w small = omega arith
load_small (h ∷ rows) q w small =
    let one = against_small h q w small in
    let rest = load_small rows q w small in
    omega arith

-- the load of the one that is asked for, if any
pub load_first : (extra : Option Row) (q : Row) (w : ℕ) (r : ℕ) (P : Row → Type 0) → MatchOption extra (r ≡ 0) P
    → ((x : Row) → P x → (r ≡ against q (rounds w) x) × (r ≤ 60001)) → (r ≡ load (option_to_list extra) q w) × (r ≤ 60001)
load_first None q w r P m says = (m, omega arith)
load_first (Some x) q w r P m says = let s = says x m in (omega arith, s.1)

pub ends : (o : Option ℕ) (steps deadline : ℕ) (b : Bool) (P : ℕ → Type 0) → MatchOption o (b ≡ false) P
    → ((w : ℕ) → P w → b ≡ leb (w + steps) deadline) → b ≡ ends_by o steps deadline
ends None steps deadline b P m says = m
ends (Some w) steps deadline b P m says = says w m
