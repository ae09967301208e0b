-- What an admitted row says, and what booking it leaves.
use Rattle.std.proofs.Common.{◌≡◌, ℕ, ◌+◌, ◌<◌, ◌≤◌, Bool, true, false, not, ltb, leb, List, [], ◌∷◌, ◌++◌, length, Some, None, Ok, Option, refl, arith}
use Rattle.engine.specs.Admissions.{admit_refusal}
use Rattle.routing.specs.Search.{or_else}
use Rattle.rules.specs.declared.refusal.Refusal.{Refusal}
use Rattle.rules.specs.declared.refusal.Refusal.TheVariants.{Terms, Numbers, TableFull}
use Rattle.rules.specs.declared.row.Row.{Row}
use Rattle.rules.specs.Phases.{is_booked}
use Rattle.rules.specs.Rows.{booked_row, row_of}
use Rattle.rules.specs.Rules.{View, book, book_refusal, fair, naming, unless_booked, when}
use Rattle.rules.specs.Waits.{first_late}
use Rattle.std.proofs.lemmas.Bool.{eq-eqb, ltb-false, ne_eqb}
use Rattle.std.specs.List.{AllByRecursion}

neither : {X : Type 0} (a b : Option X) → or_else a b ≡ None → (a ≡ None) × (b ≡ None)
neither None b e = (refl, e)
neither (Some x) b e = let z : ◌≡◌ {A = ℕ} 0 1 = cc in absurd (omega arith)

unless : (t : Bool) (r : Refusal) → when t r ≡ None → t ≡ false
unless true r e = let z : ◌≡◌ {A = ℕ} 0 1 = cc in absurd (omega arith)
unless false r e = refl

module _ (steps distance next : ℕ) (rows : List Row) (x : Row) (none : admit_refusal steps distance next rows x ≡ None) where
  past_terms : or_else (when (ltb 1000000 next) Numbers) (or_else (when (leb 32 (length rows)) TableFull) (naming (first_late steps distance (rows ++ x ∷ [])))) ≡ None
  past_terms = (neither (when (not (fair x.period x.deadline)) Terms) _ none).1

  pub number_left : next ≤ 1000000
  number_left = ltb-false 1000000 next (unless (ltb 1000000 next) Numbers (neither (when (ltb 1000000 next) Numbers) _ past_terms).0)

module _ (v : View) (priority period deadline : ℕ) where
  pub book_done : (k : ℕ) (rows' : List Row) → k ≡ v.next → book_refusal (booked_row v.next priority period deadline) v ≡ None
      → rows' ≡ v.rows ++ booked_row v.next priority period deadline ∷ []
      → (
        Ok k,
        record {
          length = v.length;
          distance = v.distance;
          slot = v.slot;
          last = v.last;
          running = v.running;
          next = v.next + 1;
          rows = rows';
        },
      ) ≡ book priority period deadline v
  book_done k rows' same none e = rw (same, e, none) refl

-- the row entered last is that of its number
row_last : (rows : List Row) (x : Row) → AllByRecursion (λ h. h.number < x.number) rows → row_of x.number (rows ++ x ∷ []) ≡ Some x
row_last [] x below = rw (eq-eqb x.number x.number refl) refl
row_last (h ∷ rows) x below =
    rw (ne_eqb h.number x.number (λ e. let less = below.0 in omega arith)) (row_last rows x below.1)

pub stands_booked : (rows rows' : List Row) (x : Row) (k : ℕ) → k ≡ x.number → is_booked x.phase ≡ true
    → AllByRecursion (λ h. h.number < x.number) rows → rows' ≡ rows ++ x ∷ [] → unless_booked (row_of k rows') ≡ None
stands_booked rows rows' x k same booked below e = rw (same, e, row_last rows x below, booked) refl
