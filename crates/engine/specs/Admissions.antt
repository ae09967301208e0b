-- Admission by the parts of an engine.
use Rattle.std.specs.Prelude.{◌≡◌, ℕ, not, List, [], ◌∷◌, ◌++◌, length, Some, None, Ok, Err, Option, Result, nat_le, nat_lt}
use Rattle.routing.specs.Search.{or_else}
use Rattle.rules.specs.declared.refusal.Refusal.{Refusal}
use Rattle.rules.specs.declared.refusal.Refusal.TheVariants.{Terms, Numbers, TableFull}
use Rattle.rules.specs.declared.row.Row.{Row}
use Rattle.rules.specs.Rules.{fair, naming, when}
use Rattle.rules.specs.Waits.{first_late}

-- the rule's refusal of a row, by length, distance, next number and rows
abbrev pub admit_refusal : ℕ → ℕ → ℕ → List Row → Row → Option Refusal
admit_refusal steps distance next rows x =
    or_else (when (not (fair x.period x.deadline)) Terms)
    (or_else (when (nat_lt 1000000 next) Numbers)
    (or_else (when (nat_le 32 (length rows)) TableFull)
    (naming (first_late steps distance (rows ++ x ∷ [])))))

-- the row, or its refusal
abbrev pub Admitted : Row → Option Refusal → Result Row Refusal → Type 0
Admitted x refusal (Ok row) = (refusal ≡ None) × (row ≡ x)
Admitted x refusal (Err r) = refusal ≡ Some r
