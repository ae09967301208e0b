-- Rows in the order of their numbers.
use Rattle.std.specs.Prelude.{◌<◌, List, [], ◌∷◌, ⊤}
use Rattle.rules.specs.declared.row.Row.{Row}
use Rattle.std.specs.Coded.{×_prop, Unit-prop, le_prop}
use Rattle.std.specs.List.{AllByRecursion, AllByRecursion-prop}

-- each row has a smaller number than those after it
abbrev pub Rising : List Row → Type 0
Rising [] = ⊤
Rising (h ∷ rows) = AllByRecursion (λ q. h.number < q.number) rows × Rising rows

pub Rising-prop : (rows : List Row) → IsProp (Rising rows)
Rising-prop [] = Unit-prop
Rising-prop (h ∷ rows) = ×_prop (AllByRecursion-prop _ (λ q. le_prop) rows) (Rising-prop rows)
