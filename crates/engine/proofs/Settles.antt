-- A call on the table alone: the engine follows the rule where its table does.
use Rattle.std.proofs.Common.{◌≡◌, List, Some, None, Option, Result, sym, ap, subst}
use Rattle.engine.specs.Rows.{unless_refused}
use Rattle.engine.proofs.Safe.{stays_good}
use Rattle.rules.specs.declared.call.Call.{Call}
use Rattle.rules.specs.declared.refusal.Refusal.{Refusal}
use Rattle.rules.specs.declared.row.Row.{Row}
use Rattle.rules.specs.Rules.{View, settle, with_rows}
use Rattle.rules.specs.Runs.{step}
use Rattle.rules.proofs.Invariant.{Inv}

pub settled : (v : View) (refusal : Option Refusal) (r : Result (Unit {0}) Refusal) (rows' after : List Row)
    → (r, rows') ≡ unless_refused refusal v.rows after → (r, with_rows v rows') ≡ settle refusal after v
settled v (Some f) r rows' after e = ap (λ p. (p.0, with_rows v p.1)) e
settled v None r rows' after e = ap (λ p. (p.0, with_rows v p.1)) e

-- what a call of the rules leaves keeps the invariant
pub call_good : (v w : View) → ∥ Inv v ∥₁ → (c : Call) → w ≡ (step c v).1 → ∥ Inv w ∥₁
call_good v w good c e = subst (λ u. ∥ Inv u ∥₁) (sym e) (stays_good v good c)
