use Rattle.std.proofs.Common.{◌≡◌, ◌<◌, [], ◌∷◌, ◌++◌, None, Ok, rules, sym, refl, ap, ◌∙◌, subst, arith}
use Rattle.engine.specs.Admissions.{admit_refusal}
use Rattle.engine.specs.Bookings.{booked_by}
use Rattle.engine.specs.Engines.{view}
use Rattle.engine.specs.Views.{rows_of}
use Rattle.engine.proofs.Bookable.{book_done, number_left, stands_booked}
use Rattle.engine.proofs.Means.{book_judged}
use Rattle.engine.proofs.Safe.{below_rows, reckoned}
use Rattle.engine.proofs.Settles.{call_good}
use Rattle.engine.proofs.state.Engine.book.Goals as goal
use Rattle.rules.specs.declared.call.Call.TheVariants.{Book}
use Rattle.rules.specs.Rows.{booked_row}
use Rattle.rules.specs.Rules.{book}
use Rattle.std.specs.List.{AllByRecursion}

pub invariant_of-queries : goal.invariant_of-queries
invariant_of-queries c =
    let e = c.args.self.now in
    reckoned (view e) e.good c.deref.result.now c.deref.ensures.0 e.spread (omega arith)

pub returns-in_err-row-clause-judged : goal.returns-in_err-row-clause-judged
returns-in_err-row-clause-judged c =
    let e = c.args.self.now in
    let done : (booked_by c.from_residual.result, view e) ≡ book c.args.priority c.args.period c.args.deadline (view e) = search rules in
    book_judged (view e) e.good c.args.priority c.args.period c.args.deadline _ (view e) done

pub enter-requires-clause-above : goal.enter-requires-clause-above
enter-requires-clause-above c =
    let e = c.args.self.now in
    subst (λ r. AllByRecursion (λ h. h.number < r.number) (view e).rows) (sym c.in_ok-row.ensures.1) (below_rows (view e) e.good)

pub invariant_of-self-clause-good : goal.invariant_of-self-clause-good
invariant_of-self-clause-good c =
    let e = c.args.self.now in
    let admitted = c.in_ok-row.ensures in
    let x = booked_row e.next c.args.priority c.args.period c.args.deadline in
    let none : admit_refusal e.length e.distance e.next (view e).rows x ≡ None =
    ap (λ rows. admit_refusal e.length e.distance e.next rows x) (sym c.deref.ensures.0) ∙ admitted.0 in
    let left = number_left e.length e.distance e.next (view e).rows x none in
    let entered = c.enter.ensures ∙ ap (λ r. (view e).rows ++ r ∷ []) admitted.1 in
    let done = book_done (view e) c.args.priority c.args.period c.args.deadline e.next (rows_of c.enter.new.self) refl none entered in
    call_good (view e) _ e.good (Book c.args.priority c.args.period c.args.deadline) (ap (λ p. p.1) done)

pub returns-clause-judged : goal.returns-clause-judged
returns-clause-judged c =
    let e = c.args.self.now in
    let admitted = c.in_ok-row.ensures in
    let x = booked_row e.next c.args.priority c.args.period c.args.deadline in
    let none : admit_refusal e.length e.distance e.next (view e).rows x ≡ None =
    ap (λ rows. admit_refusal e.length e.distance e.next rows x) (sym c.deref.ensures.0) ∙ admitted.0 in
    let entered = c.enter.ensures ∙ ap (λ r. (view e).rows ++ r ∷ []) admitted.1 in
    book_judged (view e) e.good c.args.priority c.args.period c.args.deadline (Ok c.in_ok-row.row.number) _
    (book_done (view e) c.args.priority c.args.period c.args.deadline c.in_ok-row.row.number (rows_of c.enter.new.self)
    (ap (λ r. r.number) admitted.1) none entered)

pub returns-clause-stands : goal.returns-clause-stands
returns-clause-stands c =
    let e = c.args.self.now in
    let admitted = c.in_ok-row.ensures in
    let entered = c.enter.ensures ∙ ap (λ r. (view e).rows ++ r ∷ []) admitted.1 in
    stands_booked (view e).rows (rows_of c.enter.new.self) (booked_row e.next c.args.priority c.args.period c.args.deadline)
    c.in_ok-row.row.number (ap (λ r. r.number) admitted.1) refl (below_rows (view e) e.good) entered
