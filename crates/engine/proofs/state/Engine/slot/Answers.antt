use Rattle.std.proofs.Common.{◌≡◌, ◌≤◌, length, sym, ap, ◌∙◌, subst, rules, arith}
use Rattle.engine.specs.Engines.{view}
use Rattle.engine.specs.Rounds.{Runs}
use Rattle.engine.specs.Starts.{last_by}
use Rattle.engine.specs.Views.{rows_of}
use Rattle.engine.proofs.Slots.{fit_now, over_by, room_now, runs_now, slot_left, slot_left_by, started_any}
use Rattle.engine.proofs.Settles.{call_good}
use Rattle.engine.proofs.state.Engine.slot.Goals as goal
use Rattle.rules.specs.declared.call.Call.TheVariants.{Slot}
use Rattle.rules.specs.Rules.{most_lines, start_any}
use Rattle.std.specs.List.{AllByRecursion}

pub start_any-requires : goal.start_any-requires
start_any-requires c =
    let e = c.args.self.now in
    let v = view e in
    let same = started_any v c.may_start-may.result c.start_any-started.result (rows_of c.start_any-started.new.self) c.may_start-may.ensures c.start_any-started.ensures in
    λ some.
    let few = room_now v e.good e.short e.spread c.start_any-started.result (rows_of c.start_any-started.new.self) same some in
    omega arith

pub write_lines-count-requires : goal.write_lines-count-requires
write_lines-count-requires c =
    let e = c.args.self.now in
    let v = view e in
    let same = started_any v c.may_start-may.result c.start_any-started.result (rows_of c.start_any-started.new.self) c.may_start-may.ensures c.start_any-started.ensures in
    let running = c.start_any.new.self in
    let run : running.rounds.items ≡ (start_any v).running = c.start_any.ensures ∙ ap (λ w. w.running) same in
    let wide : most_lines v ≤ length c.args.lines.now = omega arith in
    let fits = fit_now v e.good e.short e.spread (length c.args.lines.now) running.rounds.items run wide in
    record { fit = fits; run = subst (AllByRecursion (Runs e.slot)) (sym run) (runs_now v e.good e.short e.spread) }

pub invariant_of-self-clause-good : goal.invariant_of-self-clause-good
invariant_of-self-clause-good c =
    let e = c.args.self.now in
    let v = view e in
    let same = started_any v c.may_start-may.result c.start_any-started.result (rows_of c.start_any-started.new.self) c.may_start-may.ensures c.start_any-started.ensures in
    let running = c.start_any.new.self in
    let last : c.or-self.result ≡ last_by c.start_any-started.result e.slot e.last = search rules in
    let over = over_by v c.start_any-started.result (rows_of c.start_any-started.new.self) c.or-self.result running.rounds.items c.drop_finished.new.self.rounds.items last c.start_any.ensures c.drop_finished.ensures in
    let room = length c.args.lines.now in
    let wide : most_lines v ≤ room = omega arith in
    let none = slot_left v room c.if-self-eq-LAST_SLOT.false wide in
    call_good v _ e.good (Slot room) (slot_left_by v room _ _ none same over)
