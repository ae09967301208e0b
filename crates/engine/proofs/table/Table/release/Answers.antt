use Rattle.std.proofs.Common.{length, refl, sym, ap, ◌∙◌, subst, arith}
use Rattle.engine.specs.Entries.{entry_of, sooner}
use Rattle.engine.specs.declared.waiting.Waiting.{Waiting}
use Rattle.engine.specs.Views.{rows_of}
use Rattle.engine.proofs.Changes.{allowed, denied, done, lost, made, put_in, release_others, row_here, written}
use Rattle.engine.proofs.Places.{row_at}
use Rattle.engine.proofs.Tables.{Held, facts, held_released, room_released, table_held}
use Rattle.engine.proofs.table.Table.release.Goals as goal
use Rattle.queue.specs.Ranked.{placed}
use Rattle.rules.specs.Rows.{release_row}
use Rattle.rules.specs.Rules.{release_refusal}
use Rattle.std.proofs.lemmas.Result.{err_from_is_err_and}

pub returns-in_err-i : goal.returns-in_err-i
returns-in_err-i c =
    let p = err_from_is_err_and c.from_residual.result c.from_residual.ensures.1 in
    rw (p.1, p.2)
    (lost (λ q. release_refusal q c.args.slot) (release_row c.args.slot) (release_others c.args.slot) c.args.number (rows_of c.args.self.now)
    _ c.place.ensures _ _ c.in_err-i.ensures.value refl)

pub returns-in_err-row : goal.returns-in_err-row
returns-in_err-row c =
    let rows = rows_of c.args.self.now in
    let p = err_from_is_err_and c.from_residual-in_err-row.result c.from_residual-in_err-row.ensures.1 in
    rw (p.1, p.2) (denied (λ q. release_refusal q c.args.slot) (release_row c.args.slot) (release_others c.args.slot) c.args.number rows c.in_ok-i.i _ c.place.ensures c.in_ok-i.ensures.ok_part _ c.deref.ensures.0 _ c.in_err-row.ensures)

pub invariant_of-self : goal.invariant_of-self
invariant_of-self c =
    let table = c.args.self.now in
    let rows = rows_of table in
    let q = row_at rows c.in_ok-i.i in
    let row = row_here (λ q. release_refusal q c.args.slot) (release_row c.args.slot) (release_others c.args.slot) c.args.number rows c.in_ok-i.i _ c.place.ensures c.in_ok-i.ensures.ok_part _ c.deref.ensures.0 in
    let none = allowed (λ q. release_refusal q c.args.slot) (release_row c.args.slot) (release_others c.args.slot) c.args.number rows c.in_ok-i.i _ c.place.ensures c.in_ok-i.ensures.ok_part _ c.deref.ensures.0 _ c.in_ok-row.ensures _ c.deref_mut.ensures.value table.rising in
    let room = room_released rows table.waiting (table_held table) c.args.number c.args.slot q row none in
    let long = ap length c.deref.ensures.0 in
    let put = (put_in c.push.result c.push.ensures (λ full. let l = full.0 in absurd (omega arith))).1.1 in
    let entry = c.of.ensures ∙ ap entry_of (made (λ q. release_refusal q c.args.slot) (release_row c.args.slot) (release_others c.args.slot) c.args.number rows c.in_ok-i.i _ c.place.ensures c.in_ok-i.ensures.ok_part _ c.deref.ensures.0 _ c.in_ok-row.ensures _ c.deref_mut.ensures.value table.rising) in
    let after = put ∙ ap (λ (w : Waiting). placed sooner w table.waiting) entry in
    facts (written (λ q. release_refusal q c.args.slot) (release_row c.args.slot) (release_others c.args.slot) c.args.number rows c.in_ok-i.i _ c.place.ensures c.in_ok-i.ensures.ok_part _ c.deref.ensures.0 _ c.in_ok-row.ensures _ c.deref_mut.ensures.value table.rising)
    (subst (Held table.closing _) (sym after) (held_released rows table.waiting (table_held table) c.args.number c.args.slot q row none))

pub unwrap-requires : goal.unwrap-requires
unwrap-requires c =
    let table = c.args.self.now in
    let rows = rows_of table in
    let q = row_at rows c.in_ok-i.i in
    let row = row_here (λ q. release_refusal q c.args.slot) (release_row c.args.slot) (release_others c.args.slot) c.args.number rows c.in_ok-i.i _ c.place.ensures c.in_ok-i.ensures.ok_part _ c.deref.ensures.0 in
    let none = allowed (λ q. release_refusal q c.args.slot) (release_row c.args.slot) (release_others c.args.slot) c.args.number rows c.in_ok-i.i _ c.place.ensures c.in_ok-i.ensures.ok_part _ c.deref.ensures.0 _ c.in_ok-row.ensures _ c.deref_mut.ensures.value table.rising in
    let room = room_released rows table.waiting (table_held table) c.args.number c.args.slot q row none in
    let long = ap length c.deref.ensures.0 in
    (put_in c.push.result c.push.ensures (λ full. let l = full.0 in absurd (omega arith))).0

pub returns : goal.returns
returns c =
    let rows = rows_of c.args.self.now in
    done (λ q. release_refusal q c.args.slot) (release_row c.args.slot) (release_others c.args.slot) c.args.number rows c.in_ok-i.i _ c.place.ensures c.in_ok-i.ensures.ok_part _ c.deref.ensures.0 _ c.in_ok-row.ensures _ c.deref_mut.ensures.value c.args.self.now.rising
