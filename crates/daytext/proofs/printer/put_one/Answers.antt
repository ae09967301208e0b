use Rattle.std.proofs.Common.{◌-◌, ◌∙◌, arith}
use Rattle.std.proofs.lemmas.Slice.{take-put_mid_below}
use Rattle.daytext.proofs.Ends.{shorter}
use Rattle.daytext.proofs.printer.put_one.Goals as goal

pub returns-clause-before : goal.returns-clause-before
returns-clause-before g c =
    let at = c.put_number-end.result in
    take-put_mid_below (at - g.row.N) (at - (at - g.row.N)) c.put_number-end.new.text c.copy_from_slice.new.self (at - g.row.N) (omega arith) (omega (arith, c.put_number-end.array_long))
    ∙ shorter (at - g.row.N) at c.put_number-end.new.text c.args.text.now (omega arith) c.put_number-end.ensures.before
