use Rattle.std.proofs.Common.{arith}
use Rattle.std.proofs.lemmas.Grind.{common_steps}
use Rattle.daytext.proofs.Spaced.{spaced_more}
use Rattle.daytext.proofs.printer.line.Goals as goal

pub loop-number-preserved : goal.loop-number-preserved
loop-number-preserved c =
    let more = spaced_more c.args.numbers.now c.loop-number.number-index c.loop-number-test.true in
    (grind (arith, common_steps), grind (arith, common_steps))
