use Rattle.std.proofs.Common.{◌∷◌, ◌++◌, decimal, ap, ◌∙◌, arith}
use Rattle.std.proofs.Math.ListN.{drop_of_length-le}
use Rattle.daytext.proofs.Ends.{shorter}
use Rattle.daytext.proofs.printer.put_three.Goals as goal

pub returns-clause-before : goal.returns-clause-before
returns-clause-before g c =
    c.put_two.ensures.before
    ∙ shorter c.put_two.result c.put_number-end.result c.put_number-end.new.text c.args.text.now (omega (arith, c.put_two.ensures.start)) c.put_number-end.ensures.before

pub returns-clause-text : goal.returns-clause-text
returns-clause-text g c =
    c.put_two.ensures.text
    ∙ ap (λ l. c.args.word.now ++ (32 ∷ (decimal c.args.first ++ (32 ∷ (decimal c.args.second ++ l)))))
    (c.put_number-end.ensures.text ∙ ap (λ l. 32 ∷ (decimal c.args.third ++ l)) (drop_of_length-le c.args.text.now {i = 40} (omega (arith, c.told-text))))
