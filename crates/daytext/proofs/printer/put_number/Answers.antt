use Rattle.std.proofs.Common.{◌≡◌, ◌+◌, ◌-◌, ◌∷◌, ◌++◌, length, drop, decimal, ap, ◌∙◌, arith}
use Rattle.std.proofs.lemmas.List.{drop-set, take-set}
use Rattle.daytext.proofs.Ends.{length_number, shorter}
use Rattle.daytext.proofs.printer.put_number.Goals as goal

pub write_digits-digits-requires : goal.write_digits-digits-requires
write_digits-digits-requires c = (omega (arith, length_number c.from.result (omega (arith, c.from.ensures))), omega arith)

pub overflow_sub-text : goal.overflow_sub-text
overflow_sub-text c = omega (arith, c.write_digits-digits.ensures.start, length_number c.from.result (omega (arith, c.from.ensures)))

pub overflow_sub-result : goal.overflow_sub-result
overflow_sub-result c = omega (arith, c.write_digits-digits.ensures.start, length_number c.from.result (omega (arith, c.from.ensures)))

pub returns : goal.returns
returns c =
    let digits = c.write_digits-digits.ensures in
    let long = length_number c.from.result (omega (arith, c.from.ensures)) in
    let same = ap (λ n. length (decimal n)) c.from.ensures in
    let buf = c.write_digits-digits.new.buf in
    let at = c.write_digits-digits.result in
    let from : at - 1 + 1 ≡ at = omega (arith, digits.start, long) in
    record {
      start = omega (arith, digits.start, long, same);
      bound = omega (arith, digits.start, long);
      before = take-set buf (at - 1) 32 ∙ shorter (at - 1) at buf c.args.text.now (omega (arith, digits.start, long)) digits.before;
      text =
          drop-set buf (at - 1) 32 (omega (arith, digits.start, c.write_digits-digits.auto.buf, long))
          ∙ ap (λ k. 32 ∷ drop k buf) from
          ∙ ap (λ l. 32 ∷ l) (digits.written ∙ ap (λ n. decimal n ++ drop c.args.end c.args.text.now) c.from.ensures);
    }
