use Rattle.std.proofs.Common.{◌≡◌, ◌+◌, ◌-◌, ◌∷◌, drop, ap, ◌∙◌, arith}
use Rattle.std.proofs.lemmas.List.{drop-set}
use Rattle.lines.proofs.Texts.{length_decimal}
use Rattle.lines.proofs.line.put_number.Goals as goal

pub write_digits-digits-requires : goal.write_digits-digits-requires
write_digits-digits-requires c = (omega (arith, length_decimal c.args.number (omega arith)), omega arith)

pub overflow_sub-text : goal.overflow_sub-text
overflow_sub-text c = omega (arith, length_decimal c.args.number (omega arith))

pub overflow_sub-result : goal.overflow_sub-result
overflow_sub-result c = omega (arith, length_decimal c.args.number (omega arith))

pub returns : goal.returns
returns c =
    let digits = c.write_digits-digits.ensures in
    let from : c.write_digits-digits.result - 1 + 1 ≡ c.write_digits-digits.result = omega (arith, digits.start, length_decimal c.args.number (omega arith)) in
    record {
      start = omega (arith, digits.start, length_decimal c.args.number (omega arith));
      bound = omega (arith, digits.start, length_decimal c.args.number (omega arith));
      text =
          drop-set c.write_digits-digits.new.buf (c.write_digits-digits.result - 1) 32 (omega (arith, digits.start, c.write_digits-digits.auto.buf, length_decimal c.args.number (omega arith)))
          ∙ ap (λ k. 32 ∷ drop k c.write_digits-digits.new.buf) from
          ∙ ap (λ l. 32 ∷ l) digits.written;
    }
