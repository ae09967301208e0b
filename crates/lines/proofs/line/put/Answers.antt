use Rattle.std.proofs.Common.{◌∷◌, ◌++◌, decimal, ap, ◌∙◌, arith, length-take, length-drop}
use Rattle.lines.specs.Text.{third_of}
use Rattle.lines.proofs.Texts.{ended, fronted, length_decimal}
use Rattle.lines.proofs.line.put.Goals as goal

pub write_digits-end-requires : goal.write_digits-end-requires
write_digits-end-requires g c = (omega (arith, length_decimal c.args.first (omega arith)), omega arith)

pub overflow_sub-start : goal.overflow_sub-start
overflow_sub-start g c = omega (arith, c.write_digits-end.ensures.start, length_decimal c.args.first (omega arith))

pub copy_from_slice-requires : goal.copy_from_slice-requires
copy_from_slice-requires g c = simp (length-take, length-drop) (omega (arith, c.write_digits-end.ensures.start, c.write_digits-end.auto.buf, c.told-word, length_decimal c.args.first (omega arith)))

pub returns : goal.returns
returns g c =
    let digits = c.write_digits-end.ensures in
    let long = length_decimal c.args.first (omega arith) in
    record {
      start = omega (arith, digits.start);
      text =
          fronted _ _ c.write_digits-end.result c.write_digits-end.new.buf c.copy_from_slice.new.self (omega (arith, digits.start, c.write_digits-end.auto.buf)) (omega (arith, digits.start, long))
          ∙ (λ i. c.copy_from_slice.ensures.after i ++ digits.written i)
          ∙ ap (λ l. c.args.word.now ++ (decimal c.args.first ++ l)) (
          c.put_number-end.ensures.text
          ∙ ap (λ l. 32 ∷ (decimal c.args.second ++ l)) (c.put_third-end.ensures.text ∙ ap (λ l. third_of c.args.third ++ l) (ended c.args.text.now 68 10 (omega (arith, c.told-text)))));
    }
