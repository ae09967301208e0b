use Rattle.std.proofs.Common.{ℕ, ◌-◌, ◌<◌, [], ◌∷◌, ◌++◌, take, get_or, vec_items, ap, ◌∙◌, arith, append_assoc, rules}
use Rattle.std.proofs.lemmas.List.{nil_from_length, take_all}
use Rattle.daytext.specs.Lines.{line_of}
use Rattle.textfile.proofs.Printed.{begun_more, begun_all, packs_back}
use Rattle.textfile.proofs.printing.print_file.Goals as goal

pub loop-rest-preserved : goal.loop-rest-preserved
loop-rest-preserved c =
    let byte : (i : ℕ) → get_or c.args.file.now i 0 < 256 = λ i. omega (arith, c.type_inv.file i) in
    let line = c.print_at_end-start.ensures in
    let size = 40 - c.print_at_end-start.result in
    let whole = ap (take size) line.text ∙ take_all size (line_of c.in_ok-record.record) (omega (arith, line.start)) in
    let more =
    c.in_ok-extend_from_slice-2.ensures.items
    ∙ ap (λ l. l ++ (10 ∷ [])) (c.in_ok-extend_from_slice.ensures.items ∙ ap (λ l. vec_items c.loop-rest.text ++ l) whole)
    ∙ append_assoc (vec_items c.loop-rest.text) (line_of c.in_ok-record.record) (10 ∷ [])
    in
    (begun_more (vec_items c.extend_from_slice-in-loop-rest.new.self) c.in_ok-record.record c.in_ok-record.after.now byte c.loop-rest.invariant.0 (search rules) more, search rules)

pub returns-clause-packs_back : goal.returns-clause-packs_back
returns-clause-packs_back c = packs_back _ _ (begun_all c.loop-rest.invariant.0 (nil_from_length _ (search rules)))
