-- One line after another, packed.
use Rattle.std.proofs.Common.{◌≡◌, ℕ, ◌+◌, ◌<◌, List, ◌++◌, length, Some, None, Ok, Err, Option, Result, sym, refl, ap, ◌∙◌, arith}
use Rattle.std.proofs.lemmas.List.{append_assoc}
use Rattle.dayfile.specs.declared.record.Record.{Record}
use Rattle.daytext.specs.declared.fault.LineFault.{LineFault}
use Rattle.daytext.specs.Bytes.{bytes_of}
use Rattle.daytext.specs.Lines.{line_meaning}
use Rattle.textfile.specs.Texts.{first_line, after_line, lines_of, before, packed_line, packed_from, packed_of}
use Rattle.textfile.proofs.Cuts.{lines_step}

before_more : (bs cs : List ℕ) (more : Result (List ℕ) (ℕ × LineFault)) → before bs (before cs more) ≡ before (bs ++ cs) more
before_more bs cs (Ok ds) = ap (λ l. Ok l) (sym (append_assoc bs cs ds))
before_more bs cs (Err e) = refl

-- the line of number n, and what is left after it
module _ (text file rest line after : List ℕ) (n : ℕ) (so : packed_of text ≡ before file (packed_from n (lines_of rest))) (shorter : length after < length rest) (first : line ≡ first_line rest) (later : after ≡ after_line rest) where
  meant : (m : Result (Option Record) LineFault) → m ≡ line_meaning line → packed_of text ≡ before file (packed_line n m (packed_from (n + 1) (lines_of after)))
  meant m e =
      so
      ∙ ap (λ ls. before file (packed_from n ls)) (lines_step rest (omega (arith, shorter)))
      ∙ (λ i. before file (packed_line n ((ap line_meaning (sym first) ∙ sym e) i) (packed_from (n + 1) (lines_of (sym later i)))))

  pub packs_none : Ok None ≡ line_meaning line → packed_of text ≡ before file (packed_from (n + 1) (lines_of after))
  packs_none e = meant (Ok None) e

  pub packs_fault : (f : LineFault) → Err f ≡ line_meaning line → packed_of text ≡ Err (n, f)
  packs_fault f e = meant (Err f) e

  pub packs_more : (r : Record) (now : List ℕ) → Ok (Some r) ≡ line_meaning line → now ≡ file ++ bytes_of r → packed_of text ≡ before now (packed_from (n + 1) (lines_of after))
  packs_more r now e grown =
      meant (Ok (Some r)) e
      ∙ before_more file (bytes_of r) (packed_from (n + 1) (lines_of after))
      ∙ ap (λ l. before l (packed_from (n + 1) (lines_of after))) (sym grown)
