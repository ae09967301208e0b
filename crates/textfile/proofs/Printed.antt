-- One record after another, printed; and that the text packs to the file.
use Rattle.std.proofs.Common.{◌≡◌, ℕ, ◌+◌, ◌^◌, ◌<◌, true, List, [], ◌∷◌, ◌++◌, length, get_or, drop, Ok, decimal, sym, refl, ap, ◌∙◌, subst, append_assoc, zero-add, arith, length-append}
use Rattle.std.specs.List.{prefix_len, AllByRecursion}
use Rattle.std.proofs.lemmas.List.{append-nil, take_at, drop_at, get_or-append-add, flat_map_more, length_push}
use Rattle.std.proofs.ByRecursion.{All-push}
use Rattle.std.proofs.lemmas.Bool.Decides.{nat_tests}
use Rattle.dayfile.specs.declared.record.Record.{Record}
use Rattle.dayfile.specs.Reading.{next_of}
use Rattle.daytext.specs.Bytes.{bytes_of}
use Rattle.daytext.specs.declared.keyword.Keyword.{Keyword}
use Rattle.daytext.specs.declared.keyword.Keyword.TheVariants as key
use Rattle.daytext.specs.Lines.{name_of, keyword_of, fields_of, limits_of, line_of, spaced}
use Rattle.daytext.specs.RoundTrip.{Fits, Within}
use Rattle.daytext.proofs.Leads.{Small, digits_pass}
use Rattle.daytext.proofs.RoundTrip.{small, parses_back}
use Rattle.textfile.specs.Texts.{in_line, first_line, after_line, lines_of, packed_from, packed_line, packed_of, file_of, text_of}
use Rattle.textfile.proofs.Cuts.{lines_step}
use Rattle.textfile.proofs.Decoded.{decoded}

digit_in_line : (d : ℕ) → d < 10 → in_line (48 + d) ≡ true
digit_in_line d h = grind (arith, nat_tests)

-- a number after a space has no line feed
number_in_line : (n : ℕ) (t : List ℕ) → n < 2 ^ 64 → prefix_len in_line (32 ∷ (decimal n ++ t)) ≡ length (32 ∷ decimal n) + prefix_len in_line t
number_in_line n t h = omega (arith, digits_pass in_line digit_in_line n h t)

numbers_in_line : (ns limits t : List ℕ) → Small limits → Within ns limits → prefix_len in_line (spaced ns ++ t) ≡ length (spaced ns) + prefix_len in_line t
numbers_in_line [] [] t small h = sym (zero-add (prefix_len in_line t))
numbers_in_line [] (most ∷ limits) t small h = absurd h
numbers_in_line (n ∷ ns) [] t small h = absurd h
numbers_in_line (n ∷ ns) (most ∷ limits) t small h =
    ap (prefix_len in_line) (ap (λ l. 32 ∷ l) (append_assoc (decimal n) (spaced ns) t))
    ∙ omega (arith, number_in_line n (spaced ns ++ t) (omega arith), numbers_in_line ns limits t small.1 h.1, length-append (decimal n) (spaced ns))

name_in_line : (k : Keyword) (t : List ℕ) → prefix_len in_line (name_of k ++ t) ≡ length (name_of k) + prefix_len in_line t
name_in_line key.Nodes t = omega arith
name_in_line key.Edge t = omega arith
name_in_line key.Tree t = omega arith
name_in_line key.Query t = omega arith
name_in_line key.Release t = omega arith
name_in_line key.Close t = omega arith
name_in_line key.Run t = omega arith

-- a line and its line feed, before other lines
module _ (r : Record) (fits : Fits r) (t : List ℕ) where
  line_size : length (line_of r) ≡ prefix_len in_line (line_of r ++ (10 ∷ t))
  line_size =
      sym (
      ap (prefix_len in_line) (append_assoc (name_of (keyword_of r)) (spaced (fields_of r)) (10 ∷ t))
      ∙ omega (
        arith,
        name_in_line (keyword_of r) (spaced (fields_of r) ++ (10 ∷ t)),
        numbers_in_line (fields_of r) (limits_of (keyword_of r)) (10 ∷ t) (small (keyword_of r)) fits,
        length-append (name_of (keyword_of r)) (spaced (fields_of r)),
      )
      )

  line_first : first_line (line_of r ++ (10 ∷ t)) ≡ line_of r
  line_first = take_at (line_of r) (10 ∷ t) _ line_size

  line_after : after_line (line_of r ++ (10 ∷ t)) ≡ t
  line_after =
      ap (drop (prefix_len in_line (line_of r ++ (10 ∷ t)) + 1)) (sym (append_assoc (line_of r) (10 ∷ []) t))
      ∙ drop_at (line_of r ++ (10 ∷ [])) t _ (omega (arith, length_push (line_of r) 10, line_size))

  line_lines : lines_of (line_of r ++ (10 ∷ t)) ≡ line_of r ∷ lines_of t
  line_lines =
      lines_step (line_of r ++ (10 ∷ t)) (omega (arith, length-append (line_of r) (10 ∷ t)))
      ∙ (λ i. line_first i ∷ lines_of (line_after i))

-- the text of records packs to their bytes
packs_lines : (n : ℕ) (rs : List Record) → AllByRecursion Fits rs → packed_from n (lines_of (text_of rs)) ≡ Ok (file_of rs)
packs_lines n [] all = refl
packs_lines n (r ∷ rs) all =
    ap (λ bs. packed_from n (lines_of bs)) (append_assoc (line_of r) (10 ∷ []) (text_of rs))
    ∙ ap (packed_from n) (line_lines r all.0 (text_of rs))
    ∙ (λ i. packed_line n (parses_back r all.0 i) (packs_lines (n + 1) rs all.1 i))

pub packs_text : (rs : List Record) → AllByRecursion Fits rs → packed_of (text_of rs) ≡ Ok (file_of rs)
packs_text = packs_lines 1

-- text has the lines of the records that file begins with, and rest comes after their bytes
pub record Begun (file text rest : List ℕ) : Type 0 where
  pub rs : List Record
  pub front : file ≡ file_of rs ++ rest
  pub lines : text ≡ text_of rs
  pub fit : AllByRecursion Fits rs

pub begun_more : {file text rest : List ℕ} (now : List ℕ) (r : Record) (t : List ℕ) → ((i : ℕ) → get_or file i 0 < 256) → Begun file text rest → next_of rest ≡ Ok (r, t) → now ≡ text ++ (line_of r ++ (10 ∷ [])) → Begun file now t
begun_more {file} {text} {rest} now r t bytes b next grown =
    let small-rest : (i : ℕ) → get_or rest i 0 < 256 = λ i. subst (λ n. n < 256) (ap (λ bs. get_or bs (length (file_of b.rs) + i) 0) b.front ∙ get_or-append-add (file_of b.rs) rest i 0) (bytes (length (file_of b.rs) + i)) in
    let d = decoded rest small-rest r t next in
    record {
      rs = b.rs ++ (r ∷ []);
      front = b.front ∙ ap (λ bs. file_of b.rs ++ bs) d.0 ∙ sym (append_assoc (file_of b.rs) (bytes_of r) t) ∙ ap (λ bs. bs ++ t) (flat_map_more bytes_of [] b.rs r);
      lines = grown ∙ ap (λ bs. bs ++ (line_of r ++ (10 ∷ []))) b.lines ∙ flat_map_more (λ q. line_of q ++ (10 ∷ [])) [] b.rs r;
      fit = All-push Fits b.rs r b.fit d.1;
    }

-- at the end of the file
pub begun_all : {file text rest : List ℕ} → Begun file text rest → rest ≡ [] → (rs : List Record) × (file ≡ file_of rs) × (text ≡ text_of rs) × AllByRecursion Fits rs
begun_all {file} {text} {rest} b none = (b.rs, b.front ∙ ap (λ bs. file_of b.rs ++ bs) none ∙ append-nil (file_of b.rs), b.lines, b.fit)

pub packs_back : (file text : List ℕ) → (rs : List Record) × (file ≡ file_of rs) × (text ≡ text_of rs) × AllByRecursion Fits rs → packed_of text ≡ Ok file
packs_back file text (rs, e, f, all) = ap packed_of f ∙ packs_text rs all ∙ ap (λ l. Ok l) (sym e)
