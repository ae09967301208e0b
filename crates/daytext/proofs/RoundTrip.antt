-- What is written is read back.
use Rattle.std.proofs.Common.{◌≡◌, ℕ, ◌+◌, ◌*◌, ◌/◌, ◌%◌, ◌≤◌, List, ◌∷◌, Some, Ok, ap, ◌∙◌, arith, rules}
use Rattle.std.proofs.lemmas.Nat.{from_le_bytes-to_le_bytes_2, from_le_bytes-to_le_bytes_4}
use Rattle.dayfile.specs.Reading.{next_of}
use Rattle.dayfile.specs.declared.record.Record.{Record}
use Rattle.dayfile.specs.declared.record.Record.TheVariants.{Nodes, Edge, Tree, Query, Release, Close, Run}
use Rattle.daytext.specs.declared.keyword.Keyword.{Keyword}
use Rattle.daytext.specs.declared.keyword.Keyword.TheVariants as key
use Rattle.daytext.specs.Words.{and_then, numbers_of}
use Rattle.daytext.specs.Lines.{keyword_of, fields_of, limits_of, record_with, record_after, spaced}
use Rattle.daytext.proofs.Leads.{Small, numbers_back}
use Rattle.daytext.specs.RoundTrip.{Fits, ReadsBack, ParsesBack, RoundTrip}

two : (n : ℕ) → n ≤ 65535 → n % 256 + n / 256 % 256 * 256 ≡ n
two n h = from_le_bytes-to_le_bytes_2 n (omega arith)

four : (n : ℕ) → n ≤ 4294967295 → n % 256 + n / 256 % 256 * 256 + n / 65536 % 256 * 65536 + n / 16777216 % 256 * 16777216 ≡ n
four n h = from_le_bytes-to_le_bytes_4 n (omega arith)

module _ (a b : ℕ) (rest : List ℕ) where
  run_bytes : next_of (7 ∷ a ∷ b ∷ rest) ≡ Ok (Run (a + b * 256), rest)
  run_bytes = search rules

module _ (a b c d : ℕ) (rest : List ℕ) where
  query_bytes : (p : ℕ) → next_of (4 ∷ p ∷ a ∷ b ∷ c ∷ d ∷ rest) ≡ Ok (Query p (a + b * 256) (c + d * 256), rest)
  query_bytes p = search rules

  release_bytes : next_of (5 ∷ a ∷ b ∷ c ∷ d ∷ rest) ≡ Ok (Release (a + b * 256 + c * 65536 + d * 16777216), rest)
  release_bytes = search rules

  close_bytes : next_of (6 ∷ a ∷ b ∷ c ∷ d ∷ rest) ≡ Ok (Close (a + b * 256 + c * 65536 + d * 16777216), rest)
  close_bytes = search rules

pub reads_back : (r : Record) → Fits r → ReadsBack r
reads_back (Nodes count) h rest = search rules
reads_back (Edge source target) h rest = search rules
reads_back (Tree child parent slots) h rest = search rules
reads_back (Query priority period deadline) h rest =
    query_bytes _ _ _ _ rest priority ∙ (λ i. Ok (Query priority (two period h.1.0 i) (two deadline h.1.1.0 i), rest))
reads_back (Release number) h rest = release_bytes _ _ _ _ rest ∙ ap (λ n. Ok (Release n, rest)) (four number h.0)
reads_back (Close number) h rest = close_bytes _ _ _ _ rest ∙ ap (λ n. Ok (Close n, rest)) (four number h.0)
reads_back (Run slots) h rest = run_bytes _ _ rest ∙ ap (λ n. Ok (Run n, rest)) (two slots h.0)

finished : (k : Keyword) (ns : List ℕ) (bs : List ℕ) → numbers_of (limits_of k) bs ≡ Ok ns → and_then (record_after k bs) (λ r. Ok (Some r)) ≡ Ok (Some (record_with k ns))
finished k ns bs e = ap (λ x. and_then (and_then x (λ ms. Ok (record_with k ms))) (λ r. Ok (Some r))) e

pub small : (k : Keyword) → Small (limits_of k)
small key.Nodes = (omega arith, tt)
small key.Edge = (omega arith, (omega arith, tt))
small key.Tree = (omega arith, (omega arith, (omega arith, tt)))
small key.Query = (omega arith, (omega arith, (omega arith, tt)))
small key.Release = (omega arith, tt)
small key.Close = (omega arith, tt)
small key.Run = (omega arith, tt)

pub parses_back : (r : Record) → Fits r → ParsesBack r
parses_back r h = named r (finished (keyword_of r) (fields_of r) _ (numbers_back (fields_of r) (limits_of (keyword_of r)) (small (keyword_of r)) h))
  where
    named : (r : Record) → and_then (record_after (keyword_of r) (spaced (fields_of r))) (λ q. Ok (Some q)) ≡ Ok (Some (record_with (keyword_of r) (fields_of r))) → ParsesBack r
    named (Nodes count) e = e
    named (Edge source target) e = e
    named (Tree child parent slots) e = e
    named (Query priority period deadline) e = e
    named (Release number) e = e
    named (Close number) e = e
    named (Run slots) e = e

pub round_trip : RoundTrip
round_trip r h = (reads_back r h, parses_back r h)
