-- Rounds in the first places of a list, one by one.
use Rattle.std.proofs.Common.{◌≡◌, ℕ, ◌+◌, ◌^◌, ◌<◌, List, [], ◌∷◌, ◌++◌, map, length, get_or, take, drop, set, sym, refl, ap, ◌∙◌, inl, inr, arith}
use Rattle.engine.specs.Rounds.{Runs}
use Rattle.rules.specs.declared.round.Line.{Line}
use Rattle.rules.specs.declared.round.Round.{Round}
use Rattle.rules.specs.Lists.{◌∈◌}
use Rattle.rules.specs.Rules.{line_at}
use Rattle.rules.proofs.Running.{Running}
use Rattle.std.proofs.lemmas.List.{append_assoc, drop_more, length-map, length-take-le, map_more, set_at}
use Rattle.std.specs.List.{AllByRecursion}

-- what stands past the end of a list
abbrev pub free : Round
free = record { number = 0; start = 0 }

module _ (slot : ℕ) (rounds : List Round) where
  -- the line of round i goes behind those of the rounds before it
  pub lines_more : (old lines : List Line) (i : ℕ) → i < length rounds → i < length old
      → lines ≡ map (line_at slot) (take i rounds) ++ drop i old
      → set lines i (line_at slot (get_or rounds i free)) ≡ map (line_at slot) (take (i + 1) rounds) ++ drop (i + 1) old
  lines_more old lines i below room was =
      let line = line_at slot (get_or rounds i free) in
      let written = map (line_at slot) (take i rounds) in
      let long : length written ≡ i = length-map (take i rounds) (line_at slot) ∙ length-take-le i rounds (omega arith) in
      ap (λ l. set l i line) (was ∙ ap (λ l. written ++ l) (drop_more old i line room))
      ∙ set_at written (get_or old i line) (drop (i + 1) old) line i long
      ∙ sym (append_assoc written (line ∷ []) (drop (i + 1) old))
      ∙ ap (λ l. l ++ drop (i + 1) old) (sym (map_more (line_at slot) rounds i free below))

all_from_in : (P : Round → Type 0) (rs : List Round) → ((r : Round) → r ∈ rs → P r) → AllByRecursion P rs
all_from_in P [] k = tt
all_from_in P (r ∷ rs) k = (k r (inl refl), all_from_in P rs (λ z m. k z (inr m)))

-- the running rounds of an engine
pub runs_all : (L d s n : ℕ) (rs : List Round) → L < 2 ^ 32 → Running L d s n rs → AllByRecursion (Runs s) rs
runs_all L d s n rs small k =
    all_from_in (Runs s) rs (λ r m. (k.begun r m, (let l = k.live r m in let b = k.begun r m in omega arith)))
