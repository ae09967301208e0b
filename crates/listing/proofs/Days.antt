-- The search for the line of a start.
use Rattle.std.proofs.Common.{◌≡◌, ℕ, ◌+◌, ◌<◌, ◌≤◌, List, length, get_or, drop, Some, None, Option, sym, ap, ◌∙◌, add-one, drop-cons}
use Rattle.listing.specs.Days.{starting}
use Rattle.rules.specs.declared.round.Line.{Line}
use Rattle.std.proofs.lemmas.List.{drop_all}
use Rattle.std.proofs.lemmas.Bool.{cond-false, cond-true, eq-eqb, ne_eqb}
use Rattle.std.specs.Option.{option_map}

abbrev pub line_at : List Line → ℕ → Line
line_at ls i = get_or ls i (record { number = 0; step = 0 })

abbrev number_of : Option Line → Option ℕ
number_of o = option_map (λ (l : Line). l.number) o

-- a search for the line with step 0: found, not yet, and nowhere
module _ (ls : List Line) (i : ℕ) (sofar : starting (drop i ls) ≡ starting ls) where
  pub starting_here : i < length ls → (line_at ls i).step ≡ 0 → Some (line_at ls i).number ≡ starting ls
  starting_here h z =
      sym (sym sofar ∙ ap starting (drop-cons ls i (record { number = 0; step = 0 }) h) ∙ ap number_of (cond-true _ _ _ (eq-eqb _ _ z)))

  pub starting_on : i < length ls → ((line_at ls i).step ≡ 0 → ⊥) → starting (drop (i + 1) ls) ≡ starting ls
  starting_on h nz =
      ap (λ k. starting (drop k ls)) (add-one i)
      ∙ sym (sym sofar ∙ ap starting (drop-cons ls i (record { number = 0; step = 0 }) h) ∙ ap number_of (cond-false _ _ _ (ne_eqb _ _ nz)))

  pub starting_none : length ls ≤ i → None ≡ starting ls
  starting_none h = sym (sym sofar ∙ ap starting (drop_all i ls h))
