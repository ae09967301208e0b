-- A plan laid out in tables: where its steps start and what they hold.
use Rattle.std.proofs.Common.{◌≡◌, ℕ, ◌+◌, ◌-◌, ◌<◌, ◌≤◌, List, length, get_or, take, drop, sum, sym, ap, ◌∙◌, arith}
use Rattle.std.proofs.lemmas.List.{drop-take, get_or-take, length-take-le, take-take}
use Rattle.std.proofs.lemmas.List.Sums.{sum_by_more, sum_by-take-le}

module _ (counts : List ℕ) (steps k : ℕ) (below : k < steps) (long : steps ≤ length counts) where
  pub count_at : get_or (take steps counts) k 0 ≡ get_or counts k 0
  count_at = get_or-take steps counts k 0 below

  pub start_at : sum (take k (take steps counts)) ≡ sum (take k counts)
  start_at = ap sum (take-take k steps counts (omega arith))

  -- a step ends within the plan
  pub ends_within : sum (take k counts) + get_or counts k 0 ≤ sum (take steps counts)
  ends_within =
      let whole : length (take steps counts) ≡ steps = length-take-le steps counts long in
      let more = sum_by_more (λ x. x) (take steps counts) k 0 (omega arith) in
      let most = sum_by-take-le (λ x. x) (take steps counts) (k + 1) in
      omega (arith, count_at, start_at)

  pub part_at : {X : Type 0} (xs : List X) (size : ℕ) → sum (take steps counts) ≡ size
      → take (get_or counts k 0) (drop (sum (take k counts)) xs)
      ≡ take (get_or (take steps counts) k 0) (drop (sum (take k (take steps counts))) (take size xs))
  part_at xs size is =
      let end = ends_within in
      let start = sum (take k counts) in
      let rest : size ≡ start + (size - start) = omega arith in
      let cut : drop start (take size xs) ≡ take (size - start) (drop start xs) =
      ap (λ m. drop start (take m xs)) rest ∙ drop-take start (size - start) xs in
      rw (count_at, start_at, cut) (sym (take-take (get_or counts k 0) (size - start) (drop start xs) (omega arith)))
