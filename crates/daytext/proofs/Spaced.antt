-- One more number of a line.
use Rattle.std.proofs.Common.{◌≡◌, ℕ, ◌+◌, ◌<◌, List, [], ◌∷◌, ◌++◌, length, get_or, take, decimal, sym, ap, ◌∙◌, append_assoc}
use Rattle.std.proofs.lemmas.List.{append-nil, take_more}
use Rattle.daytext.specs.Lines.{spaced}

spaced_push : (ns : List ℕ) (n : ℕ) → spaced (ns ++ (n ∷ [])) ≡ spaced ns ++ (32 ∷ decimal n)
spaced_push [] n = ap (λ t. 32 ∷ t) (append-nil (decimal n))
spaced_push (m ∷ ns) n =
    ap (λ t. 32 ∷ (decimal m ++ t)) (spaced_push ns n) ∙ ap (λ t. 32 ∷ t) (sym (append_assoc (decimal m) (spaced ns) (32 ∷ decimal n)))

pub spaced_more : (ns : List ℕ) (i : ℕ) → i < length ns → spaced (take (i + 1) ns) ≡ spaced (take i ns) ++ (32 ∷ decimal (get_or ns i 0))
spaced_more ns i h = ap spaced (take_more ns i 0 h) ∙ spaced_push (take i ns) (get_or ns i 0)
