-- What a graph's model means rests on the edges between nodes alone.
use Rattle.std.proofs.Common.{◌≡◌, ℕ, ◌+◌, ◌^◌, ◌<◌, ◌≤◌, Bool, ◌&&◌, ◌||◌, eqb, List, [], ◌∷◌, ◌++◌, length, get_or, take, set, replicate, sym, refl, ap, ◌∙◌, ⊎_elim, arith}
use native.Mathlib.Nat.{zero-div}
use Rattle.interference.specs.declared.graph.Edge.{Edge}
use Rattle.interference.specs.declared.transmission.Transmission.{Transmission}
use Rattle.interference.specs.Graph.{edge_at, graph_conflict, list_edge, word_edge}
use Rattle.interference.specs.Words.{bit_of, with_bit}
use Rattle.interference.proofs.Words.{bit_set}
use Rattle.std.proofs.lemmas.List.{get_or_past, get_or-replicate, get_or-set_other, get_or-set_same, length-replicate, take_more}
use Rattle.std.proofs.lemmas.Bool.{cases_eq, cases_lt, eq-eqb, ne_eqb}
use Rattle.std.proofs.lemmas.Bool.Decides.{nat_tests}

pub same_edges : (n : ℕ) (e f : ℕ → ℕ → Bool) → ((a b : ℕ) → a < n → b < n → e a b ≡ f a b)
    → (a b : Transmission) → graph_conflict n e a b ≡ graph_conflict n f a b
same_edges n e f same a b =
    let x = same a.from b.to in
    let y = same b.from a.to in
    grind (arith, nat_tests)

pub same_words : (n : ℕ) (own ws : List ℕ) → ((j : ℕ) → j < n → get_or own j 0 ≡ get_or ws j 0)
    → (a b : Transmission) → graph_conflict n (word_edge own) a b ≡ graph_conflict n (word_edge ws) a b
same_words n own ws same = same_edges n (word_edge own) (word_edge ws) (λ a b ha hb. ap (λ w. bit_of w b) (same a ha))

-- one more edge in the list, and its bit in the words
list_push : (es : List Edge) (e : Edge) (a b : ℕ)
    → list_edge (es ++ e ∷ []) a b ≡ (list_edge es a b || (eqb a e.from && eqb b e.to))
unfolding list_edge
list_push [] e a b = grind (arith, nat_tests)
list_push (x ∷ es) e a b = let more = list_push es e a b in grind (arith, nat_tests)

word_push : (ws : List ℕ) (f t a b : ℕ) → f < length ws
    → word_edge (set ws f (with_bit (get_or ws f 0) t)) a b ≡ (word_edge ws a b || (eqb a f && eqb b t))
word_push ws f t a b h =
    ⊎_elim
    (λ (e : a ≡ f).
    rw (e, get_or-set_same ws f (with_bit (get_or ws f 0) t) 0 h, bit_set (get_or ws f 0) t b, eq-eqb f f refl) refl)
    (λ (n : a ≡ f → ⊥). rw (get_or-set_other ws f a (with_bit (get_or ws f 0) t) 0 n, ne_eqb a f n) (grind (arith, nat_tests)))
    (cases_eq a f)

pub none_yet : (n : ℕ) (a b : ℕ) → word_edge (replicate n 0) a b ≡ list_edge [] a b
unfolding list_edge
none_yet n a b =
    let zeros : List ℕ = replicate n 0 in
    let none : get_or zeros a 0 ≡ 0 =
    ⊎_elim (λ (h : a < n). get_or-replicate n a 0 0 h)
    (λ (h : n ≤ a). get_or_past zeros a 0 (rw length-replicate h)) (cases_lt a n) in
    rw (none, zero-div (2 ^ b)) refl

pub one_more : (ws : List ℕ) (es : List Edge) (i : ℕ) → i < length es → (edge_at es i).from < length ws
    → ((a b : ℕ) → word_edge ws a b ≡ list_edge (take i es) a b)
    → (a b : ℕ) → word_edge (set ws (edge_at es i).from (with_bit (get_or ws (edge_at es i).from 0) (edge_at es i).to)) a b
    ≡ list_edge (take (i + 1) es) a b
one_more ws es i h within same a b =
    word_push ws (edge_at es i).from (edge_at es i).to a b within
    ∙ ap (λ x. x || (eqb a (edge_at es i).from && eqb b (edge_at es i).to)) (same a b)
    ∙ sym (list_push (take i es) (edge_at es i) a b)
    ∙ ap (λ l. list_edge l a b) (sym (take_more es i (record { from = 0; to = 0 }) h))
