-- The climb from 0 to the longest wait finds what the rule names.
use Rattle.std.proofs.Common.{◌≡◌, ℕ, ◌<◌, ◌≤◌, eqb, List, Some, None, Option, sym, refl, arith}
use Rattle.rules.specs.declared.row.Row.{Row}
use Rattle.rules.specs.Waits.{demand, wait_of}
use Rattle.rules.proofs.Waiting.{arrives, first_found, wait_found, wait_is}

module _ (d : ℕ) (t : List Row) (q : Row) (w : ℕ) (below : (x : ℕ) → demand d t q x ≤ x → w ≤ x) where
  pub climb_found : (n : ℕ) → n ≡ demand d t q w → n ≡ w → w ≤ 60000 → Some w ≡ wait_of d t q
  climb_found n next e small = sym (wait_is d t q w (arrives d t q w n next below e) small)

  pub climb_lost : 60000 < w → None ≡ wait_of d t q
  climb_lost past = go (wait_of d t q) refl
    where
      go : (o : Option ℕ) → wait_of d t q ≡ o → None ≡ wait_of d t q
      go None e = sym e
      go (Some x) e =
          let solves = (wait_found d t q x e).solves in
          let low = below x (omega arith) in
          let high = (first_found (λ v. eqb (demand d t q v) v) 60001 x e).below in
          absurd (omega arith)
