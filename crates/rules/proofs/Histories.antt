-- What is read off a history, and one call more.
use Rattle.std.proofs.Common.{◌≡◌, List, [], ◌∷◌, ◌++◌, sym, ap, ◌∙◌, append_assoc, append-nil}
use Rattle.rules.specs.Runs.{Moment}
use Rattle.rules.specs.Promise.{gather}

module _ {X : Type 0} (f : Moment → List X) where
  pub gather_end : (h : List Moment) (m : Moment) → gather f (h ++ (m ∷ [])) ≡ gather f h ++ f m
  gather_end [] m = append-nil (f m)
  gather_end (x ∷ h) m = ap (λ z. f x ++ z) (gather_end h m) ∙ sym (append_assoc (f x) (gather f h) (f m))

  -- a call that adds nothing
  pub gather_quiet : (h : List Moment) (m : Moment) → f m ≡ [] → gather f (h ++ (m ∷ [])) ≡ gather f h
  gather_quiet h m e = gather_end h m ∙ ap (λ z. gather f h ++ z) e ∙ append-nil (gather f h)
