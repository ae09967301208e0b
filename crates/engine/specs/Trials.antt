-- The trial place.
use Rattle.engine.specs.declared.trial.TrialPlace.{TrialPlace}

-- no query is tried
abbrev pub nothing : TrialPlace
nothing = record { priority = 0; period = 0; deadline = 0 }
