use Rattle.rules.proofs.Lawful.{wait_least, wait_found_all, admission, trial_same, wait_answered, lines_fit}
use Rattle.rules.proofs.theorem.laws_hold.Goals as goal

pub returns : goal.returns
returns c = record { least = wait_least; found = wait_found_all; admission = admission; trial = trial_same; answered = wait_answered; lines = lines_fit }
