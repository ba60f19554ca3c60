use Rattle.law_obligations.proofs.Sound.{proved_is_sound, proved_units_hold}
use Rattle.law_obligations.proofs.obligations.proved_is_sound.Goals as goal

pub returns-clause-scripts : goal.returns-clause-scripts
returns-clause-scripts c s checked proved entry h sizes are_sizes run is_run values are_values = proved_is_sound s checked proved entry h sizes are_sizes run is_run values are_values

pub returns-clause-designs : goal.returns-clause-designs
returns-clause-designs c d leaves choices l k checked proved unit h sizes are_sizes run is_run values are_values =
    proved_units_hold d leaves choices l k checked proved unit h sizes are_sizes run is_run values are_values
