use Rattle.law_obligations.proofs.Joined.{sound}
use Rattle.law_obligations.proofs.abstraction.no_violating_path_is_sound.Goals as goal

pub returns : goal.returns
returns c plan is_plan none sizes are_sizes run is_run leaf is_leaf values are_values = sound plan is_plan none sizes are_sizes run is_run leaf is_leaf values are_values
