use Rattle.name_index.proofs.Finding.{find_name-pairs}
use Rattle.name_index.proofs.found_at_first_place.Goals as goal

pub returns : goal.returns
returns g c = find_name-pairs
