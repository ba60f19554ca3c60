-- Where names stand among all names.
use Rattle.std.specs.Prelude.{ℕ, List, unwrap_or}
use Rattle.smv_core.specs.Values.{Name}
use Rattle.name_index.specs.Position.{position}

-- the first place of a name in a list; 0 for one that is not there
abbrev pub place_among : List Name → Name → ℕ
place_among names name = unwrap_or (position names name) 0
