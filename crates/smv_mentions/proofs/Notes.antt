-- Lists of notes, one behind another.
use Rattle.std.proofs.lemmas.List.{append-nil, append_assoc, map-append}

pub ruleset noting = (append-nil, append_assoc, map-append)
