-- Lists, one behind another.
use Rattle.std.proofs.lemmas.List.{append-nil, append_assoc, map-append}

pub ruleset listing = (append-nil, append_assoc, map-append)
