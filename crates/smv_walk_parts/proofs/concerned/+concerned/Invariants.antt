use Rattle.std.proofs.Common.{◌≡◌, drop, map}
use Rattle.std.specs.List.{list_any}
use Rattle.smv_core.specs.FlatMeaning.{Numbered}
use Rattle.smv_spots.specs.Spots.{place_in}
use Rattle.smv_walk_parts.specs.Parts.{is_concerned}
use Rattle.smv_walk_parts.proofs.concerned.+concerned.Given as goal

abbrev pub invariant-some_is_concerned-loop-part : goal.invariant-some_is_concerned-loop-part
invariant-some_is_concerned-loop-part l = (n : Numbered) → list_any (is_concerned (map (place_in n) l.indexes)) (drop l.part-index l.parts) ≡ list_any (is_concerned (map (place_in n) l.indexes)) l.parts
