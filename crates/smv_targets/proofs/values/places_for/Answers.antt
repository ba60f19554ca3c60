use Rattle.smv_targets.proofs.TargetLaws.{family_places, no_family_places}
use Rattle.smv_targets.proofs.values.places_for.Goals as goal

pub returns-in_default : goal.returns-in_default
returns-in_default c w kept h = no_family_places w kept _ h _ _ _ c.value_type.ensures c.in_default.is c.new.ensures.items

pub returns : goal.returns
returns c w kept h = family_places w kept _ h _ _ _ _ _ _ c.value_type.ensures c.in-Some.is c.in_ok-append.ensures.items (c.in_ok-spots.ensures w h) (c.in_ok-rests.ensures w h)
