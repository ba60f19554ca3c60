use Rattle.std.proofs.Common.{map, ap, ◌∙◌}
use Rattle.smv_choices.specs.Parts.{keep_with, without_places}
use Rattle.smv_choices.proofs.PartLaws.{same-choice, made-of}
use Rattle.smv_choices.proofs.leaf_choices.choice_from.Goals as goal

pub returns : goal.returns
returns c =
    made-of c.gathered.result _ _ c.gathered.ensures
    (same-choice c.own_map-own.ensures (ap without_places c.as_slice-2.ensures) (ap without_places c.as_slice-3.ensures)
    (c.in_ok-keeps.ensures ∙ ap (map (keep_with c.args.proof.of.now)) c.as_slice.ensures.value))
