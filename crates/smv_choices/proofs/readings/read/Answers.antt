use Rattle.std.proofs.Common.{refl, ap, ◌∙◌}
use Rattle.std.specs.List.{flat_map}
use Rattle.smv_first_fault.specs.Firsts.{least}
use Rattle.smv_choices.specs.Parts.{picks_by, claims_by, unknown_by, proved_one, unknown_one, kept_one, sets_of}
use Rattle.smv_choices.proofs.AnswerLaws.{same-said}
use Rattle.smv_choices.proofs.readings.read.Goals as goal

pub returns : goal.returns
returns c =
    let d = c.args.tables.now.design.now in
    same-said refl
    (c.in_ok-found.ensures.picks ∙ ap (flat_map (picks_by d)) c.as_slice.ensures)
    (c.in_ok-found.ensures.claims ∙ ap (flat_map (claims_by d)) c.as_slice.ensures)
    (c.in_ok-found.ensures.unknown ∙ ap (λ uses. least (flat_map (unknown_by d) uses)) c.as_slice.ensures)
    (c.in_ok-proved.ensures.leaves ∙ ap (flat_map (proved_one c.args.leaves.now)) c.as_slice-2.ensures)
    (c.in_ok-proved.ensures.no_leaf ∙ ap (λ refs. least (flat_map (unknown_one c.args.leaves.now) refs)) c.as_slice-2.ensures)
    (c.in_ok-kept.ensures ∙ (ap (λ sets. flat_map (kept_one sets) c.as_slice-3.result.now) c.requires.tables.sets ∙ ap (flat_map (kept_one (sets_of d))) c.as_slice-3.ensures))
