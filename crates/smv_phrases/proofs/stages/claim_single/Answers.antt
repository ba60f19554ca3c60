use Rattle.std.proofs.Common.{List, ℕ, map, ap, ◌++◌, ◌∙◌}
use Rattle.std.proofs.Common.{Bor}
use Rattle.std.specs.List.{flat_map}
use Rattle.std.specs.Prelude.{option_copied}
use Rattle.law_translated_texts.specs.Phrases.{front_of, whole}
use Rattle.smv_phrases.specs.Seen.{names, lent}
use Rattle.smv_phrases.proofs.StageLaws.{arrow, single-written}
use Rattle.smv_phrases.proofs.stages.claim_single.Goals as goal

pub returns : goal.returns
returns c =
    let stage = c.args.stage.now in
    single-written c.args.out.now.items c.front.new.out.items c.premises.new.out.items c.whole.new.out.items (front_of (names c.args.binders.now) (option_copied stage.start)) (map whole (lent stage.conditions.items)) (whole c.args.body.now) c.in_ok-front.ensures
    (c.in_ok-premises.ensures ∙ ap (λ (cs : List (Bor (List ℕ))). c.front.new.out.items ++ flat_map arrow (map whole (lent cs))) c.as_slice.ensures.value) c.in_ok-whole.ensures
