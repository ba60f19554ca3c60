use Rattle.std.proofs.Common.{◌+◌, ◌-◌, List, length, slice_get, sym, ap, ◌∙◌}
use Rattle.smv_core.specs.Values.{number}
use Rattle.smv_core.specs.FlatMeaning.{values_in}
use Rattle.smv_core.specs.declared.abstract_type.AbsType.{AbsType}
use Rattle.smv_core.specs.declared.flat.Simple.{Simple}
use Rattle.law_concrete.specs.Concrete.{sized}
use Rattle.law_concrete.specs.Sizes.{sizes_at}
use Rattle.smv_spots.specs.Spots.{classes_of}
use Rattle.smv_concrete.proofs.ClassLaws.{numbers-long, values-long}
use Rattle.smv_concrete.proofs.classes.value_count.Goals as goal

pub returns-in-Range : goal.returns-in-Range
returns-in-Range c =
    let d = c.args.design.now in
    c.range_count.ensures
    ∙ (sym (numbers-long number c.in-Range.low (c.in-Range.high + 1 - c.in-Range.low)) ∙ sym (ap (λ (t : Simple). length (values_in (sized d (sizes_at d.sets c.args.sizes.now)) t)) c.in-Range.is))

pub returns-in-Set : goal.returns-in-Set
returns-in-Set c =
    let d = c.args.design.now in
    c.named_count.ensures
    ∙ (ap (λ (ts : List AbsType). classes_of (slice_get ts c.in-Set.set)) c.requires.types
    ∙ (values-long d c.args.sizes.now c.requires.apart c.in-Set.set ∙ sym (ap (λ (t : Simple). length (values_in (sized d (sizes_at d.sets c.args.sizes.now)) t)) c.in-Set.is)))
