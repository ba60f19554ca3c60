use Rattle.std.proofs.Common.{◌+◌, ◌-◌, length, sym, ap, ◌∙◌}
use Rattle.smv_core.specs.declared.flat.Class.TheVariants.{Named, Number}
use Rattle.smv_core.specs.declared.flat.Simple.{Simple}
use Rattle.smv_spots.specs.Spots.{classes_of}
use Rattle.smv_reads.specs.Views.{classes_in}
use Rattle.std.specs.Prelude.{slice_get}
use Rattle.smv_concrete.proofs.ClassLaws.{numbers-long}
use Rattle.smv_concrete.proofs.classes.class_count.Goals as goal

pub returns-in-Range : goal.returns-in-Range
returns-in-Range c =
    c.range_count.ensures ∙ (sym (numbers-long Number c.in-Range.low (c.in-Range.high + 1 - c.in-Range.low)) ∙ sym (ap (λ (t : Simple). length (classes_in c.args.types.now t)) c.in-Range.is))

pub returns-in-Set : goal.returns-in-Set
returns-in-Set c = c.named_count.ensures ∙ (sym (numbers-long Named 0 (classes_of (slice_get c.args.types.now c.in-Set.set))) ∙ sym (ap (λ (t : Simple). length (classes_in c.args.types.now t)) c.in-Set.is))
