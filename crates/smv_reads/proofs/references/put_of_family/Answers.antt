use Rattle.std.proofs.Common.{List, [], ap, sym, subst, ◌∙◌}
use Rattle.smv_core.specs.declared.flat.Class.{Class}
use Rattle.smv_core.specs.declared.flat.Simple.{Simple}
use Rattle.law_obligations.specs.Sets.{Has}
use Rattle.law_obligations.proofs.OneOfEach.{get_Has}
use Rattle.smv_elements.specs.Elements.{put_all}
use Rattle.smv_reads.specs.Reading.{elements_from, choices_in, read_at}
use Rattle.smv_reads.proofs.Joins.{on-ok-more}
use Rattle.smv_reads.proofs.IndexLaws.{reads-some}
use Rattle.smv_reads.proofs.references.put_of_family.Goals as goal

pub choices-requires-clause-over : goal.choices-requires-clause-over
choices-requires-clause-over c t h =
    c.requires.view.are_indexed c.args.f.now (get_Has c.args.view.now.design.now.families c.args.family c.args.f.now c.requires.there) t (subst (λ (ts : List Simple). Has ts t) c.as_slice-over.ensures h)

pub returns : goal.returns
returns c =
    on-ok-more c.put_from.result c.put_from.new.found (put_all c.args.found.now (elements_from c.args.family [] c.as_slice-listed.result.now)) (put_all c.args.found.now (read_at c.args.view.now c.args.bindings.now c.args.family c.args.indexes.now))
    (ap (λ (css : List (List Class)). put_all c.args.found.now (elements_from c.args.family [] css)) (c.as_slice-listed.ensures.value ∙ (c.in_ok-choices.ensures ∙ ap (choices_in c.args.view.now c.args.bindings.now c.args.indexes.now) c.as_slice-over.ensures))
    ∙ ap (put_all c.args.found.now) (sym (reads-some c.args.view.now c.args.bindings.now c.args.family c.args.indexes.now c.args.f.now c.requires.there)))
    c.put_from.ensures
