use Rattle.std.proofs.Common.{ap, sym, ◌∙◌}
use Rattle.smv_core.specs.Assignments.{modulo_fixed}
use Rattle.smv_core.specs.FlatMeaning.{flat_index}
use Rattle.smv_indexes.specs.Indexes.{added_all}
use Rattle.smv_indexes.proofs.IndexLaws.{index-Sum, index-Modulo}
use Rattle.smv_indexes.proofs.+indexes.Goals as goal

pub known-returns-in-Sum : goal.known-returns-in-Sum
known-returns-in-Sum t c =
    c.sum.ensures ∙ ap (λ i. added_all i c.as_slice.result.now) (c.known.ensures ∙ ap flat_index c.get.ensures) ∙ ap (added_all (flat_index c.in-Sum.first)) c.as_slice.ensures
    ∙ sym (index-Sum c.in-Sum.first c.in-Sum.more) ∙ ap flat_index (sym c.in-Sum.is)

pub known-returns-in-Modulo : goal.known-returns-in-Modulo
known-returns-in-Modulo t c =
    c.remainder.ensures ∙ ap (λ i. modulo_fixed i c.in-Modulo.by) (c.known-in-Modulo.ensures ∙ ap flat_index c.get-in-Modulo.ensures)
    ∙ sym (index-Modulo c.in-Modulo.of c.in-Modulo.by c.in-Modulo.at) ∙ ap flat_index (sym c.in-Modulo.is)
